-- What a user sees, without what was delivered: it decides the deliveries, the hits of a run, and the boxes.
use Rattle.std.proofs.Common.{◌≡◌, ◌∙◌, sym, ap, refl, arith, ℕ, ℤ, List, [], ◌∷◌, length, map, Bool, true, false, Option, Some}
use Rattle.std.proofs.Common.{if◌then◌else◌}
use Rattle.std.specs.Prelude.{◌&&◌, filter, find}
use Rattle.std.specs.Option.{option_map}
use Rattle.std.specs.Str.{bytes_eq}
use Rattle.std.proofs.lemmas.Int.{ints}
use Rattle.tap_rows.specs.declared.tables.Tables.{Tables}
use Rattle.tap_rows.specs.declared.rows.Doc.{Doc}
use Rattle.tap_rows.specs.declared.rows.Note.{Note}
use Rattle.tap_rows.specs.declared.rows.QueryRow.{QueryRow}
use Rattle.tap_rows.specs.declared.rows.RunRow.{RunRow}
use Rattle.tap_rows.specs.declared.results.Hit.{Hit}
use Rattle.tap_rows.specs.declared.results.Entry.{Entry}
use Rattle.tap_rows.specs.Results.{run_moments, covered, last_or, fresh_in, union_until, entries_from}
use Rattle.tap_rows.specs.Kept.{Each, IsKeptQuery}
use Rattle.tap_rows.proofs.LaterLaws.{fresh-later, grown-same}
use Rattle.restart_core.specs.Starts.{condition_text}
use Rattle.script_lang.specs.Rows.{query_text}
use Rattle.tap_model.specs.declared.session.Session.{Session}
use Rattle.tap_model.specs.Queries.{query_truth, start_of, hits_of, box_of_query, lines_of, owned_queries}
use Rattle.tap_model.specs.Lookups.{last_of, query_line}
use Rattle.tap_rows.specs.WellFormed.{is_query_of}
use Rattle.tap_model.specs.Filters.{last_filter}
use Rattle.tap_model.specs.Sound.{IsSound}
use Rattle.tap_model.specs.Privacy.{QueryView, query_view, View, view_of}
use Rattle.tap_model.proofs.AnswerLaws.{truth-of-second}

-- a query without its number, its owner and its deliveries
pub record Core : Type 0 where
  pub name : List ℕ
  pub source : List ℕ
  pub arrival : ℤ
  pub runs : List ℤ

abbrev pub core_of : List RunRow → QueryRow → Core
core_of runs query = record { name = query.name; source = query.source; arrival = query.arrival; runs = run_moments query.num.0 runs }

abbrev pub cores : List ℕ → List RunRow → List QueryRow → List Core
cores user runs queries = map (core_of runs) (filter (λ query. bytes_eq query.owner user) queries)

abbrev pub source_in : Tables → List ℕ → Option (List ℕ)
source_in tables user = option_map (λ filter. filter.source) (last_filter user tables.filters)

-- a view without deliveries
pub record Brief : Type 0 where
  pub docs : List Doc
  pub notes : List Note
  pub queries : List Core
  pub filter : Option (List ℕ)
  pub moment : Option ℤ

abbrev pub brief_of : List ℕ → Session → Tables → Brief
brief_of user session tables = record {
  docs = tables.docs;
  notes = tables.notes;
  queries = cores user tables.runs tables.queries;
  filter = source_in tables user;
  moment = session.moment;
}

map-twice : {A B C : Type 0} (f : B → C) (g : A → B) (xs : List A) → map f (map g xs) ≡ map (λ x. f (g x)) xs
map-twice f g [] = refl
map-twice f g (x ∷ xs) = ap (λ ys. f (g x) ∷ ys) (map-twice f g xs)

abbrev seen_core : QueryView → Core
seen_core query = record { name = query.name; source = query.source; arrival = query.arrival; runs = query.runs }

abbrev seen_brief : View → Brief
seen_brief view =
    record { docs = view.docs; notes = view.notes; queries = map seen_core view.queries; filter = view.filter; moment = view.moment }

brief-is : (user : List ℕ) (s : Session) (t : Tables) → seen_brief (view_of user s t) ≡ brief_of user s t
brief-is user s t = ap (λ qs. record { docs = t.docs; notes = t.notes; queries = qs; filter = source_in t user; moment = s.moment })
    (map-twice seen_core (query_view t) (owned_queries user t))

-- equal views are equal without deliveries
pub brief-same : (user : List ℕ) (s s' : Session) (t t' : Tables) → view_of user s t ≡ view_of user s' t'
    → brief_of user s t ≡ brief_of user s' t'
brief-same user s s' t t' same = sym (brief-is user s t) ∙ ap seen_brief same ∙ brief-is user s' t'

-- a row and tables by which laws over them are read as laws over a core, or over documents and notes
abbrev row_of : Core → QueryRow
row_of core = record { num = record { 0 = 0 }; owner = []; name = core.name; source = core.source; arrival = core.arrival }

abbrev bare : List Doc → List Note → Tables
bare docs notes = record { docs = docs; notes = notes; queries = []; runs = []; picks = []; filters = [] }

abbrev pub core_hits : List Doc → List Note → Core → ℤ → List Hit
core_hits docs notes core moment =
    fresh_in (query_truth (row_of core)) (bare docs notes) (start_of (row_of core)) (last_or (start_of (row_of core)) core.runs) moment

abbrev pub core_entries : List Doc → List Note → Core → List Entry
core_entries docs notes core = entries_from core.runs (union_until (query_truth (row_of core)) (bare docs notes) (start_of (row_of core))
    (last_or (start_of (row_of core)) core.runs)) 1 core.runs

abbrev pub core_lines : Core → List (List ℕ)
core_lines core = lines_of (row_of core)

fresh-bare : (q : QueryRow) (t : Tables) (start tau until : ℤ)
    → fresh_in (query_truth q) t start tau until ≡ fresh_in (query_truth q) (bare t.docs t.notes) start tau until
fresh-bare q t start tau until = fresh-later (query_truth q) until (bare t.docs t.notes) t start tau until (truth-of-second q)
    (grown-same until (bare t.docs t.notes) t refl refl) (omega (arith, ints))

-- what a run delivers, and a box, are of the documents, the notes and the core alone
pub hits-core : (q : QueryRow) (t : Tables) (moment : ℤ) → hits_of q t moment ≡ core_hits t.docs t.notes (core_of t.runs q) moment
unfolding start_of
hits-core q t moment = fresh-bare q t (start_of q) (covered (start_of q) q.num.0 t.runs) moment

pub box-core : (q : QueryRow) (t : Tables) → box_of_query q t ≡ core_entries t.docs t.notes (core_of t.runs q)
unfolding start_of
box-core q t =
    ap (λ hits. entries_from (run_moments q.num.0 t.runs) hits 1 (run_moments q.num.0 t.runs))
    (fresh-bare q t (start_of q) (start_of q) (covered (start_of q) q.num.0 t.runs))

-- the lines that explain a query are of its core alone
pub lines-core : (q : QueryRow) (runs : List RunRow) → lines_of q ≡ core_lines (core_of runs q)
unfolding start_of
lines-core q runs = refl

-- the line of a query is of the documents, the notes and its core alone
abbrev pub core_line : List Doc → List Note → Core → List ℕ
core_line docs notes core =
    query_text core.name
    (record {
      arrival = core.arrival;
      start = start_of (row_of core);
      runs = length core.runs;
      last = last_of core.runs;
      boxed = length (core_entries docs notes core);
    })
    (condition_text core.source)

line-core : (q : QueryRow) (t : Tables) → query_line t q ≡ core_line t.docs t.notes (core_of t.runs q)
unfolding start_of
line-core q t =
    ap
    (λ (entries : List Entry). query_text q.name
    (record {
      arrival = q.arrival;
      start = start_of q;
      runs = length (run_moments q.num.0 t.runs);
      last = last_of (run_moments q.num.0 t.runs);
      boxed = length entries;
    })
    (condition_text q.source))
    (box-core q t)

pub each-line-core : (t : Tables) (qs : List QueryRow) → map (query_line t) qs ≡ map (core_line t.docs t.notes) (map (core_of t.runs) qs)
each-line-core t [] = refl
each-line-core t (q ∷ qs) = both _ _ _ _ (line-core q t) (each-line-core t qs) where
  both : (x y : List ℕ) (xs ys : List (List ℕ)) → x ≡ y → xs ≡ ys → x ∷ xs ≡ y ∷ ys
  both x y xs ys e f = rw (e, f) refl

abbrev full_query : List Doc → List Note → Core → QueryView
full_query docs notes core =
    record { name = core.name; source = core.source; arrival = core.arrival; runs = core.runs; entries = core_entries docs notes core }

abbrev full_view : Brief → View
full_view brief = record {
  docs = brief.docs;
  notes = brief.notes;
  queries = map (full_query brief.docs brief.notes) brief.queries;
  filter = brief.filter;
  moment = brief.moment;
}

full-one : (q : QueryRow) (t : Tables) → IsKeptQuery query_truth start_of t q
    → query_view t q ≡ full_query t.docs t.notes (core_of t.runs q)
full-one q t kept =
    ap (λ entries. record { name = q.name; source = q.source; arrival = q.arrival; runs = run_moments q.num.0 t.runs; entries = entries })
    (kept.box ∙ box-core q t)

full-queries : (user : List ℕ) (t : Tables) (qs : List QueryRow) → Each (IsKeptQuery query_truth start_of t) qs
    → map (query_view t) (filter (λ query. bytes_eq query.owner user) qs) ≡ map (full_query t.docs t.notes) (cores user t.runs qs)
full-queries user t [] each = refl
full-queries user t (q ∷ qs) each = go (bytes_eq q.owner user) (full-queries user t qs each.1) where
  both : (x y : QueryView) (xs ys : List QueryView) → x ≡ y → xs ≡ ys → x ∷ xs ≡ y ∷ ys
  both x y xs ys e f = rw (e, f) refl

  go : (b : Bool)
      → map (query_view t) (filter (λ query. bytes_eq query.owner user) qs) ≡ map (full_query t.docs t.notes) (cores user t.runs qs)
      → map (query_view t) (if b then q ∷ filter (λ query. bytes_eq query.owner user) qs
      else filter (λ query. bytes_eq query.owner user) qs) ≡ map (full_query t.docs t.notes) (map (core_of t.runs)
      (if b then q ∷ filter (λ query. bytes_eq query.owner user) qs else filter (λ query. bytes_eq query.owner user) qs))
  go true rest = both _ _ _ _ (full-one q t each.0) rest
  go false rest = rest

view-is : (user : List ℕ) (s : Session) (t : Tables) → IsSound t s → view_of user s t ≡ full_view (brief_of user s t)
view-is user s t sound = ap (λ qs. record { docs = t.docs; notes = t.notes; queries = qs; filter = source_in t user; moment = s.moment })
    (full-queries user t t.queries sound.kept.each)

-- at sound points what is equal without deliveries is equal with them
pub view-same : (user : List ℕ) (s s' : Session) (t t' : Tables) → IsSound t s → IsSound t' s' → brief_of user s t ≡ brief_of user s' t'
    → view_of user s t ≡ view_of user s' t'
view-same user s s' t t' sound sound' same = view-is user s t sound ∙ ap full_view same ∙ sym (view-is user s' t' sound')

-- the user's query of a name is the first core of that name
pub named-core : (user name : List ℕ) (runs : List RunRow) (qs : List QueryRow)
    → option_map (core_of runs) (find (is_query_of user name) qs) ≡ find (λ core. bytes_eq core.name name) (cores user runs qs)
named-core user name runs [] = refl
named-core user name runs (q ∷ qs) = go (bytes_eq q.owner user) (bytes_eq q.name name) refl (named-core user name runs qs) where
  go : (a b : Bool) → bytes_eq q.name name ≡ b
      → option_map (core_of runs) (find (is_query_of user name) qs) ≡ find (λ core. bytes_eq core.name name) (cores user runs qs)
      → option_map (core_of runs) (if a && b then Some q else find (is_query_of user name) qs)
      ≡ find (λ core. bytes_eq core.name name) (map (core_of runs)
      (if a then q ∷ filter (λ query. bytes_eq query.owner user) qs else filter (λ query. bytes_eq query.owner user) qs))
  go true true e rest = rw e refl
  go true false e rest = rw e rest
  go false true e rest = rest
  go false false e rest = rest
