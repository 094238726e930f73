-- What every command preserves: no row is after the session's moment, and if asked, each query's deliveries are its box.
use Rattle.std.proofs.Common.{◌≡◌, ◌∙◌, sym, ap, refl, subst, arith, ℕ, suc, ◌+◌, ℤ, pos, List, [], ◌∷◌, ◌++◌, length, map, Bool, true}
use Rattle.std.proofs.Common.{false, Option, Some, None, if◌then◌else◌}
use Rattle.std.specs.Prelude.{◌≤ℤ◌, int_le}
use Rattle.std.specs.Option.{option_or}
use Rattle.std.proofs.lemmas.Int.{ints}
use Rattle.tap_base.specs.Numbers.{moment_of}
use Rattle.tql_types.proofs.Ranges.{InRange, moment-range}
use Rattle.tap_rows.specs.declared.tables.Tables.{Tables}
use Rattle.tap_rows.specs.declared.rows.Doc.{Doc}
use Rattle.tap_rows.specs.declared.rows.Note.{Note}
use Rattle.tap_rows.specs.declared.rows.QueryRow.{QueryRow}
use Rattle.tap_rows.specs.declared.rows.FilterRow.{FilterRow}
use Rattle.tap_rows.specs.declared.change.Change.TheVariants.{Docs, OneNote, OneQuery, OneFilter}
use Rattle.tap_rows.specs.Tables.{after}
use Rattle.tap_rows.specs.Arrivals.{Arrived}
use Rattle.tap_rows.specs.Deliveries.{next_run, run_change}
use Rattle.tap_rows.specs.Kept.{Each, In, IsKept, IsBy}
use Rattle.tap_rows.proofs.LaterLaws.{each-map, each-append}
use Rattle.tap_rows.proofs.KeptLaws.{kept-docs, kept-note, kept-query, kept-filter, kept-run}
use Rattle.mail_lines.specs.declared.block.Block.{Block}
use Rattle.script_lang.specs.declared.command.Command.{Command}
use Rattle.script_lang.specs.declared.command.Command.TheVariants.{At, AsUser, Mail, Mbox, AddNote, Define, Run, BoxOf, ListOf, Filter}
use Rattle.script_lang.specs.declared.command.Command.TheVariants.{Explain, Ask, Wake, ScoresOf, DigestOf, Find, Bad}
use Rattle.script_lang.specs.declared.refusal.Refusal.{Refusal}
use Rattle.script_lang.specs.declared.refusal.Refusal.TheVariants.{BadMoment, Backwards, NoMoment}
use Rattle.tap_model.specs.declared.session.Session.{Session}
use Rattle.restart_core.specs.Starts.{is_from_now, stored_source}
use Rattle.tap_model.specs.Sessions.{moment_or_zero, or_zero, user_of, later_of, greatest_of, moments_in, greatest_moment, last_moment}
use Rattle.tap_model.specs.Queries.{query_truth, start_of, query_named}
use Rattle.tap_rows.specs.WellFormed.{is_query_of}
use Rattle.tap_model.specs.Verdicts.{verdict, first_refusal, missing, refuse_unless, is_back, block_text, messages_of}
use Rattle.tap_model.specs.Replies.{Answer, answer_of, answer_by, accepted, tables_after, set_moment, next_doc, next_note, next_query}
use Rattle.tap_model.specs.Replies.{next_filter, run_query, show_box, show_list, show_lines, show_wake, show_digest, ask_at, docs_from}
use Rattle.tap_model.specs.Replies.{next_docs, some_docs, add_mbox}
use Rattle.tap_model.specs.Sound.{IsNow}
use Rattle.tap_model.proofs.AnswerLaws.{truth-of-second, find-in, second-none}
use Rattle.tap_base.specs.Numbers.{IsMoment}

-- the tables are `IsKept`, if that is asked, and no row is of a time after the session's moment
pub record Held (Asked : Type 0) (tables : Tables) (session : Session) : Type 0 where
  pub kept : Asked → IsKept query_truth start_of tables
  pub now : IsNow session.moment tables

-- what an answer leaves is `Held`
abbrev Leaves : Type 0 → Tables → Answer → Type 0
Leaves Asked tables answer = Held Asked (tables_after answer.change tables) answer.session

-- a moment that is there, and is the session's
pub record Present (session : Session) : Type 0 where
  pub m : ℤ
  pub is : session.moment ≡ Some m

some-refusal : (x : Refusal) → Some x ≡ None → ⊥
some-refusal x e = cc

first-none : (x : Option Refusal) (rest : List (Option Refusal)) → first_refusal (x ∷ rest) ≡ None → x ≡ None
first-none None rest e = refl
first-none (Some x) rest e = absurd (some-refusal x e)

pub moment_or_zero-by : (session : Session) → missing NoMoment session.moment ≡ None → Present session
moment_or_zero-by session none = go session.moment refl where
  go : (moment : Option ℤ) → session.moment ≡ moment → Present session
  go (Some m) is = record { m = m; is = is }
  go None is = absurd (some-refusal NoMoment (sym (ap (missing NoMoment) is) ∙ none))

-- a query doesn't start after its arrival, nor after a moment that isn't before both
start-by : (m : ℤ) (query : QueryRow) → pos 0 ≤ℤ m → query.arrival ≤ℤ m → start_of query ≤ℤ m
unfolding start_of
start-by m query positive le =
    elim (is_from_now query.source) as (λ b. (if b then query.arrival else pos 0) ≤ℤ m) [ true ↦ le | false ↦ positive ]

-- what is known of the session's moment
pub now-at : {Asked : Type 0} (tables : Tables) (session : Session) (m : ℤ) → session.moment ≡ Some m → Held Asked tables session
    → IsMoment m × IsBy start_of m tables
now-at tables session m is held = subst (λ moment. IsNow moment tables) is held.now

-- rows that are by a moment are by a later one
by-later : (m n : ℤ) (tables : Tables) → m ≤ℤ n → IsBy start_of m tables → IsBy start_of n tables
by-later m n tables le by = record {
  docs = each-map (λ doc. doc.arrival ≤ℤ m) (λ doc. doc.arrival ≤ℤ n) tables.docs (λ doc l. omega (arith, ints, l, le)) by.docs;
  notes = each-map (λ note. note.arrival ≤ℤ m) (λ note. note.arrival ≤ℤ n) tables.notes (λ note l. omega (arith, ints, l, le)) by.notes;
  queries = each-map (λ query. (query.arrival ≤ℤ m) × (start_of query ≤ℤ m)) (λ query. (query.arrival ≤ℤ n) × (start_of query ≤ℤ n))
      tables.queries (λ query l. (omega (arith, ints, l.0, le), omega (arith, ints, l.1, le))) by.queries;
  runs = each-map (λ run. run.moment ≤ℤ m) (λ run. run.moment ≤ℤ n) tables.runs (λ run l. omega (arith, ints, l, le)) by.runs;
  filters = each-map (λ filter. filter.arrival ≤ℤ m) (λ filter. filter.arrival ≤ℤ n) tables.filters (λ filter l. omega (arith, ints, l, le))
      by.filters;
}

-- the greatest moment, where there is one, is at most this one
abbrev AtMost : ℤ → Option ℤ → Type 0
AtMost m None = Unit {0}
AtMost m (Some g) = g ≤ℤ m

later-both : (x m : ℤ) (o : Option ℤ) → later_of x o ≤ℤ m → (x ≤ℤ m) × AtMost m o
later-both x m None le = (le, tt)
later-both x m (Some g) le = go (int_le g x) refl where
  go : (b : Bool) → int_le g x ≡ b → (x ≤ℤ m) × (g ≤ℤ m)
  go true y = let l : x ≤ℤ m = subst (λ b. (if b then x else g) ≤ℤ m) y le in (l, grind (arith, ints))
  go false n = let l : g ≤ℤ m = subst (λ b. (if b then x else g) ≤ℤ m) n le in (grind (arith, ints), l)

all-by : (m : ℤ) (ms : List ℤ) → AtMost m (greatest_of ms) → Each (λ x. x ≤ℤ m) ms
all-by m [] most = tt
all-by m (x ∷ ms) most = let both = later-both x m (greatest_of ms) most in (both.0, all-by m ms both.1)

each-left : {A : Type 0} (P : A → Type 0) (xs ys : List A) → Each P (xs ++ ys) → Each P xs
each-left P [] ys each = tt
each-left P (x ∷ xs) ys each = (each.0, each-left P xs ys each.1)

each-right : {A : Type 0} (P : A → Type 0) (xs ys : List A) → Each P (xs ++ ys) → Each P ys
each-right P [] ys each = each
each-right P (x ∷ xs) ys each = each-right P xs ys each.1

each-of-map : {A : Type 0} (f : A → ℤ) (m : ℤ) (xs : List A) → Each (λ z. z ≤ℤ m) (map f xs) → Each (λ x. f x ≤ℤ m) xs
each-of-map f m [] each = tt
each-of-map f m (x ∷ xs) each = (each.0, each-of-map f m xs each.1)

-- all rows are by a moment that the greatest of them is not above
greatest-by : (m : ℤ) (tables : Tables) → pos 0 ≤ℤ m → AtMost m (greatest_moment tables) → IsBy start_of m tables
greatest-by m tables positive most =
    let all = all-by m (moments_in tables) most in
    let docs = map (λ doc. doc.arrival) tables.docs in
    let notes = map (λ note. note.arrival) tables.notes in
    let queries = map (λ query. query.arrival) tables.queries in
    let runs = map (λ run. run.moment) tables.runs in
    let filters = map (λ filter. filter.arrival) tables.filters in
    let four = each-left (λ z. z ≤ℤ m) (docs ++ notes ++ queries ++ runs) filters all in
    let three = each-left (λ z. z ≤ℤ m) (docs ++ notes ++ queries) runs four in
    let two = each-left (λ z. z ≤ℤ m) (docs ++ notes) queries three in
    record {
      docs = each-of-map (λ doc. doc.arrival) m tables.docs (each-left (λ z. z ≤ℤ m) docs notes two);
      notes = each-of-map (λ note. note.arrival) m tables.notes (each-right (λ z. z ≤ℤ m) docs notes two);
      queries = each-map (λ query. query.arrival ≤ℤ m) (λ query. (query.arrival ≤ℤ m) × (start_of query ≤ℤ m))
          tables.queries (λ query le. (le, start-by m query positive le))
          (each-of-map (λ query. query.arrival) m tables.queries (each-right (λ z. z ≤ℤ m) (docs ++ notes) queries three));
      runs = each-of-map (λ run. run.moment) m tables.runs (each-right (λ z. z ≤ℤ m) (docs ++ notes ++ queries) runs four);
      filters =
          each-of-map (λ filter. filter.arrival) m tables.filters (each-right (λ z. z ≤ℤ m) (docs ++ notes ++ queries ++ runs) filters all);
    }

-- the moment of a text is in range
pub moment-in-range : (text : List ℕ) (m : ℤ) → moment_of text ≡ Some m → IsMoment m
moment-in-range text m e = subst InRange e (moment-range text)

-- a second that is not refused is not below the last one
pub not-back : (last second : ℤ) → is_back (Some last) (Some second) ≡ None → last ≤ℤ second
not-back last second none = go (int_le last second) refl where
  go : (b : Bool) → int_le last second ≡ b → last ≤ℤ second
  go true y = grind (arith, ints)
  go false n = absurd (some-refusal (Backwards last) (sym (ap (λ b. refuse_unless b (Backwards last)) n) ∙ none))

-- the rows are by a moment that is not below the last one
at-by : {Asked : Type 0} (tables : Tables) (session : Session) (m : ℤ) → Held Asked tables session → pos 0 ≤ℤ m
    → is_back (last_moment session tables) (Some m) ≡ None → IsBy start_of m tables
at-by tables session m held positive none = go session.moment refl where
  at-greatest : (o : Option ℤ) → is_back o (Some m) ≡ None → AtMost m o
  at-greatest None e = tt
  at-greatest (Some g) e = not-back g m e

  go : (moment : Option ℤ) → session.moment ≡ moment → IsBy start_of m tables
  go (Some last) is =
      by-later last m tables (not-back last m (sym (ap (λ o. is_back (option_or o (greatest_moment tables)) (Some m)) is) ∙ none))
      (now-at tables session last is held).1
  go None is = greatest-by m tables positive
      (at-greatest (greatest_moment tables) (sym (ap (λ o. is_back (option_or o (greatest_moment tables)) (Some m)) is) ∙ none))

at-held : {Asked : Type 0} (text : List ℕ) (session : Session) (tables : Tables) → Held Asked tables session
    → verdict (At text) session tables ≡ None → Leaves Asked tables (accepted (At text) session tables)
at-held {Asked = Asked} text session tables held none = go (moment_of text) refl where
  go : (moment : Option ℤ) → moment_of text ≡ moment → Leaves Asked tables (set_moment moment session)
  go None is = held
  go (Some m) is =
      let range = moment-in-range text m is in
      let back = second-none (missing BadMoment (moment_of text)) (is_back (last_moment session tables) (moment_of text)) [] none in
      record {
        kept = held.kept;
        now = (range, at-by tables session m held range.0 (sym (ap (is_back (last_moment session tables)) is) ∙ back));
      }

-- one more document at the end
arrived-more : (num : ℕ) (low m : ℤ) (docs : List Doc) (doc : Doc) → Arrived num low docs → Each (λ doc. doc.arrival ≤ℤ m) docs → low ≤ℤ m
    → doc.arrival ≡ m → doc.num.0 ≡ num + length docs → Arrived num low (docs ++ doc ∷ [])
arrived-more num low m [] doc arrived each le is at = (subst (λ z. low ≤ℤ z) (sym is) le, omega (arith, at), tt)
arrived-more num low m (other ∷ docs) doc arrived each le is at =
    (arrived.0, arrived.1, arrived-more (suc num) other.arrival m docs doc arrived.2 each.1 each.0 is (omega (arith, at)))

mail-held : {Asked : Type 0} (block : Block) (session : Session) (tables : Tables) → Held Asked tables session → Present session
    → Leaves Asked tables (accepted (Mail block) session tables)
mail-held block session tables held there =
    let m = there.m in
    let now = now-at tables session m there.is held in
    let doc : Doc = next_doc tables (moment_or_zero session) (block_text block) in
    let at : doc.arrival ≡ m = ap or_zero there.is in
    let le : doc.arrival ≤ℤ m = subst (λ z. z ≤ℤ m) (sym at) (omega (arith, ints)) in
    let ge : m ≤ℤ doc.arrival = subst (λ z. m ≤ℤ z) (sym at) (omega (arith, ints)) in
    record {
      kept = λ asked. kept-docs query_truth start_of truth-of-second m tables (doc ∷ []) (held.kept asked) now.1 (ge, tt)
          (arrived-more 1 (pos 0) m tables.docs doc (held.kept asked).docs now.1.docs now.0.0 at (omega arith));
      now = subst (λ moment. IsNow moment (after tables (Docs (doc ∷ [])))) (sym there.is) (
        now.0,
        record {
          docs = each-append (λ doc. doc.arrival ≤ℤ m) tables.docs (doc ∷ []) now.1.docs (le, tt);
          notes = now.1.notes;
          queries = now.1.queries;
          runs = now.1.runs;
          filters = now.1.filters;
        },
      );
    }

-- more documents at the end
each-at : (P : Doc → Type 0) (num : ℕ) (moment : ℤ) (texts : List (List ℕ)) → ((doc : Doc) → doc.arrival ≡ moment → P doc)
    → Each P (docs_from num moment texts)
each-at P num moment [] all = tt
each-at P num moment (text ∷ texts) all =
    (all (record { num = record { 0 = num }; arrival = moment; text = text }) refl, each-at P (num + 1) moment texts all)

arrived-from : (num : ℕ) (low m moment : ℤ) (texts : List (List ℕ)) → low ≤ℤ m → moment ≡ m → Arrived num low (docs_from num moment texts)
arrived-from num low m moment [] le at = tt
arrived-from num low m moment (text ∷ texts) le at = (
  subst (λ z. low ≤ℤ z) (sym at) le,
  refl,
  subst (λ n. Arrived n moment (docs_from (num + 1) moment texts)) (up num)
      (arrived-from (num + 1) moment m moment texts (subst (λ z. z ≤ℤ m) (sym at) (omega (arith, ints))) at),
) where
  up : (n : ℕ) → n + 1 ≡ suc n
  up n = omega arith

arrived-all : (num : ℕ) (low m moment : ℤ) (docs : List Doc) (texts : List (List ℕ)) (next : ℕ) → Arrived num low docs
    → Each (λ doc. doc.arrival ≤ℤ m) docs → low ≤ℤ m → moment ≡ m → next ≡ num + length docs
    → Arrived num low (docs ++ docs_from next moment texts)
arrived-all num low m moment [] texts next arrived each le at is =
    subst (λ n. Arrived num low (docs_from n moment texts)) (none is) (arrived-from num low m moment texts le at) where
      none : next ≡ num + 0 → num ≡ next
      none e = omega (arith, e)
arrived-all num low m moment (doc ∷ docs) texts next arrived each le at is =
    (arrived.0, arrived.1, arrived-all (suc num) doc.arrival m moment docs texts next arrived.2 each.1 each.0 at (omega (arith, is)))

docs-held : {Asked : Type 0} (docs : List Doc) (m : ℤ) (session : Session) (tables : Tables) → Held Asked tables session
    → session.moment ≡ Some m → Each (λ doc. doc.arrival ≤ℤ m) docs → Each (λ doc. m ≤ℤ doc.arrival) docs
    → (Asked → Arrived 1 (pos 0) (tables.docs ++ docs)) → Held Asked (tables_after (some_docs docs) tables) session
docs-held [] m session tables held is by from arrived = held
docs-held (doc ∷ docs) m session tables held is by from arrived =
    let now = now-at tables session m is held in
    record {
      kept = λ asked. kept-docs query_truth start_of truth-of-second m tables (doc ∷ docs) (held.kept asked) now.1 from (arrived asked);
      now = subst (λ moment. IsNow moment (after tables (Docs (doc ∷ docs)))) (sym is) (
        now.0,
        record {
          docs = each-append (λ doc. doc.arrival ≤ℤ m) tables.docs (doc ∷ docs) now.1.docs by;
          notes = now.1.notes;
          queries = now.1.queries;
          runs = now.1.runs;
          filters = now.1.filters;
        },
      );
    }

mbox-held : {Asked : Type 0} (texts : List (List ℕ)) (session : Session) (tables : Tables) → Held Asked tables session → Present session
    → Leaves Asked tables (add_mbox texts session tables)
mbox-held texts session tables held there =
    let m = there.m in
    let now = now-at tables session m there.is held in
    let at : moment_or_zero session ≡ m = ap or_zero there.is in
    docs-held (next_docs tables (moment_or_zero session) texts) m session tables held there.is
    (each-at (λ doc. doc.arrival ≤ℤ m) (length tables.docs + 1) (moment_or_zero session) texts (λ doc e.
    subst (λ z. z ≤ℤ m) (sym (e ∙ at)) (omega (arith, ints))))
    (each-at (λ doc. m ≤ℤ doc.arrival) (length tables.docs + 1) (moment_or_zero session) texts (λ doc e.
    subst (λ z. m ≤ℤ z) (sym (e ∙ at)) (omega (arith, ints))))
    (λ asked. arrived-all 1 (pos 0) m (moment_or_zero session) tables.docs texts (length tables.docs + 1)
    (held.kept asked).docs now.1.docs now.0.0 at (omega arith))

note-held : {Asked : Type 0} (doc : ℕ) (kind : List ℕ) (value : ℤ) (text : List ℕ) (session : Session) (tables : Tables)
    → Held Asked tables session → Present session → Leaves Asked tables (accepted (AddNote doc kind value text) session tables)
note-held doc kind value text session tables held there =
    let m = there.m in
    let now = now-at tables session m there.is held in
    let note : Note = next_note tables session doc kind value text in
    let at : note.arrival ≡ m = ap or_zero there.is in
    let le : note.arrival ≤ℤ m = subst (λ z. z ≤ℤ m) (sym at) (omega (arith, ints)) in
    let ge : m ≤ℤ note.arrival = subst (λ z. m ≤ℤ z) (sym at) (omega (arith, ints)) in
    record {
      kept = λ asked. kept-note query_truth start_of truth-of-second m tables note (held.kept asked) now.1 ge;
      now = subst (λ moment. IsNow moment (after tables (OneNote note))) (sym there.is) (
        now.0,
        record {
          docs = now.1.docs;
          notes = each-append (λ note. note.arrival ≤ℤ m) tables.notes (note ∷ []) now.1.notes (le, tt);
          queries = now.1.queries;
          runs = now.1.runs;
          filters = now.1.filters;
        },
      );
    }

define-held : {Asked : Type 0} (name source : List ℕ) (session : Session) (tables : Tables) → Held Asked tables session → Present session
    → Leaves Asked tables (accepted (Define name source) session tables)
define-held name source session tables held there =
    let m = there.m in
    let now = now-at tables session m there.is held in
    let query : QueryRow = next_query tables session name (stored_source source) in
    let at : query.arrival ≡ m = ap or_zero there.is in
    let le : query.arrival ≤ℤ m = subst (λ z. z ≤ℤ m) (sym at) (omega (arith, ints)) in
    record {
      kept = λ asked. kept-query query_truth start_of truth-of-second m tables query (held.kept asked) now.1 refl;
      now = subst (λ moment. IsNow moment (after tables (OneQuery query))) (sym there.is) (
        now.0,
        record {
          docs = now.1.docs;
          notes = now.1.notes;
          queries = each-append (λ query. (query.arrival ≤ℤ m) × (start_of query ≤ℤ m)) tables.queries (query ∷ [])
              now.1.queries ((le, start-by m query now.0.0 le), tt);
          runs = now.1.runs;
          filters = now.1.filters;
        },
      );
    }

run-held : {Asked : Type 0} (session : Session) (tables : Tables) (query : Option QueryRow)
    → ((q : QueryRow) → query ≡ Some q → In q tables.queries) → Held Asked tables session → Present session
    → Leaves Asked tables (run_query query session tables)
run-held session tables None has held there = held
run-held {Asked = Asked} session tables (Some q) has held there =
    let m = there.m in
    let now = now-at tables session m there.is held in
    let at : moment_or_zero session ≡ m = ap or_zero there.is in
    subst (λ z. Leaves Asked tables (record {
      reply = (run_query (Some q) session tables).reply;
      session = session;
      change = Some (run_change (query_truth q) (start_of q) tables q.num z);
    })) (sym at) (record {
      kept = λ asked. kept-run query_truth start_of truth-of-second m tables q (held.kept asked) now.1 (has q refl);
      now = subst (λ moment. IsNow moment (after tables (run_change (query_truth q) (start_of q) tables q.num m))) (sym there.is) (
        now.0,
        record {
          docs = now.1.docs;
          notes = now.1.notes;
          queries = now.1.queries;
          runs = each-append (λ run. run.moment ≤ℤ m) tables.runs (next_run tables q.num m ∷ []) now.1.runs (omega (arith, ints), tt);
          filters = now.1.filters;
        },
      );
    })

box-held : {Asked : Type 0} (session : Session) (tables : Tables) (query : Option QueryRow) (name : List ℕ) → Held Asked tables session
    → Leaves Asked tables (show_box query name session tables)
box-held session tables None name held = held
box-held session tables (Some q) name held = held

list-held : {Asked : Type 0} (session : Session) (tables : Tables) (query : Option QueryRow) (name : List ℕ) → Held Asked tables session
    → Leaves Asked tables (show_list query name session tables)
list-held session tables None name held = held
list-held session tables (Some q) name held = held

lines-held : {Asked : Type 0} (session : Session) (tables : Tables) (query : Option QueryRow) (name : List ℕ) → Held Asked tables session
    → Leaves Asked tables (show_lines query name session tables)
lines-held session tables None name held = held
lines-held session tables (Some q) name held = held

filter-held : {Asked : Type 0} (block : Block) (session : Session) (tables : Tables) → Held Asked tables session → Present session
    → Leaves Asked tables (accepted (Filter block) session tables)
filter-held block session tables held there =
    let m = there.m in
    let now = now-at tables session m there.is held in
    let filter : FilterRow = next_filter tables session (block_text block) in
    let at : filter.arrival ≡ m = ap or_zero there.is in
    let le : filter.arrival ≤ℤ m = subst (λ z. z ≤ℤ m) (sym at) (omega (arith, ints)) in
    record {
      kept = λ asked. kept-filter query_truth start_of truth-of-second m tables filter (held.kept asked) now.1;
      now = subst (λ moment. IsNow moment (after tables (OneFilter filter))) (sym there.is) (
        now.0,
        record {
          docs = now.1.docs;
          notes = now.1.notes;
          queries = now.1.queries;
          runs = now.1.runs;
          filters = each-append (λ filter. filter.arrival ≤ℤ m) tables.filters (filter ∷ []) now.1.filters (le, tt);
        },
      );
    }

wake-held : {Asked : Type 0} (session : Session) (tables : Tables) (query : Option QueryRow) (name : List ℕ) → Held Asked tables session
    → Leaves Asked tables (show_wake query name session tables)
wake-held session tables None name held = held
wake-held session tables (Some q) name held = held

digest-held : {Asked : Type 0} (session : Session) (tables : Tables) (query : Option QueryRow) (name : List ℕ) (ordinal : ℕ)
    → Held Asked tables session → Leaves Asked tables (show_digest query name ordinal session tables)
digest-held session tables None name ordinal held = held
digest-held session tables (Some q) name ordinal held = held

ask-held : {Asked : Type 0} (second : Option ℤ) (source : List ℕ) (session : Session) (tables : Tables) → Held Asked tables session
    → Leaves Asked tables (ask_at second source session tables)
ask-held None source session tables held = held
ask-held (Some second) source session tables held = held

-- a command that isn't refused keeps it
accepted-held : {Asked : Type 0} (command : Command) (session : Session) (tables : Tables) → Held Asked tables session
    → verdict command session tables ≡ None → Leaves Asked tables (accepted command session tables)
accepted-held (At text) session tables held none = at-held text session tables held none
accepted-held (AsUser name) session tables held none = record { kept = held.kept; now = held.now }
accepted-held (Mail block) session tables held none =
    mail-held block session tables held (moment_or_zero-by session (first-none (missing NoMoment session.moment) _ none))
accepted-held (Define name source) session tables held none =
    define-held name source session tables held (moment_or_zero-by session (first-none (missing NoMoment session.moment) _ none))
accepted-held (Run name) session tables held none =
    run-held session tables (query_named (user_of session) name tables) (find-in (is_query_of (user_of session) name) tables.queries) held
    (moment_or_zero-by session (first-none (missing NoMoment session.moment) _ none))
accepted-held (BoxOf name) session tables held none = box-held session tables (query_named (user_of session) name tables) name held
accepted-held (Bad refusal) session tables held none = held
accepted-held (Mbox block) session tables held none =
    mbox-held (messages_of block) session tables held (moment_or_zero-by session (first-none (missing NoMoment session.moment) _ none))
accepted-held (AddNote doc kind value text) session tables held none =
    note-held doc kind value text session tables held (moment_or_zero-by session (first-none (missing NoMoment session.moment) _ none))
accepted-held (ListOf name) session tables held none = list-held session tables (query_named (user_of session) name tables) name held
accepted-held (Filter block) session tables held none =
    filter-held block session tables held (moment_or_zero-by session (first-none (missing NoMoment session.moment) _ none))
accepted-held (Explain name) session tables held none = lines-held session tables (query_named (user_of session) name tables) name held
accepted-held (Ask moment source) session tables held none = ask-held (moment_of moment) source session tables held
accepted-held (Wake name) session tables held none = wake-held session tables (query_named (user_of session) name tables) name held
accepted-held (ScoresOf kind) session tables held none = held
accepted-held (Find lookup) session tables held none = held
accepted-held (DigestOf name ordinal) session tables held none =
    digest-held session tables (query_named (user_of session) name tables) name ordinal held

-- so does each command
pub answer-held : {Asked : Type 0} (command : Command) (session : Session) (tables : Tables) → Held Asked tables session
    → Leaves Asked tables (answer_of command session tables)
answer-held {Asked = Asked} command session tables held = go (verdict command session tables) refl where
  go : (v : Option Refusal) → verdict command session tables ≡ v → Leaves Asked tables (answer_by v command session tables)
  go None none = accepted-held command session tables held none
  go (Some refusal) is = held
