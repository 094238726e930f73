-- No row is damaged just where the tables are well formed and each query's source can be read.
use Rattle.std.proofs.Common.{◌≡◌, ◌∙◌, sym, ap, refl, ℕ, ◌+◌, ℤ, pos, Bool, true, false, Option, Some, None, List, [], ◌∷◌, ◌++◌, length}
use Rattle.std.specs.Prelude.{◌&&◌, ◌==◌, is_none, not, nat_le, int_lt, int_le, Result, Ok, Err, IsOk}
use Rattle.std.specs.List.{list_any, list_all}
use Rattle.std.specs.Option.{option_or}
use Rattle.std.proofs.lemmas.Bool.{and_parts, and_from, false≢true}
use Rattle.tap_base.specs.Names.{is_name}
use Rattle.tap_rows.specs.declared.tables.Tables.{Tables}
use Rattle.tap_rows.specs.declared.rows.Doc.{Doc}
use Rattle.tap_rows.specs.declared.rows.Note.{Note}
use Rattle.tap_rows.specs.declared.rows.QueryRow.{QueryRow}
use Rattle.tap_rows.specs.declared.rows.RunRow.{RunRow}
use Rattle.tap_rows.specs.declared.rows.Pick.{Pick}
use Rattle.tap_rows.specs.declared.rows.FilterRow.{FilterRow}
use Rattle.tap_rows.specs.Kept.{Each}
use Rattle.tap_rows.specs.WellFormed.{may_follow, row_at, docs_stand, doc_stands, has_arrived, note_stands, notes_stand, is_query_of}
use Rattle.tap_rows.specs.WellFormed.{query_stands, queries_stand, was_defined, run_stands, runs_stand, is_picked, comes_after, pick_stands}
use Rattle.tap_rows.specs.WellFormed.{picks_stand, filter_stands, filters_stand, is_well_formed}
use Rattle.tap_rows.proofs.Tests.{and_swapped}
use Rattle.tql_core.specs.Condition.{Condition}
use Rattle.tql_text.specs.declared.fault.TextFault.{TextFault}
use Rattle.restart_core.specs.Readings.{reading_of}
use Rattle.restart_core.specs.declared.fault.TableName.{TableName}
use Rattle.restart_core.specs.declared.fault.TableName.TheVariants.{Docs, Notes, Queries, Runs, Picks, Filters}
use Rattle.restart_core.specs.declared.fault.Why.{Why}
use Rattle.restart_core.specs.declared.fault.Why.TheVariants.{Number, Moment, Reference, Name, Twice, Text, Second, Order}
use Rattle.restart_core.specs.declared.fault.RestartFault.{RestartFault}
use Rattle.restart_core.specs.Damages.{damaged_unless, first_reason, row_damage, is_condition, is_readable, doc_reason, note_reason}
use Rattle.restart_core.specs.Damages.{query_reason, run_reason, refers, is_second_possible, is_same_pick, pick_reason, filter_reason}
use Rattle.restart_core.specs.Damages.{docs_damage, notes_damage, queries_damage, runs_damage, picks_damage, filters_damage, damage_of}

-- reasons, and what they deny
three : (a b c : Bool) (x y z : Why)
    → is_none (first_reason (damaged_unless a x ∷ damaged_unless b y ∷ damaged_unless c z ∷ [])) ≡ (a && b && c)
three true true true x y z = refl
three true true false x y z = refl
three true false c x y z = refl
three false b c x y z = refl

four : (a b c d e : Bool) (w x y z : Why)
    → is_none (first_reason (damaged_unless a w ∷ damaged_unless b x ∷ damaged_unless c y ∷ damaged_unless (d && e) z ∷ []))
    ≡ (a && b && c && d && e)
four true true true true true w x y z = refl
four true true true true false w x y z = refl
four true true true false e w x y z = refl
four true true false d e w x y z = refl
four true false c d e w x y z = refl
four false b c d e w x y z = refl

five : (a b c d e f : Bool) (v w x y z : Why)
    → is_none (first_reason (first_reason (damaged_unless a v ∷ damaged_unless b w ∷ damaged_unless (c && d) x ∷ []) ∷ damaged_unless e y
    ∷ damaged_unless f z ∷ [])) ≡ ((a && b && c && d && e) && f)
five true true true true true true v w x y z = refl
five true true true true true false v w x y z = refl
five true true true true false f v w x y z = refl
five true true true false e f v w x y z = refl
five true true false d e f v w x y z = refl
five true false c d e f v w x y z = refl
five false b c d e f v w x y z = refl

-- the same, where two of them are one test
parted : (a r t s o p : Bool) (v w x y z : Why) → p ≡ (r && s)
    → is_none (first_reason (damaged_unless a v ∷ damaged_unless r w ∷ damaged_unless t x ∷ damaged_unless s y ∷ damaged_unless o z ∷ []))
    ≡ (a && p && t && o)
parted a r t s o p v w x y z e = go a r t s o ∙ sym (ap (λ b. a && b && t && o) e) where
  go : (a r t s o : Bool)
      → is_none (first_reason (damaged_unless a v ∷ damaged_unless r w ∷ damaged_unless t x ∷ damaged_unless s y ∷ damaged_unless o z ∷ []))
      ≡ (a && (r && s) && t && o)
  go true true true true true = refl
  go true true true true false = refl
  go true true true false o = refl
  go true true false true o = refl
  go true true false false o = refl
  go true false t s o = refl
  go false r t s o = refl

-- a row before others
row-none : (table : TableName) (place : ℕ) (reason : Option Why) (rest : Option RestartFault)
    → is_none (option_or (row_damage table place reason) rest) ≡ (is_none reason && is_none rest)
row-none table place None rest = refl
row-none table place (Some why) rest = refl

-- a row before others, where it has no reason just where it stands
rows-none : (table : TableName) (place : ℕ) (reason : Option Why) (rest : Option RestartFault) (one all : Bool) → is_none reason ≡ one
    → is_none rest ≡ all → is_none (option_or (row_damage table place reason) rest) ≡ (one && all)
rows-none table place reason rest one all e f = row-none table place reason rest ∙ ap (λ b. b && is_none rest) e ∙ ap (λ b. one && b) f

docs-none : (place : ℕ) (low : ℤ) (docs : List Doc) → is_none (docs_damage place low docs) ≡ docs_stand place low docs
docs-none place low [] = refl
docs-none place low (doc ∷ docs) =
    rows-none Docs place (doc_reason place low doc) (docs_damage (place + 1) doc.arrival docs) (doc_stands place low doc)
    (docs_stand (place + 1) doc.arrival docs)
    (three (doc.num.0 == place) (may_follow low doc.arrival) (nat_le (length doc.text) 1048576) Number Moment Text)
    (docs-none (place + 1) doc.arrival docs)

notes-none : (docs : List Doc) (place : ℕ) (low : ℤ) (notes : List Note)
    → is_none (notes_damage docs place low notes) ≡ notes_stand docs place low notes
notes-none docs place low [] = refl
notes-none docs place low (note ∷ notes) =
    rows-none Notes place (note_reason docs place low note) (notes_damage docs (place + 1) note.arrival notes)
    (note_stands docs place low note) (notes_stand docs (place + 1) note.arrival notes)
    (four (note.num.0 == place) (may_follow low note.arrival) (has_arrived docs note.doc.0 note.arrival) (is_name note.author)
    (is_name note.kind) Number Moment Reference Name)
    (notes-none docs (place + 1) note.arrival notes)

queries-none : (earlier : List QueryRow) (place : ℕ) (low : ℤ) (queries : List QueryRow)
    → is_none (queries_damage earlier place low queries) ≡ (queries_stand earlier place low queries && list_all is_readable queries)
queries-none earlier place low [] = refl
queries-none earlier place low (query ∷ queries) =
    rows-none Queries place (query_reason earlier place low query)
    (queries_damage (earlier ++ query ∷ []) (place + 1) query.arrival queries)
    (query_stands earlier place low query && is_readable query)
    (queries_stand (earlier ++ query ∷ []) (place + 1) query.arrival queries && list_all is_readable queries)
    (five (query.num.0 == place) (may_follow low query.arrival) (is_name query.owner) (is_name query.name)
    (not (list_any (is_query_of query.owner query.name) earlier)) (is_readable query) Number Moment Name Twice Text)
    (queries-none (earlier ++ query ∷ []) (place + 1) query.arrival queries)
    ∙ and_swapped (query_stands earlier place low query) (is_readable query)
    (queries_stand (earlier ++ query ∷ []) (place + 1) query.arrival queries) (list_all is_readable queries)

runs-none : (queries : List QueryRow) (place : ℕ) (low : ℤ) (runs : List RunRow)
    → is_none (runs_damage queries place low runs) ≡ runs_stand queries place low runs
runs-none queries place low [] = refl
runs-none queries place low (run ∷ runs) =
    rows-none Runs place (run_reason queries place low run) (runs_damage queries (place + 1) run.moment runs)
    (run_stands queries place low run) (runs_stand queries (place + 1) run.moment runs)
    (three (run.num == place) (may_follow low run.moment) (was_defined queries run.query.0 run.moment) Number Moment Reference)
    (runs-none queries (place + 1) run.moment runs)

picked-is : (pick : Pick) (run : Option RunRow) (doc : Option Doc)
    → is_picked pick run doc ≡ (refers pick run doc && is_second_possible pick run doc)
picked-is pick None doc = refl
picked-is pick (Some run) None = refl
picked-is pick (Some run) (Some doc) =
    assoc (run.query.0 == pick.query.0) (int_lt pick.first run.moment) (int_le doc.arrival pick.first) where
      assoc : (a b c : Bool) → (a && b && c) ≡ (a && (b && c))
      assoc true b c = refl
      assoc false b c = refl

picks-none : (runs : List RunRow) (docs : List Doc) (earlier : List Pick) (place : ℕ) (before : Option Pick) (picks : List Pick)
    → is_none (picks_damage runs docs earlier place before picks) ≡ picks_stand runs docs earlier place before picks
picks-none runs docs earlier place before [] = refl
picks-none runs docs earlier place before (pick ∷ picks) =
    rows-none Picks place (pick_reason runs docs earlier place before pick)
    (picks_damage runs docs (earlier ++ pick ∷ []) (place + 1) (Some pick) picks)
    (pick_stands runs docs earlier place before pick) (picks_stand runs docs (earlier ++ pick ∷ []) (place + 1) (Some pick) picks)
    (parted (pick.num == place) (refers pick (row_at pick.run runs) (row_at pick.doc.0 docs)) (not (list_any (is_same_pick pick) earlier))
    (is_second_possible pick (row_at pick.run runs) (row_at pick.doc.0 docs)) (comes_after before pick)
    (is_picked pick (row_at pick.run runs) (row_at pick.doc.0 docs)) Number Reference Twice Second Order
    (picked-is pick (row_at pick.run runs) (row_at pick.doc.0 docs)))
    (picks-none runs docs (earlier ++ pick ∷ []) (place + 1) (Some pick) picks)

filters-none : (place : ℕ) (low : ℤ) (filters : List FilterRow)
    → is_none (filters_damage place low filters) ≡ filters_stand place low filters
filters-none place low [] = refl
filters-none place low (filter ∷ filters) =
    rows-none Filters place (filter_reason place low filter) (filters_damage (place + 1) filter.arrival filters)
    (filter_stands place low filter) (filters_stand (place + 1) filter.arrival filters)
    (three (filter.num == place) (may_follow low filter.arrival) (is_name filter.owner) Number Moment Name)
    (filters-none (place + 1) filter.arrival filters)

-- all six tables
either-none : (first rest : Option RestartFault) (a b : Bool) → is_none first ≡ a → is_none rest ≡ b
    → is_none (option_or first rest) ≡ (a && b)
either-none None rest a b e f = ap (λ x. x && is_none rest) e ∙ ap (λ x. a && x) f
either-none (Some fault) rest a b e f = ap (λ x. x && is_none rest) e ∙ ap (λ x. a && x) f

six : (d n q t r p f : Bool) → (d && (n && ((q && t) && (r && (p && f))))) ≡ ((d && n && q && r && p && f) && t)
six true true true true r p f = go r p f where
  go : (r p f : Bool) → (r && (p && f)) ≡ ((r && p && f) && true)
  go true true true = refl
  go true true false = refl
  go true false f = refl
  go false p f = refl
six true true true false r p f = go r p f where
  go : (r p f : Bool) → false ≡ ((r && p && f) && false)
  go true true true = refl
  go true true false = refl
  go true false f = refl
  go false p f = refl
six true true false t r p f = refl
six true false q t r p f = refl
six false n q t r p f = refl

pub none-is : (tables : Tables) → is_none (damage_of tables) ≡ (is_well_formed tables && list_all is_readable tables.queries)
unfolding damage_of
none-is tables =
    either-none (docs_damage 1 (pos 0) tables.docs) _ (docs_stand 1 (pos 0) tables.docs) _ (docs-none 1 (pos 0) tables.docs)
    (either-none (notes_damage tables.docs 1 (pos 0) tables.notes) _ (notes_stand tables.docs 1 (pos 0) tables.notes) _
    (notes-none tables.docs 1 (pos 0) tables.notes)
    (either-none (queries_damage [] 1 (pos 0) tables.queries) _
    (queries_stand [] 1 (pos 0) tables.queries && list_all is_readable tables.queries) _ (queries-none [] 1 (pos 0) tables.queries)
    (either-none (runs_damage tables.queries 1 (pos 0) tables.runs) _ (runs_stand tables.queries 1 (pos 0) tables.runs) _
    (runs-none tables.queries 1 (pos 0) tables.runs)
    (either-none (picks_damage tables.runs tables.docs [] 1 None tables.picks) (filters_damage 1 (pos 0) tables.filters)
    (picks_stand tables.runs tables.docs [] 1 None tables.picks) (filters_stand 1 (pos 0) tables.filters)
    (picks-none tables.runs tables.docs [] 1 None tables.picks) (filters-none 1 (pos 0) tables.filters)))))
    ∙ six (docs_stand 1 (pos 0) tables.docs) (notes_stand tables.docs 1 (pos 0) tables.notes) (queries_stand [] 1 (pos 0) tables.queries)
    (list_all is_readable tables.queries) (runs_stand tables.queries 1 (pos 0) tables.runs)
    (picks_stand tables.runs tables.docs [] 1 None tables.picks) (filters_stand 1 (pos 0) tables.filters)

read-ok : (reading : Result Condition TextFault) → is_condition reading ≡ true → IsOk reading
read-ok (Ok condition) e = refl
read-ok (Err fault) e = absurd (false≢true e)

ok-read : (reading : Result Condition TextFault) → IsOk reading → is_condition reading ≡ true
ok-read (Ok condition) ok = refl
ok-read (Err fault) ok = absurd (false≢true ok)

all-each : (queries : List QueryRow) → list_all is_readable queries ≡ true → Each (λ query. IsOk (reading_of query)) queries
all-each [] e = tt
all-each (query ∷ queries) e =
    let parts = and_parts (is_readable query) (list_all is_readable queries) e in
    (read-ok (reading_of query) parts.0, all-each queries parts.1)

each-all : (queries : List QueryRow) → Each (λ query. IsOk (reading_of query)) queries → list_all is_readable queries ≡ true
each-all [] each = refl
each-all (query ∷ queries) each = and_from _ _ (ok-read (reading_of query) each.0) (each-all queries each.1)

is-none : (damage : Option RestartFault) → is_none damage ≡ true → damage ≡ None
is-none None e = refl
is-none (Some fault) e = absurd (false-true e) where
  false-true : false ≡ true → ⊥
  false-true e = cc

none-parts : (tables : Tables) → damage_of tables ≡ None → (is_well_formed tables ≡ true) × (list_all is_readable tables.queries ≡ true)
none-parts tables e = and_parts (is_well_formed tables) (list_all is_readable tables.queries) (sym (none-is tables) ∙ ap is_none e)

pub formed : (tables : Tables) → damage_of tables ≡ None → is_well_formed tables ≡ true
formed tables e = (none-parts tables e).0

pub readable : (tables : Tables) → damage_of tables ≡ None → Each (λ query. IsOk (reading_of query)) tables.queries
readable tables e = all-each tables.queries (none-parts tables e).1

pub undamaged : (tables : Tables) → is_well_formed tables ≡ true → Each (λ query. IsOk (reading_of query)) tables.queries
    → damage_of tables ≡ None
undamaged tables f each = is-none (damage_of tables) (none-is tables ∙ and_from _ _ f (each-all tables.queries each))
