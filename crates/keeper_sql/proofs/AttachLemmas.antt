-- What an attach makes of the tables and the version that a store tells.
use Rattle.std.proofs.Common.{◌≡◌, ◌≢◌, ◌⊎◌, inl, inr, ℤ, pos, List, [], ◌∷◌, map, filter, true, false, IsTrue, refl, sym, ap, subst, ◌∙◌}
use Rattle.std.specs.List.{AllZip}
use Rattle.tap_rows.specs.declared.tables.Tables.{Tables}
use Rattle.tap_rows.specs.Tables.{no_rows}
use Rattle.keeper_core.specs.Keeping.{IsDurable}
use Rattle.sqlite_value.specs.Order.{Row}
use Rattle.sqlite_schema.specs.declared.schema.Schema.{Schema}
use Rattle.sqlite_trees.specs.Tree.{Trees}
use Rattle.sqlite_trees.specs.Objects.{catalog_tree}
use Rattle.sqlite_catalog.specs.Listing.{IsSound, IsTableRow, is_table_row}
use Rattle.sqlite.specs.Effect.{Database, IsDatabase}
use Rattle.sqlite.specs.State.{State, HasCleanDisk, IsLive}
use Rattle.keeper_sql.specs.Schema.{no_schema}
use Rattle.keeper_sql.specs.RowsAsValues.{tables_in, tables_listed, tables_of, doc_in, note_in, query_in, run_in, pick_in, filter_in}
use Rattle.keeper_sql.specs.Store.{IsOurs, WritesVersion, OpensTo, IsAfterOpen, AreAllKeyed, AreKeyed, AreEmpty, HoldsStore, TellsAs}
use Rattle.keeper_sql.specs.Store.{MayLeave, HasVersion, LeavesOnlyTrees}
use Rattle.keeper_sql.specs.Opening.{IsOpenedWithTables, AreRead}
use Rattle.keeper_sql.proofs.TablesAfter.{listed}

pub told_ours : (s : State) (t : Tables) → TellsAs false s t → IsOurs s.now
told_ours s t (inl told) = inl (told.holds.schema, told.holds.meta)
told_ours s t (inr told) = inr told.schema

pub version_ours : (s : State) (v : ℤ) → HasVersion s v → IsOurs s.now
version_ours s v has = elim has.row [
  | inl none ↦ inr none.0
  | inr row ↦ inl (row.0, inr (v, row.1))
]

bare_rows : (rows : List Row) → AllZip IsTableRow rows [] → rows ≡ []
bare_rows [] h = refl
bare_rows (r ∷ rows) h = absurd h

pub none_listed : (db : Database) → IsDatabase db → db.schema ≡ no_schema → tables_of db.trees ≡ no_rows
none_listed db sound is =
    let none : IsSound no_schema db.trees = subst (λ (s : Schema). IsSound s db.trees) is sound in
    ap (λ rows. tables_listed rows db.trees) (bare_rows (filter is_table_row (db.trees catalog_tree)) none.lists.listed.tables)

empty_tables : (db : Trees) → AreEmpty 6 1 db → tables_in db ≡ no_rows
empty_tables db e =
    (λ i. record {
      docs = map doc_in (e.0 i);
      notes = map note_in (e.1.0 i);
      queries = map query_in (e.1.1.0 i);
      runs = map run_in (e.1.1.1.0 i);
      picks = map pick_in (e.1.1.1.1.0 i);
      filters = map filter_in (e.1.1.1.1.1.0 i);
    })

either_listed : (rows : List Row) (db : Trees) → tables_in db ≡ no_rows → tables_listed rows db ≡ no_rows
either_listed [] db e = refl
either_listed (r ∷ rows) db e = e

same_tables : (v : ℤ) (old new : Database) → WritesVersion v old new → tables_in new.trees ≡ tables_in old.trees
same_tables v old new w =
    (λ i. record {
      docs = map doc_in (w.docs i);
      notes = map note_in (w.notes i);
      queries = map query_in (w.queries i);
      runs = map run_in (w.runs i);
      picks = map pick_in (w.picks i);
      filters = map filter_in (w.filters i);
    })

holds_written : (v : ℤ) (old new : Database) → HoldsStore old → WritesVersion v old new → HoldsStore new
holds_written v old new holds w = record {
  sound = w.sound holds.sound;
  schema = w.schema;
  meta = inr (v, w.meta);
  docs = subst AreKeyed (sym w.docs) holds.docs;
  notes = subst AreKeyed (sym w.notes) holds.notes;
  queries = subst AreKeyed (sym w.queries) holds.queries;
  runs = subst AreKeyed (sym w.runs) holds.runs;
  picks = subst AreKeyed (sym w.picks) holds.picks;
  filters = subst AreKeyed (sym w.filters) holds.filters;
}

-- the tables of a store that was opened are those of before
opened_tables : (old : State) (s : Tables) (new : Database) → TellsAs false old s → OpensTo (pos 2) old.now new → tables_of new.trees ≡ s
opened_tables old s new (inl told) to =
    let w = to.store told.holds.schema in
    listed new (holds_written (pos 2) old.now new told.holds w) ∙ same_tables (pos 2) old.now new w ∙ sym (listed old.now told.holds)
    ∙ sym told.tables
opened_tables old s new (inr told) to =
    either_listed (filter is_table_row (new.trees catalog_tree)) new.trees (empty_tables new.trees (to.none told.schema).1)
    ∙ sym (none_listed old.now told.sound told.schema) ∙ sym told.tables

keyed_none : (rows : List Row) → rows ≡ [] → AreKeyed rows
keyed_none rows none = ([], none, tt)

opened_holds : (old : State) (s : Tables) (new : Database) → IsDatabase new → TellsAs false old s → OpensTo (pos 2) old.now new
    → HoldsStore new
opened_holds old s new sound (inl told) to = holds_written (pos 2) old.now new told.holds (to.store told.holds.schema)
opened_holds old s new sound (inr told) to =
    let e = (to.none told.schema).1 in
    record {
      sound = sound;
      schema = to.schema;
      meta = inr (pos 2, to.meta);
      docs = keyed_none _ e.0;
      notes = keyed_none _ e.1.0;
      queries = keyed_none _ e.1.1.0;
      runs = keyed_none _ e.1.1.1.0;
      picks = keyed_none _ e.1.1.1.1.0;
      filters = keyed_none _ e.1.1.1.1.1.0;
    }

pub held_given : (old new : State) (s t : Tables) → IsLive new → TellsAs false old s → IsOpenedWithTables old new t → s ≡ t
held_given old new s t live told held =
    let holds = opened_holds old s new.now (live held.1).0 told held.3 in
    let keyed : AreAllKeyed new.now = record {
      docs = holds.docs;
      notes = holds.notes;
      queries = holds.queries;
      runs = holds.runs;
      picks = holds.picks;
      filters = holds.filters;
    } in
    sym (opened_tables old s new.now told held.3) ∙ listed new.now holds ∙ sym (held.4 keyed)

-- the tables that were read are those that the store tells, if it tells any
pub read_told : (new : State) (given t : Tables) → AreRead new.now given → TellsAs true new t → t ≡ given
read_told new given t read told =
    let holds = told.holds in
    let keyed : AreAllKeyed new.now = record {
      docs = holds.docs;
      notes = holds.notes;
      queries = holds.queries;
      runs = holds.runs;
      picks = holds.picks;
      filters = holds.filters;
    } in
    told.tables ∙ listed new.now holds ∙ sym (read.rows holds.schema keyed)

-- and then its version is 2
pub read_version : (new : State) (given t : Tables) → AreRead new.now given → TellsAs true new t → HasVersion new (pos 2)
read_version new given t read told =
    record { clean = told.clean; is_open = told.is_open; row = inr (told.holds.schema, read.version told.holds.schema told.holds.meta) }

pub held_told : (old new : State) (s t : Tables) → HasCleanDisk new → IsLive new → LeavesOnlyTrees new new.now.trees → TellsAs false old s
    → IsOpenedWithTables old new t → IsDurable (TellsAs true new) (MayLeave new) s
held_told old new s t clean live exact told held =
    let holds = opened_holds old s new.now (live held.1).0 told held.3 in
    let tables = opened_tables old s new.now told held.3 in
    record {
      told = record { clean = clean; is_open = held.1; holds = holds; tables = sym tables };
      exact = λ x left. left.2
          ∙ ap tables_of (exact left.0 left.1) ∙ tables;
    }

told_trees : (s : State) (t : Tables) → TellsAs false s t → t ≡ tables_of s.now.trees
told_trees s t (inl told) = told.tables
told_trees s t (inr told) = told.tables

told_same : (old new : State) (s : Tables) → HasCleanDisk new → TellsAs false old s → IsTrue new.is_open → new.now ≡ old.now
    → TellsAs false new s
told_same old new s clean (inl told) now same = inl (record {
  clean = clean;
  is_open = now;
  holds = subst HoldsStore (sym same) told.holds;
  tables = told.tables ∙ ap (λ (d : Database). tables_of d.trees) (sym same);
})
told_same old new s clean (inr told) now same =
    inr (record {
      clean = clean;
      is_open = now;
      sound = subst IsDatabase (sym same) told.sound;
      schema = ap (λ (d : Database). d.schema)
          same ∙ told.schema;
      tables = told.tables ∙ ap (λ (d : Database). tables_of d.trees) (sym same);
    })

pub still_told : (old new : State) (s : Tables) → HasCleanDisk new → TellsAs false old s → IsTrue new.is_open → new.now ≡ old.now
    → LeavesOnlyTrees new new.now.trees → IsDurable (TellsAs false new) (MayLeave new) s
still_told old new s clean told now same exact =
    record {
      told = told_same old new s clean told now same;
      exact = λ x left. left.2 ∙ ap tables_of (exact left.0 left.1)
          ∙ ap (λ (d : Database). tables_of d.trees) same ∙ sym (told_trees old s told);
    }

pub left_still : (old new : State) (s : Tables) → TellsAs false old s
    → ((db : Trees) → new.may_leave db → (db ≡ old.now.trees) ⊎ IsAfterOpen old db) → (x : Tables) → MayLeave new x → x ≡ s
left_still old new s told crash x left = elim (crash left.0 left.1) [
  | inl before ↦ left.2 ∙ ap tables_of before ∙ sym (told_trees old s told)
  | inr made ↦ left.2 ∙ ap tables_of made.is ∙ opened_tables old s made.db told (made.to (told_ours old s told))
]

pub known_version : (old : State) (new : Database) (w : ℤ) → HasVersion old w → OpensTo (pos 2) old.now new → (w ≡ pos 1) ⊎ (w ≡ pos 2)
known_version old new w has to = elim has.row [
  | inl none ↦ inr none.1
  | inr row ↦ elim (to.was row.0 w row.1) [ inl e ↦ inr e | inr e ↦ inl e.0 ]
]

pub alien_version : (old : State) (new : Database) (v w : ℤ) → v ≢ pos 2 → HasVersion old w → OpensTo v old.now new → w ≡ v
alien_version old new v w never has to = elim has.row [
  | inl none ↦ absurd (never (to.none none.0).0)
  | inr row ↦ elim (to.was row.0 w row.1) [ inl e ↦ e | inr e ↦ absurd (never e.1) ]
]
