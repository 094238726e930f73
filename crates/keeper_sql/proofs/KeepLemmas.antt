-- What a commit makes of the tables that a store tells.
use Rattle.std.proofs.Common.{◌≡◌, ◌⊎◌, inl, inr, ℤ, [], Bool, true, false, IsTrue, refl, sym, ap, subst, ◌∙◌, arith}
use Rattle.tap_rows.specs.declared.tables.Tables.{Tables}
use Rattle.tap_rows.specs.declared.change.Change.{Change}
use Rattle.tap_rows.specs.declared.change.Change.TheVariants.{Docs, OneNote, OneQuery, RunDone, OneFilter}
use Rattle.tap_rows.specs.Tables.{after}
use Rattle.tap_rows.specs.WellFormed.{is_well_formed}
use Rattle.tap_rows.specs.Fits.{fits}
use Rattle.keeper_core.specs.Keeping.{IsDurable}
use Rattle.sqlite_trees.specs.Tree.{Trees}
use Rattle.sqlite_schema.specs.declared.schema.Schema.{Schema}
use Rattle.sqlite.specs.Effect.{Database}
use Rattle.sqlite.specs.State.{State, HasCleanDisk, Survives}
use Rattle.keeper_sql.specs.Schema.{store_schema, no_schema}
use Rattle.keeper_sql.specs.RowsAsValues.{added_rows, IsReadBack, tables_of}
use Rattle.keeper_sql.specs.Store.{Commits, IsAfter, LeavesOnlyTrees, HoldsStore, Tells, TellsAs, MayLeave, HasVersion, put_all}
use Rattle.keeper_sql.specs.Calls.{LeavesItsTrees, LeavesOldOr}
use Rattle.keeper_sql.proofs.TablesAfter.{tables_after}

pub as_told : (b : Bool) (s : State) (t : Tables) → b ≡ true → TellsAs b s t → Tells s t
as_told true s t is told = told
as_told false s t is told = absurd (let e = is in cc)

told_as : (b : Bool) (s : State) (t : Tables) → b ≡ true → Tells s t → TellsAs b s t
told_as true s t is told = told
told_as false s t is told = absurd (let e = is in cc)

pub holds_as : (b : Bool) (s : State) (t : Tables) → b ≡ true → IsDurable (Tells s) (MayLeave s) t → IsDurable (TellsAs b s) (MayLeave s) t
holds_as b s t is holds = record { told = told_as b s t is holds.told; exact = holds.exact }

pub told_after : (change : Change) (old new : State) (s : Tables) → HasCleanDisk new → Tells old s → is_well_formed s ≡ true
    → fits s change ≡ true → Commits (added_rows change) old new → IsReadBack change → LeavesOnlyTrees new new.now.trees
    → IsDurable (Tells new) (MayLeave new) (after s change)
told_after change old new s clean told formed fit done back exact =
    let all = tables_after change s old.now new.now told.holds told.tables formed fit back (done.puts told.holds.schema) in
    record {
      told = record { clean = clean; is_open = done.is_open; holds = all.0; tables = sym all.1 };
      exact = λ x left. left.2 ∙ ap tables_of (exact left.0 left.1) ∙ all.1;
    }

pub told_still : (old new : State) (s : Tables) → HasCleanDisk new → Tells old s → IsTrue new.is_open → new.now ≡ old.now
    → LeavesOnlyTrees new new.now.trees → IsDurable (Tells new) (MayLeave new) s
told_still old new s clean told now same exact =
    let tables : tables_of new.now.trees ≡ s = ap (λ (d : Database). tables_of d.trees) same ∙ sym told.tables in
    record {
      told = record { clean = clean; is_open = now; holds = subst HoldsStore (sym same) told.holds; tables = sym tables };
      exact = λ x left. left.2 ∙ ap tables_of (exact left.0 left.1) ∙ tables;
    }

pub left_after : (change : Change) (old new : State) (s : Tables) → Tells old s → is_well_formed s ≡ true → fits s change ≡ true
    → ((db : Trees) → new.may_leave db → (db ≡ old.now.trees) ⊎ IsAfter change old db)
    → (x : Tables) → MayLeave new x → (x ≡ s) ⊎ (x ≡ after s change)
left_after change old new s told formed fit crash x left = elim (crash left.0 left.1) [
  | inl before ↦ inl (left.2 ∙ ap tables_of before ∙ sym told.tables)
  | inr made ↦ inr (left.2 ∙ ap tables_of made.is
      ∙ (tables_after change s old.now made.db told.holds told.tables formed fit made.read (made.puts told.holds.schema)).1)
]

no_meta : (change : Change) → added_rows change 0 ≡ []
no_meta (Docs docs) = refl
no_meta (OneNote note) = refl
no_meta (OneQuery query) = refl
no_meta (RunDone run picks) = refl
no_meta (OneFilter filter) = refl

bare : store_schema ≡ no_schema → ⊥
bare e = let tables = ap (λ (s : Schema). s.tables) e in cc

pub version_after : (change : Change) (old new : State) (s : Tables) (v : ℤ) → HasCleanDisk new → Tells old s
    → Commits (added_rows change) old new → HasVersion old v → HasVersion new v
version_after change old new s v clean told done has =
    let puts = done.puts told.holds.schema in
    let meta : new.now.trees 0 ≡ old.now.trees 0 = puts.meta ∙ ap (λ rows. put_all rows (old.now.trees 0)) (no_meta change) in
    elim has.row [
      | inl none ↦ absurd (bare (sym told.holds.schema ∙ none.0))
      | inr row ↦ record { clean = clean; is_open = done.is_open; row = inr (puts.schema, meta ∙ row.1) }
    ]

pub version_still : (old new : State) (v : ℤ) → HasCleanDisk new → IsTrue new.is_open → new.now ≡ old.now → HasVersion old v
    → HasVersion new v
version_still old new v clean now same has = record { clean = clean; is_open = now; row = rw same has.row }

-- what a crash leaves after a transaction, and after a call that commits nothing
pub left_old_or : (P : Trees → Type 0) (old mid new : State) → LeavesItsTrees old → Survives old mid P → Survives mid new (λ _. ⊥)
    → HasCleanDisk new → LeavesOldOr P old new
left_old_or P old mid new exact p q clean db left =
    let early : HasCleanDisk mid = omega (arith, q.clean) in
    elim (q.crash clean db left) [
      | inl stays ↦ elim (p.crash early db stays) [
        | inl was ↦ inl (exact db was)
        | inr made ↦ inr made
      ]
      | inr none ↦ absurd none
    ]
