-- A crash of what an open that failed left of the files leaves the tables that they held.
use Rattle.std.proofs.Common.{◌≡◌, ◌⊎◌, List, [], filter, inl, inr, sym, ap, subst, ◌∙◌, arith}
use Rattle.std.specs.Coded.{Coded-set}
use Rattle.std.proofs.Math.Logic.{∥∥₁_elim, ∥∥₁_map}
use Rattle.tap_rows.specs.declared.tables.Tables.{Tables}
use Rattle.tap_rows.specs.contracts.tables.Tables as rows
use Rattle.tap_rows.specs.Tables.{no_rows}
use Rattle.sqlite_disk.specs.declared.Disk.{Ghosts}
use Rattle.sqlite_disk.specs.declared.Files.{Files}
use Rattle.sqlite_wal.specs.Files.{outcomes}
use Rattle.sqlite_wal.specs.Recovery.{Image}
use Rattle.sqlite_trees.specs.Tree.{Trees}
use Rattle.sqlite_trees.specs.Props.{Trees-set}
use Rattle.sqlite_trees.specs.Objects.{catalog_tree}
use Rattle.sqlite_catalog.specs.Listing.{is_table_row}
use Rattle.sqlite.specs.declared.file.Leftover.{Leftover}
use Rattle.sqlite.specs.declared.file.Leftover.TheVariants as left
use Rattle.sqlite.specs.Files.{HoldsDatabase, AreFoundIn, IsEmpty, IsNothing, IsUnderWay, LeavesFiles, image_of}
use Rattle.sqlite_store.specs.Unopened.{state_of}
use Rattle.sqlite.proofs.FileLemmas.{is_something}
use Rattle.keeper_sql.specs.RowsAsValues.{tables_listed}
use Rattle.keeper_sql.specs.Store.{tables_of}
use Rattle.keeper_file.specs.Images.{HoldsTables, ImageTells, IsNewFile}
use Rattle.keeper_file.specs.ImageTells.{image_one}
use Rattle.keeper_file.specs.Leftovers.{HasNoSums, LeftTells}
use Rattle.keeper_file.specs.OneDatabase.{holds_one}
use Rattle.keeper_file.proofs.StillHolds.{still_holds}

-- trees that are empty have no rows
no_tables : (db : Trees) → IsEmpty db → tables_of db ≡ no_rows
no_tables db empty = ap (λ objects. tables_listed (filter is_table_row objects) db) empty.1

-- files that hold a database are no files of a new one
some_held : (image : Image) (t : Tables) → HoldsTables image t → IsNothing image → ⊥
some_held image t held nothing = ∥∥₁_elim held.holds (λ a b. absurd a) (λ h. is_something image held.db.trees h nothing)

-- the tables of files that hold no rows
none_told : (image : Image) (t : Tables) → IsNothing image → ImageTells image t → t ≡ no_rows
none_told image t nothing (inl held) = absurd (some_held image t held nothing)
none_told image t nothing (inr new) = new.1

empty_held : (image : Image) (db : Trees) (t : Tables) → HoldsDatabase image db → IsEmpty db → ImageTells image t → t ≡ no_rows
empty_held image db t held empty (inl told) =
    let same : told.db.trees ≡ db = ∥∥₁_elim told.holds (Trees-set _ _) (λ h. holds_one image told.db.trees db h held) in
    told.tables ∙ ap tables_of same ∙ no_tables db empty
empty_held image db t held empty (inr new) = new.1

module _ {D : Type 0} (g : Ghosts D) (files : Files D) (only : (left : Image) → outcomes g files.log files.db left
    → left ≡ image_of g files) (plain : HasNoSums (image_of g files)) (t : Tables)
    (told : ImageTells (image_of g files) t) where
  same_told : (now : Image) (x : Tables) → now ≡ image_of g files → ImageTells now x → x ≡ t
  same_told now x e may = image_one (image_of g files) x t (subst (λ i. ImageTells i x) e may) told

  under_way : (now : Image) (x : Tables) → t ≡ no_rows → IsUnderWay g files now → ImageTells now x → x ≡ t
  under_way now x none (inl old) may = same_told now x (only now old) may
  under_way now x none (inr (inl nothing)) may = none_told now x nothing may ∙ sym none
  under_way now x none (inr (inr held)) may = ∥∥₁_elim held (Coded-set rows.the_row.coded _ _) (λ h. empty_held now h.0 x h.1 h.2 may
      ∙ sym none)

  pub left_tables : (rest : Leftover D g) → LeavesFiles files rest → (x : Tables) → LeftTells rest x → x ≡ t
  left_tables (left.Files now) h x may = same_told may.0 x (only may.0 (h may.0 may.1)) may.2
  left_tables (left.Unopened now) (inl h) x may = elim told [
    | inl held ↦ absurd (some_held (image_of g files) t held h.0)
    | inr new ↦ under_way may.0 x new.1 (h.1 may.0 may.1) may.2
  ]
  left_tables (left.Unopened now) (inr h) x may = elim told [
    | inl held ↦ elim (h.4 may.0 may.1).same [
      | inl old ↦ same_told may.0 x (only may.0 old) may.2
      | inr stands ↦
          let size = (state_of now).page_size in
          let there =
          ∥∥₁_map held.holds (λ p. still_holds size (image_of g files) h.1 h.3 held.db.trees p (plain held.db.trees p) may.0 stands) in
          image_one may.0 x t may.2 (inl (record { db = held.db; holds = there; ours = held.ours; tables = held.tables }))
    ]
    | inr new ↦ absurd (h.0 (inl (inl new.0)))
  ]
  left_tables (left.Store now) h x may = elim told [
    | inl held ↦
        let same : may.0 ≡ held.db.trees = ∥∥₁_elim held.holds (Trees-set _ _) (λ p. (h may.0 may.1).1 held.db.trees p) in
        may.2 ∙ ap tables_of same ∙ sym held.tables
    | inr new ↦ elim (h may.0 may.1).0 [
      | inl found ↦ absurd (let some = found.3.found.present in omega (arith, new.0))
      | inr none ↦ may.2 ∙ no_tables may.0 none.1 ∙ sym new.1
    ]
  ]
