-- What a close leaves is what the keeper told.
use Rattle.std.proofs.Common.{◌≡◌, ◌≤◌, Bool, true, false, IsTrue, [], inl, sym, ap, subst, arith, ◌∙◌}
use Rattle.tap_rows.specs.declared.tables.Tables.{Tables}
use Rattle.sqlite_disk.specs.declared.Disk.{Ghosts}
use Rattle.sqlite_disk.specs.declared.Files.{Files}
use Rattle.sqlite_wal.specs.Recovery.{Image}
use Rattle.sqlite_wal.proofs.LogLemmas.{SeenMayStay}
use Rattle.sqlite_store.specs.declared.store.FileStore.{FileStore}
use Rattle.sqlite_trees.specs.View.{doubt}
use Rattle.sqlite_trees.proofs.Doubt.{no_doubt}
use Rattle.sqlite.specs.Closing.{IsCopied, HoldsAlone}
use Rattle.sqlite.specs.Effect.{Database}
use Rattle.sqlite.specs.Files.{file_state, image_of, IsClosed}
use Rattle.sqlite.specs.Held.{Held}
use Rattle.keeper_sql.specs.Store.{TellsAs, tables_of}
use Rattle.keeper_file.specs.Closing.{HoldsWhole, AreWhole, IsCopyOf, StoreLeavesOnly}
use Rattle.keeper_file.specs.Images.{ImageTells}
use Rattle.keeper_file.proofs.SameLemmas.{is_told_open, ShowsLastCommit}
use Rattle.keeper_file.proofs.CrashLemmas.{told_trees, ours_told, leaves_commit}

module _ {D : Type 0} {g : Ghosts D} (was : Held (FileStore D g)) (settled : ShowsLastCommit (file_state was)) (b : Bool) (t : Tables)
    (told : TellsAs b (file_state was) t) where
  whole_at : (image : Image) → HoldsAlone image (file_state was).committed.trees → HoldsWhole image t
  whole_at image holds =
      let same = settled (is_told_open b (file_state was) t told) in
      record {
        db = (file_state was).now;
        holds = subst (λ (d : Database). HoldsAlone image d.trees) (sym same) holds;
        ours = ours_told b (file_state was) t told;
        tables = told_trees b (file_state was) t told;
      }

  pub whole_then : (files : Files D) → IsCopied was files → AreWhole g files t
  whole_then files copied =
      record { now = whole_at (image_of g files) copied.seen; crash = λ image left. whole_at image (copied.left image left) }

  pub alone_then : (last : FileStore D g) → SeenMayStay g → IsClosed was last → StoreLeavesOnly g last t
  alone_then last stays closed db may =
      let is_open = is_told_open b (file_state was) t told in
      ap tables_of (leaves_commit was stays is_open (ap (λ (d : Database). d.trees) (settled is_open)) db (closed.quiet.outcomes db may))
      ∙ sym (told_trees b (file_state was) t told)

-- ---- and so the next session finds what the earlier one stored

pub whole_tells : (image : Image) (t : Tables) → HoldsWhole image t → ImageTells image t
whole_tells image t whole = inl (record { db = whole.db; holds = whole.holds.both; ours = whole.ours; tables = whole.tables })

alone_tells : (image : Image) (t : Tables) → HoldsWhole image t → ImageTells (record image { log = [] }) t
alone_tells image t whole = inl (record { db = whole.db; holds = whole.holds.alone; ours = whole.ours; tables = whole.tables })

pub copy_tells : {D : Type 0} (g : Ghosts D) (files : Files D) (copy : Image) (t : Tables) → IsCopyOf g files copy → AreWhole g files t
    → ImageTells copy t
copy_tells g files copy t of whole = subst (λ i. ImageTells i t) (sym of.is) (alone_tells of.image t (whole.crash of.image of.left))

-- a store that is clean was clean before
pub was_clean : (old new : Bool) → doubt old ≤ doubt new → IsTrue new → doubt old ≡ 0
was_clean old new falls clean = let none = no_doubt new clean in omega arith
