-- What a session over files left as it ended.
use Rattle.std.specs.Prelude.{ℕ, ℤ, ◌≡◌, ◌↔◌, true, false, Option, Some, None, Result, Ok, Err, IsTrue, ⊤}
use Rattle.sqlite.specs.Files.{over_files}
use Rattle.sqlite.specs.declared.error.Error.{Error}
use Rattle.sqlite_trees.specs.declared.store.Store as store
use Rattle.sqlite_disk.specs.declared.Disk.{Ghosts}
use Rattle.sqlite_disk.specs.declared.start.Start as start
use Rattle.sqlite_disk.specs.declared.Files.{Files}
use Rattle.sqlite_store.specs.declared.store.FileStore.{FileStore}
use Rattle.sqlite_store.specs.FileStore.{view}
use Rattle.sqlite_wal.specs.Reads.{AreClean}
use Rattle.sqlite_wal.specs.Files.{image_at}
use Rattle.tap_rows.specs.declared.tables.Tables.{Tables}
use Rattle.keeper_file.specs.declared.inner.Inner.{Inner}
use Rattle.keeper_file.specs.declared.path_opener.PathOpener.{PathOpener}
use Rattle.keeper_file.specs.Images.{ImageTells}
use Rattle.keeper_file.specs.OpenerFiles.{FilesOf}
use Rattle.keeper_file.specs.PathFiles.{path_files}
use Rattle.keeper_file.specs.Cases.{Tells, HasVersion, IsHonest, MayLeave, has_files, is_stopped}
use Rattle.keeper_file.specs.Closing.{AreWhole, StoreLeavesOnly}
use Rattle.keeper_file.specs.Failing.{FailsToCloseOpen}

module _ {D O : Type 0} {g : Ghosts D} (first : FilesOf O) where
  -- the keeper was honest, and this holds of the tables that it told
  pub record ToldTablesAre (inner : Inner (FileStore D g) O over_files) (Kept : Tables → Type 0) : Type 0 where
    pub honest : IsHonest first over_files inner
    pub kept : (t : Tables) → Tells first over_files inner t → Kept t

  -- what the close of a keeper gave, if it was closed: no files, if it had none open; or both, which hold its tables whole, if they
  -- are clean; or an error and what is left of the store, of which a crash leaves its tables, if that is clean: the disk failed then,
  -- the close was out of memory, or the store was shut before
  abbrev pub IsClosedAs : Inner (FileStore D g) O over_files → Option (Result (Option (Files D)) (Error × FileStore D g)) → Type 0
  IsClosedAs inner None = ⊤
  IsClosedAs inner (Some (Ok None)) = has_files inner ≡ false
  IsClosedAs inner (Some (Ok (Some files))) = AreClean g files.log files.db → ToldTablesAre inner (AreWhole g files)
  IsClosedAs inner (Some (Err left)) = IsTrue (view left.1).is_clean
      → ToldTablesAre inner (StoreLeavesOnly g left.1) × FailsToCloseOpen inner left.1 left.0

-- the end of a call over a keeper with this opener: the keeper, stopped if and only if the status is 5, over which, if it is
-- honest, the call ended so for the tables that the files held initially; and what is left of it
pub record CallEnd {A O : Type 0} (first : FilesOf O) (g : store.Ghosts A)
    (Ends : Tables → (ℤ → Type 0) → (Tables → Type 0) → (Tables → Type 0) → Type 0)
    (status : ℕ) (IsLeft : Inner A O g → Type 0) : Type 0 where
  pub inner : Inner A O g
  pub ends : IsHonest first g inner → (t : Tables) → ImageTells first.image t →
      Ends t (HasVersion first g inner) (Tells first g inner) (MayLeave first g inner)
  pub stopped : (is_stopped inner ≡ true) ↔ (status ≡ 5)
  pub left : IsLeft inner

-- the end of a session over files: a keeper that has stopped if and only if the status is 5, over which, if it is honest, the
-- call ended so for the tables that the files held initially; what its close gave; and whether it is returned
pub record SessionEnd {S D : Type 0} {g : Ghosts D} (held : start.Ghosts S)
    (Ends : Tables → (ℤ → Type 0) → (Tables → Type 0) → (Tables → Type 0) → Type 0)
    (status : ℕ) (closed : Option (Result (Option (Files D)) (Error × FileStore D g)))
    (ComesBack : Inner (FileStore D g) (PathOpener S D held g) over_files → Type 0) : Type 0 where
  pub inner : Inner (FileStore D g) (PathOpener S D held g) over_files
  pub ends : IsHonest (path_files held) over_files inner → (t : Tables) → ImageTells (image_at held) t →
      Ends t (HasVersion (path_files held) over_files inner) (Tells (path_files held) over_files inner)
      (MayLeave (path_files held) over_files inner)
  pub stopped : (is_stopped inner ≡ true) ↔ (status ≡ 5)
  pub close : IsClosedAs (path_files held) inner closed
  pub back : ComesBack inner
