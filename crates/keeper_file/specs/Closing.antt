-- What a close leaves of a store.
use Rattle.std.specs.Prelude.{◌≡◌, [], IsTrue}
use Rattle.sqlite_disk.specs.declared.Disk.{Ghosts}
use Rattle.sqlite_disk.specs.declared.Files.{Files}
use Rattle.sqlite_trees.specs.Tree.{Trees}
use Rattle.sqlite_wal.specs.Files.{outcomes}
use Rattle.sqlite_wal.specs.Recovery.{Image}
use Rattle.sqlite_store.specs.declared.store.FileStore.{FileStore}
use Rattle.sqlite_store.specs.FileStore.{recovers}
use Rattle.sqlite.specs.Closing.{HoldsAlone}
use Rattle.sqlite.specs.Effect.{Database}
use Rattle.sqlite.specs.Files.{image_of}
use Rattle.tap_rows.specs.declared.tables.Tables.{Tables}
use Rattle.keeper_sql.specs.Store.{tables_of}
use Rattle.keeper_file.specs.Images.{IsStoreOrNone}

-- the two files hold a database of the store with these tables, and so does the database file with no log
pub record HoldsWhole (image : Image) (t : Tables) : Type 0 where
  pub db : Database
  pub holds : HoldsAlone image db.trees
  pub ours : IsStoreOrNone db
  pub tables : t ≡ tables_of db.trees

module _ {D : Type 0} (g : Ghosts D) where
  -- both files can be used
  pub record AreUsable (files : Files D) : Type 0 where
    pub log : IsTrue (g.is_usable files.log)
    pub db : IsTrue (g.is_usable files.db)

  -- the files hold these tables whole, as they read now and after a crash
  pub record AreWhole (files : Files D) (t : Tables) : Type 0 where
    pub now : HoldsWhole (image_of g files) t
    pub crash : (image : Image) → outcomes g files.log files.db image → HoldsWhole image t

  -- the files are the database file alone, as a crash may leave it, and an empty log
  pub record IsCopyOf (files : Files D) (copy : Image) : Type 0 where
    pub image : Image
    pub left : outcomes g files.log files.db image
    pub is : copy ≡ record image { log = [] }

  -- a crash of what is left of a store leaves exactly these tables
  abbrev pub StoreLeavesOnly : FileStore D g → Tables → Type 0
  StoreLeavesOnly store t = (db : Trees) → recovers store db → tables_of db ≡ t
