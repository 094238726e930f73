-- How files that are closed fail to be opened again, and to be attached.
use Rattle.std.specs.Prelude.{◌⊎◌, false}
use Rattle.sqlite_disk.specs.declared.Disk.{Ghosts}
use Rattle.sqlite_disk.specs.declared.Files.{Files}
use Rattle.sqlite_store.specs.declared.store.FileStore.{FileStore}
use Rattle.sqlite_wal.specs.Reads.{AreClean}
use Rattle.sqlite.specs.Closing.{IsCopied}
use Rattle.sqlite.specs.declared.error.Error.{Error}
use Rattle.sqlite.specs.declared.file.Leftover.{Leftover}
use Rattle.sqlite.specs.declared.file.Leftover.TheVariants as left
use Rattle.sqlite.specs.Files.{file_state, over_files, FailsToClose, FailsToOpenFiles}
use Rattle.sqlite.specs.Held.{Held}
use Rattle.sqlite.specs.State.{HasCleanDisk}
use Rattle.tap_rows.specs.declared.tables.Tables.{Tables}
use Rattle.keeper_core.specs.declared.fault.AttachFault.{AttachFault}
use Rattle.keeper_sql.specs.Store.{TellsAs}
use Rattle.keeper_file.specs.Failing.{FailsToAttachFrom}

module _ {D : Type 0} {g : Ghosts D} where
  -- the close of a connection failed with this error, and left its store
  abbrev pub FailsToCloseTo : Held (FileStore D g) → Leftover D g → Error → Type 0
  FailsToCloseTo was (left.Store last) e = FailsToClose was last e
  FailsToCloseTo was _ e = ⊥

  -- a connection was closed, and the files that this gave failed to open with this error, which left that
  pub record FailsToOpenClosed (was : Held (FileStore D g)) (rest : Leftover D g) (e : Error) : Type 0 where
    pub files : Files D
    pub closed : AreClean g files.log files.db → IsCopied was files
    pub fails : FailsToOpenFiles files rest e

  -- a connection was not opened again: its close failed, or the open of the files that it gave
  abbrev pub FailsToOpenAgain : Held (FileStore D g) → Leftover D g → Error → Type 0
  FailsToOpenAgain was rest e = FailsToCloseTo was rest e ⊎ FailsToOpenClosed was rest e

  -- a connection that was opened again, and tells what was told before, was not attached
  pub record FailsToAttachAgain (Told : Tables → Type 0) (now : Held (FileStore D g)) (given : AttachFault) : Type 0 where
    pub opened : Held (FileStore D g)
    pub honest : HasCleanDisk (file_state opened)
    pub told : (t : Tables) → Told t → TellsAs false (file_state opened) t
    pub fails : FailsToAttachFrom over_files opened now given
