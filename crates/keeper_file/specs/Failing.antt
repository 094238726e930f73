-- How the calls of a keeper over files fail.
use Rattle.std.specs.Prelude.{◌≡◌, ◌≢◌, ◌⊎◌, ℕ, List, false, codes}
use Rattle.sqlite_disk.specs.declared.Disk.{Ghosts}
use Rattle.sqlite_trees.specs.declared.store.Store as store
use Rattle.sqlite_store.specs.declared.store.FileStore.{FileStore}
use Rattle.sqlite_disk.specs.declared.Files.{Files}
use Rattle.sqlite.specs.declared.error.Error.{Error}
use Rattle.sqlite.specs.declared.error.Error.TheVariants.{SqliteFailure}
use Rattle.sqlite.specs.declared.error.ErrorCode.TheVariants.{OutOfMemory}
use Rattle.sqlite.specs.declared.file.Leftover.{Leftover}
use Rattle.sqlite.specs.Held.{Held, state}
use Rattle.sqlite.specs.State.{HasCleanDisk}
use Rattle.sqlite.specs.Steps.{over_memory}
use Rattle.sqlite.specs.Files.{over_files, FailsToClose, FailsToOpenFiles}
use Rattle.keeper_core.specs.declared.fault.AttachFault.{AttachFault}
use Rattle.keeper_core.specs.declared.fault.AttachFault.TheVariants as fault
use Rattle.keeper_sql.specs.Failing as sql
use Rattle.keeper_file.specs.NewlyOpened.{IsNewlyOpened}
use Rattle.keeper_file.specs.OpenerFiles.{FilesOf}
use Rattle.keeper_file.specs.declared.inner.Inner.{Inner}
use Rattle.keeper_file.specs.declared.inner.Inner.TheVariants.{Unopened, Memory, File}

module _ {D O : Type 0} {g : Ghosts D} where
  -- files were open, and their close failed with this error: the disk failed, it was out of memory, or the store was shut before
  abbrev pub FailsToCloseOpen : Inner (FileStore D g) O over_files → FileStore D g → Error → Type 0
  FailsToCloseOpen (Unopened u) last e = ⊥
  FailsToCloseOpen (Memory m) last e = ⊥
  FailsToCloseOpen (File k) last e = FailsToClose k.connection last e

-- an attach returns an error so: out of memory by that, any other by a failure
abbrev pub IsAnsweredBy : Error → AttachFault → Type 0
IsAnsweredBy e fault.Memory = e ≡ SqliteFailure OutOfMemory
IsAnsweredBy e fault.Failed = e ≢ SqliteFailure OutOfMemory
IsAnsweredBy e (fault.Alien version) = ⊥

-- the open of these files failed, which left that, by an error that is answered so
abbrev pub FailsToOpen : {D : Type 0} {g : Ghosts D} → Files D → Leftover D g → AttachFault → Type 0
FailsToOpen files rest given = (e : Error) × FailsToOpenFiles files rest e × IsAnsweredBy e given

-- the attach of an open store failed: it was out of memory before it used the store, or one of its calls failed
abbrev pub FailsToAttachFrom : {S : Type 0} → store.Ghosts S → Held S → Held S → AttachFault → Type 0
FailsToAttachFrom g old new given = ((given ≡ fault.Memory) × (new ≡ old)) ⊎ sql.FailsToAttach g old new given

module _ {A O : Type 0} {g : store.Ghosts A} where
  -- the attach of the open store gave `Failed`: if the disk was honest, one of its calls failed
  abbrev pub FailsToAttachOpen : Inner A O g → Inner A O g → Type 0
  FailsToAttachOpen (Memory old) (Memory new) =
      HasCleanDisk (state over_memory new.keeper.connection)
      → FailsToAttachFrom over_memory old.keeper.connection new.keeper.connection fault.Failed
  FailsToAttachOpen (File old) (File new) =
      HasCleanDisk (state g new.connection) → FailsToAttachFrom g old.connection new.connection fault.Failed
  FailsToAttachOpen _ _ = ⊥

  -- an attach at this path may open no store: at `:memory:` only if the opener was used; over a store in memory only at another
  -- path; over open files never
  abbrev pub FailsToOpenAt : FilesOf O → Inner A O g → List ℕ → Type 0
  FailsToOpenAt files (Unopened u) at = at ≡ codes ":memory:" → files.is_unused u.opener ≡ false
  FailsToOpenAt files (Memory m) at = at ≢ codes ":memory:"
  FailsToOpenAt files (File k) at = ⊥

-- an attach gave `Failed`: it opened no store, or the store that was open, or that it opened, was not attached
abbrev pub FailsToAttachAt : {A O : Type 0} → FilesOf O → (g : store.Ghosts A) → Inner A O g → Inner A O g → List ℕ → Type 0
FailsToAttachAt {A} {O} files g old new at =
    FailsToOpenAt files old at ⊎ ((mid : Inner A O g) × ((mid ≡ old) ⊎ IsNewlyOpened files g mid) × FailsToAttachOpen mid new)
