-- What an open that failed leaves of two files.
use Rattle.std.specs.Prelude.{◌≡◌, ◌⊎◌, Option, Some, None, IfSome, IsSomeAnd}
use Rattle.tap_rows.specs.declared.tables.Tables.{Tables}
use Rattle.sqlite_disk.specs.declared.Disk.{Ghosts}
use Rattle.sqlite_wal.specs.Files.{outcomes}
use Rattle.sqlite_wal.specs.Recovery.{Image}
use Rattle.sqlite_pool.specs.Stored.{reserved}
use Rattle.sqlite_trees.specs.Tree.{Trees}
use Rattle.sqlite_store.specs.FileStore.{recovers}
use Rattle.sqlite_store.specs.Unopened.{state_of}
use Rattle.sqlite.specs.declared.file.Leftover.{Leftover}
use Rattle.sqlite.specs.declared.file.Leftover.TheVariants as left
use Rattle.sqlite.specs.Files.{HoldsDatabase, IsCleanLeft}
use Rattle.keeper_sql.specs.Store.{tables_of}
use Rattle.keeper_file.specs.Images.{ImageTells}

-- no database that the files hold ends its pages in sums
abbrev pub HasNoSums : Image → Type 0
HasNoSums image = (db : Trees) (held : HoldsDatabase image db) → reserved held.0 ≡ 0

module _ {D : Type 0} {g : Ghosts D} where
  -- a crash of what a failed open left of the files may leave these tables
  abbrev pub LeftTells : Leftover D g → Tables → Type 0
  LeftTells (left.Files now) t = (image : Image) × outcomes g now.log now.db image × ImageTells image t
  LeftTells (left.Unopened now) t = (image : Image) × (state_of now).may_leave image × ImageTells image t
  LeftTells (left.Store now) t = (db : Trees) × recovers now db × (t ≡ tables_of db)

  -- if the disk was honest and no pages end in sums, that crash leaves no other tables than the files held
  abbrev pub Spares : Image → Leftover D g → Type 0
  Spares image left = IsCleanLeft left → HasNoSums image → (t : Tables) → ImageTells image t → (x : Tables) → LeftTells left x → x ≡ t

-- of files that are opened by this start, or were; and what is left of them if an open failed once it had them
module _ {S D : Type 0} {g : Ghosts D} (image : Image) where
  -- the disk was honest in an open that failed, and no pages end in sums
  abbrev pub AreCleanSoFar : Option S → Option (Leftover D g) → Type 0
  AreCleanSoFar (Some start) left = Unit {0}
  AreCleanSoFar None left = IfSome left (λ it. IsCleanLeft it × HasNoSums image)

  -- a crash may leave these tables: those that the files held, or those of what is left
  abbrev pub MayLeaveSoFar : Option S → Option (Leftover D g) → Tables → Type 0
  MayLeaveSoFar (Some start) left t = ImageTells image t
  MayLeaveSoFar None left t = ImageTells image t ⊎ IsSomeAnd left (λ it. LeftTells it t)
