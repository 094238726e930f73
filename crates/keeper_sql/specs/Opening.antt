-- What the open of a store gives.
use Rattle.std.specs.Prelude.{◌≡◌, ◌≢◌, pos, IsTrue, Result, Ok, Err}
use Rattle.sqlite.specs.State.{State}
use Rattle.keeper_sql.specs.declared.opened.Opened.{Opened}
use Rattle.keeper_sql.specs.declared.opened.Opened.TheVariants.{Held, Alien}
use Rattle.tap_rows.specs.declared.tables.Tables.{Tables}
use Rattle.keeper_core.specs.declared.fault.AttachFault.{AttachFault}
use Rattle.keeper_core.specs.declared.fault.AttachFault.TheVariants as fault
use Rattle.keeper_sql.specs.Schema.{store_schema}
use Rattle.keeper_sql.specs.RowsAsValues.{tables_in}
use Rattle.keeper_sql.specs.Store.{OpensTo, OpensAt, AreAllKeyed, IsAtVersion}
use Rattle.sqlite.specs.Effect.{Database}
use Rattle.sqlite.specs.declared.error.Error.{Error}

-- an open gave the tables of a store that has version 2 now (`OpensTo`), or found another version, while the transaction goes on
abbrev pub IsOpened : State → State → Opened → Type 0
IsOpened old new (Held tables) = OpensAt (pos 2) old new × (AreAllKeyed new.now → tables ≡ tables_in new.now.trees)
IsOpened old new (Alien version) = OpensAt version old new

-- if the database has the store's tables in order of their keys, the tables that were read are theirs, and if it has one version
-- at most, that is 2
pub record AreRead (db : Database) (tables : Tables) : Type 0 where
  pub rows : db.schema ≡ store_schema → AreAllKeyed db → tables ≡ tables_in db.trees
  pub version : IsAtVersion db (pos 2)

-- an open that gave tables gave those of the database (`AreRead`); nothing is said if it found another version
abbrev pub IsRead : Database → Opened → Type 0
IsRead db (Held tables) = AreRead db tables
IsRead db (Alien version) = Unit {0}

-- only a version that isn't known is refused
abbrev pub IsRefusedAt : Opened → Type 0
IsRefusedAt (Held tables) = Unit {0}
IsRefusedAt (Alien version) = (version ≢ pos 1) × (version ≢ pos 2)

-- what `IsOpened` says, after the commit
abbrev pub IsStored : State → State → Opened → Type 0
IsStored old new (Held tables) =
    IsTrue old.is_open × IsTrue new.is_open × (new.committed ≡ new.now) × OpensTo (pos 2) old.now new.now
    × (AreAllKeyed new.now → tables ≡ tables_in new.now.trees)
IsStored old new (Alien version) = (db : Database) × OpensTo version old.now db

-- if the store was not opened, this holds
abbrev pub UnlessHeld : Result Opened Error → Type 0 → Type 0
UnlessHeld (Ok (Held tables)) P = Unit {0}
UnlessHeld (Ok (Alien version)) P = P
UnlessHeld (Err e) P = P

-- an open gave the tables of a store that has version 2 now (`OpensTo`), or found another version
abbrev pub IsOpenedWithTables : State → State → Tables → Type 0
IsOpenedWithTables old new tables = IsStored old new (Held tables)

-- if the attach ended by a version or by memory, this holds
abbrev pub UnlessFailed : {T : Type 0} → Result T AttachFault → Type 0 → Type 0
UnlessFailed (Ok given) P = Unit {0}
UnlessFailed (Err (fault.Alien version)) P = P
UnlessFailed (Err fault.Failed) P = Unit {0}
UnlessFailed (Err fault.Memory) P = P
