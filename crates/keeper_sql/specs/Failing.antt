-- How the calls of this crate fail: by which statement, and between which states.
use Rattle.std.specs.Prelude.{◌≡◌, ◌≢◌, ◌⊎◌, ℕ, ℤ, pos, ◌+◌, ◌<◌, ◌≤◌, true, List, [], ◌∷◌, length, take, drop, get_or, slice_get, Some}
use Rattle.std.specs.Prelude.{IsTrue, OnOk, IfErr, Result, Err}
use Rattle.std.specs.List.{flat_map}
use Rattle.sqlite_value.specs.Order.{Row, column}
use Rattle.tap_rows.specs.declared.rows.Pick.{Pick}
use Rattle.sqlite_trees.specs.declared.store.Store.{Ghosts}
use Rattle.sqlite.specs.declared.error.Error.{Error}
use Rattle.sqlite.specs.declared.error.ErrorCode.TheVariants.{OutOfMemory}
use Rattle.sqlite.specs.declared.error.Error.TheVariants.{SqliteFailure, InvalidColumnIndex, InvalidColumnType}
use Rattle.sqlite.specs.declared.types.Type.{«Type» as SqlType}
use Rattle.sqlite.specs.Values.{type_of}
use Rattle.sqlite.specs.Held.{Held, state}
use Rattle.sqlite.specs.Effect.{Database}
use Rattle.sqlite.specs.State.{State, HasCleanDisk, Survives, IsRolledBack, IsUnchanged, Fails, ExecutesInside, FailsToQuery, IsTooLate}
use Rattle.sqlite.specs.State.{Shown}
use Rattle.sqlite.specs.Steps.{FailsToCommit}
use Rattle.tap_rows.specs.declared.change.Change.{Change}
use Rattle.tap_rows.specs.declared.change.Change.TheVariants.{Docs, OneNote, OneQuery, RunDone, OneFilter}
use Rattle.keeper_core.specs.declared.fault.CommitFault.{CommitFault}
use Rattle.keeper_core.specs.declared.fault.CommitFault.TheVariants.{Memory, Failed}
use Rattle.keeper_core.specs.declared.fault.AttachFault.{AttachFault}
use Rattle.keeper_core.specs.declared.fault.AttachFault.TheVariants as attach
use Rattle.keeper_sql.specs.Store.{IsOurs, OpensTo, IsAfterOpen}
use Rattle.keeper_sql.specs.Schema.{create_texts}
use Rattle.keeper_sql.specs.Schema.{select_docs, select_notes, select_queries, select_runs, select_picks, select_filters}
use Rattle.keeper_sql.specs.Schema.{select_meta, replace_meta, insert_doc, insert_note, insert_query, insert_run, insert_pick, insert_eight}
use Rattle.keeper_sql.specs.Schema.{insert_filter}
use Rattle.keeper_sql.specs.RowsAsValues.{version_kinds, given_doc, given_note, given_query, given_run, given_pick, given_filter}
use Rattle.keeper_sql.specs.RowsAsValues.{doc_kinds, note_kinds, query_kinds, run_kinds, pick_kinds, filter_kinds}

-- ---- one statement, between the states before and after it

-- a statement that writes failed with this error
abbrev pub FailsToWrite : List ℕ → Row → State → State → Error → Type 0
FailsToWrite sql params old new e = ExecutesInside 0 sql params old new (Err e)

-- this is one of those
abbrev pub IsOneOf : {X : Type 0} → List X → X → Type 0
IsOneOf xs x = (i : ℕ) × (i < length xs) × (x ≡ get_or xs i x)

-- one of these texts, which take no parameters, failed with this error
abbrev pub FailsAmong : List (List ℕ) → State → State → Error → Type 0
FailsAmong texts old new e = (sql : List ℕ) × IsOneOf texts sql × FailsToWrite sql [] old new e

-- the insert of one of these failed with this error
abbrev pub FailsToInsert : {X : Type 0} → List ℕ → (X → Row) → List X → State → State → Error → Type 0
FailsToInsert {X} sql given xs old new e = (x : X) × IsOneOf xs x × FailsToWrite sql (given x) old new e

-- the insert of eight picks at once, from this place on
abbrev pub eight_from : ℕ → List Pick → List Pick
eight_from at picks = take 8 (drop at picks)

-- the insert of one of these picks failed with this error, or that of eight in a row
abbrev pub FailsToInsertPicks : List Pick → State → State → Error → Type 0
FailsToInsertPicks picks old new e =
    FailsToInsert insert_pick given_pick picks old new e
    ⊎ ((at : ℕ) × (at + 8 ≤ length picks) × FailsToWrite insert_eight (flat_map given_pick (eight_from at picks)) old new e)

-- the insert of one of the rows of a change failed with this error
abbrev pub FailsToInsertRows : Change → State → State → Error → Type 0
FailsToInsertRows (Docs docs) old new e = FailsToInsert insert_doc given_doc docs old new e
FailsToInsertRows (OneNote note) old new e = FailsToWrite insert_note (given_note note) old new e
FailsToInsertRows (OneQuery query) old new e = FailsToWrite insert_query (given_query query) old new e
FailsToInsertRows (RunDone run picks) old new e = FailsToWrite insert_run (given_run run) old new e ⊎ FailsToInsertPicks picks old new e
FailsToInsertRows (OneFilter filter) old new e = FailsToWrite insert_filter (given_filter filter) old new e

-- ---- the values that a query shows

-- the call was out of memory
abbrev pub IsShortage : Error → Type 0
IsShortage e = e ≡ SqliteFailure OutOfMemory

-- the error names a column of a row that isn't there or has another type than the one asked for
abbrev pub Lacks : SqlType → Row → ℕ → Error → Type 0
Lacks kind row at e =
    ((length row ≤ at) × (e ≡ InvalidColumnIndex at))
    ⊎ ((at < length row) × (type_of (column row at) ≢ kind) × (e ≡ InvalidColumnType at (type_of (column row at))))

-- a value was not taken from a row: out of memory, or the row lacks it
abbrev pub FailsToTake : SqlType → Row → ℕ → Error → Type 0
FailsToTake kind row at e = IsShortage e ⊎ Lacks kind row at e

-- the error of a row that has a column without a value of its type
abbrev pub LacksOne : List SqlType → Row → Error → Type 0
LacksOne kinds row e = (at : ℕ) × (kind : SqlType) × (slice_get kinds at ≡ Some kind) × Lacks kind row at e

-- values of these types were not taken from the row
abbrev pub FailsToTakeRow : List SqlType → Row → Error → Type 0
FailsToTakeRow kinds row e = IsShortage e ⊎ LacksOne kinds row e

-- values of these types were not taken from one of the rows
abbrev pub FailsToTakeRows : List SqlType → List Row → Error → Type 0
FailsToTakeRows kinds rows e = IsShortage e ⊎ ((row : Row) × IsOneOf rows row × LacksOne kinds row e)

-- a query without parameters failed with this error, or one of the rows that it shows isn't of these types
abbrev pub FailsToRead : List ℕ → List SqlType → State → State → Error → Type 0
FailsToRead sql kinds old new e =
    (FailsToQuery sql [] old new e ⊎ IsTooLate sql [] old new e)
    ⊎ ((rows : List Row) × Shown sql [] old new rows × FailsToTakeRows kinds rows e)

-- the version was not read, or not raised
abbrev pub FailsToSettle : State → State → Error → Type 0
FailsToSettle old new e = FailsToRead select_meta version_kinds old new e ⊎ FailsToWrite replace_meta [] old new e

-- the queries that read the tables, with the types of what they show
abbrev pub table_reads : List (List ℕ × List SqlType)
table_reads =
    (select_docs, doc_kinds) ∷ (select_notes, note_kinds) ∷ (select_queries, query_kinds) ∷ (select_runs, run_kinds)
    ∷ (select_picks, pick_kinds)
    ∷ (select_filters, filter_kinds) ∷ []

-- one of the tables was not read
abbrev pub FailsToReadTables : State → State → Error → Type 0
FailsToReadTables old new e = (sql : List ℕ) × (kinds : List SqlType) × IsOneOf table_reads (sql, kinds) × FailsToRead sql kinds old new e

-- a table was not made, or the version was not settled
abbrev pub FailsToPrepare : State → State → Error → Type 0
FailsToPrepare old new e = FailsAmong create_texts old new e ⊎ FailsToSettle old new e

-- the store was not prepared, or one of its tables was not read
abbrev pub FailsToOpenStore : State → State → Error → Type 0
FailsToOpenStore old new e = FailsToPrepare old new e ⊎ FailsToReadTables old new e

-- ---- several statements, in one transaction

-- the transaction goes on from one state to the other, and commits nothing
pub record GoesOn {S : Type 0} (g : Ghosts S) (old mid : Held S) : Type 0 where
  pub survives : Survives (state g old) (state g mid) (λ _. ⊥)
  pub mode : IsTrue (state g mid).in_transaction
  pub is_open : IsTrue (state g old).is_open → IsTrue (state g mid).is_open
  pub committed : (state g mid).committed ≡ (state g old).committed

module _ {S : Type 0} (g : Ghosts S) (old new : Held S) where
  -- after a call in a transaction that succeeds, the transaction goes on, if the disk is honest after it
  abbrev pub ReachesOnSuccess : {T : Type 0} → Result T Error → Type 0
  ReachesOnSuccess result = HasCleanDisk (state g new) → IsTrue (state g old).in_transaction → OnOk result (GoesOn g old new)

  -- if the disk is honest after it, a call in a transaction that fails does so by this
  abbrev pub FailsBy : {T : Type 0} → Result T Error → (State → State → Error → Type 0) → Type 0
  FailsBy result How = HasCleanDisk (state g new) → IsTrue (state g old).in_transaction → IfErr result (How (state g old) (state g new))

  -- this failed from a state that the transaction reached
  abbrev pub FailsLater : (State → State → Error → Type 0) → Error → Type 0
  FailsLater How e = (mid : Held S) × GoesOn g old mid × How (state g mid) (state g new) e

  -- a call in a transaction that fails does so by this, from a state that it reached before
  abbrev pub FailsWithin : {T : Type 0} → Result T Error → (State → State → Error → Type 0) → Type 0
  FailsWithin result How = HasCleanDisk (state g new) → IsTrue (state g old).in_transaction → IfErr result (FailsLater How)

-- ---- a whole transaction

-- the transaction has begun
abbrev pub begun : {S : Type 0} → Held S → Held S
begun h = record h { in_transaction = true }

module _ {S : Type 0} (g : Ghosts S) (old new : Held S) where
  -- a statement in it failed, and then it was rolled back
  abbrev pub FailsInside : (State → State → Error → Type 0) → Error → Type 0
  FailsInside How e =
      (end : Held S) × FailsLater g (begun old) end How e × IsRolledBack (state g end) (state g new)
      × Survives (state g end) (state g new) (λ _. ⊥)

  -- its commit failed
  abbrev pub FailsAtCommit : Error → Type 0
  FailsAtCommit e = (mid : Held S) × GoesOn g (begun old) mid × FailsToCommit (state g mid) (state g new) e

  -- a transaction fails so
  abbrev pub FailsWhole : (State → State → Error → Type 0) → Error → Type 0
  FailsWhole How e = FailsInside How e ⊎ FailsAtCommit e

-- ---- an error, and whether the store is open after it

-- the store failed as it was tested whether it is open
abbrev pub FailsAtTest : State → State → Type 0
FailsAtTest old new = (e : Error) × Fails old new ⊥ e

-- the error is another than that of memory, or the store failed at the test after it
abbrev pub IsNotOnlyMemory : State → State → Error → Type 0
IsNotOnlyMemory old new e = (e ≢ SqliteFailure OutOfMemory) ⊎ FailsAtTest old new

-- this version isn't known, and a database of this program has it
abbrev pub HasUnknownVersion : Database → ℤ → Type 0
HasUnknownVersion db version = (version ≢ pos 1) × (version ≢ pos 2) × (IsOurs db → (to : Database) × OpensTo version db to)

module _ {S : Type 0} (g : Ghosts S) (old new : Held S) where
  -- a transaction failed by memory, and the store is unchanged since
  abbrev pub FailsByMemory : (State → State → Error → Type 0) → Type 0
  FailsByMemory How = (end : Held S) × FailsWhole g old end How (SqliteFailure OutOfMemory) × IsUnchanged (state g end) (state g new)

  -- a transaction failed, and not by memory alone
  abbrev pub FailsOtherwise : (State → State → Error → Type 0) → Type 0
  FailsOtherwise How =
      (end : Held S) × (e : Error) × FailsWhole g old end How e
      × IsNotOnlyMemory (state g end) (state g new) e × Survives (state g end) (state g new) (λ _. ⊥)

  -- a version that isn't known was found, and then the test failed
  abbrev pub FailsAfterAlien : Type 0
  FailsAfterAlien =
      (end : Held S) × (version : ℤ) × HasUnknownVersion (state g old).now version
      × Survives (state g old) (state g end) (IsAfterOpen (state g old)) × FailsAtTest (state g end) (state g new)

-- why a change wasn't committed: `Memory` if a statement or the commit was out of memory and nothing changed since; `Failed` if
-- one failed otherwise
abbrev pub FailsToKeep : {S : Type 0} → Ghosts S → Held S → Held S → Change → CommitFault → Type 0
FailsToKeep g old new change Memory = FailsByMemory g old new (FailsToInsertRows change)
FailsToKeep g old new change Failed = FailsOtherwise g old new (FailsToInsertRows change)

-- why a store wasn't opened: `Memory` and `Failed` as for a change; also `Failed` if an unknown version was found before the
-- store failed
abbrev pub FailsToAttach : {S : Type 0} → Ghosts S → Held S → Held S → AttachFault → Type 0
FailsToAttach g old new attach.Memory = FailsByMemory g old new FailsToOpenStore
FailsToAttach g old new attach.Failed = FailsOtherwise g old new FailsToOpenStore ⊎ FailsAfterAlien g old new
FailsToAttach g old new (attach.Alien version) = Unit {0}
