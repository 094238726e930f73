-- What a call on a connection does, if the disk is honest at its end.
use Rattle.std.specs.Prelude.{◌≡◌, ◌⊎◌, ℕ, IsTrue, IfOk, OnOk, OnErr, Result, Ok, Err, List, map}
use Rattle.sqlite_value.specs.Order.{Row}
use Rattle.std.specs.Coded.{→_prop}
use Rattle.sqlite_trees.specs.Tree.{Trees}
use Rattle.sqlite_trees.specs.Props.{Trees-set}
use Rattle.sqlite_trees.specs.declared.store.Store.{Ghosts}
use Rattle.sqlite_resolve.specs.declared.error.CompileError.{CompileError}
use Rattle.sqlite.specs.declared.error.Error.{Error}
use Rattle.sqlite.specs.declared.error.Error.TheVariants.{SqlInputError}
use Rattle.sqlite.specs.Effect.{Database}
use Rattle.sqlite.specs.Held.{Held, state}
use Rattle.sqlite.specs.State.{State, HasCleanDisk, Survives, IsUnchanged}
use Rattle.keeper_sql.specs.Schema.{store_schema}
use Rattle.keeper_sql.specs.Store.{Undone, IsOurs, AreKeyed, LeavesOnlyTrees}

module _ {S : Type 0} (g : Ghosts S) (old new : Held S) where
  -- a call in a transaction does this if it succeeds
  abbrev pub Does : {T : Type 0} → Result T Error → (State → State → Type 0) → Type 0
  Does result Step = HasCleanDisk (state g new) → IsTrue (state g old).in_transaction → OnOk result (Step (state g old) (state g new))

  -- a call in a transaction commits nothing if it fails
  abbrev pub DoesOrUndoes : {T : Type 0} → Result T Error → Type 0
  DoesOrUndoes result = HasCleanDisk (state g new) → IsTrue (state g old).in_transaction → OnErr result (Undone (state g old) (state g new))

  -- the call commits nothing: a crash leaves what it could leave before
  abbrev pub CommitsNothing : Type 0
  CommitsNothing = Survives (state g old) (state g new) (λ _. ⊥)

  -- a read changes nothing, whatever tables there are
  abbrev pub ReadsOnly : {T : Type 0} → Result T Error → Type 0
  ReadsOnly result = HasCleanDisk (state g new) → OnOk result (IsUnchanged (state g old) (state g new))

  -- a read that fails commits nothing
  abbrev pub ReadsOrUndoes : {T : Type 0} → Result T Error → Type 0
  ReadsOrUndoes result =
      HasCleanDisk (state g new) → (state g old).now.schema ≡ store_schema → OnErr result (Undone (state g old) (state g new))

  -- a read of a store that has all its tables returns this of its database
  abbrev pub ReadsStore : {T : Type 0} → Result T Error → (Database → T → Type 0) → Type 0
  ReadsStore result Of = HasCleanDisk (state g new) → (state g old).now.schema ≡ store_schema → IfOk result (λ x. Of (state g old).now x)

  -- a call in a transaction returns this if it succeeds
  abbrev pub Gives : {T : Type 0} → Result T Error → (T → State → State → Type 0) → Type 0
  Gives result Step = HasCleanDisk (state g new) → IsTrue (state g old).in_transaction
      → IfOk result (λ x. Step x (state g old) (state g new))

  -- this holds over a store of ours, or over none
  abbrev pub OverOurs : Type 0 → Type 0
  OverOurs P = HasCleanDisk (state g new) → IsOurs (state g old).now → P

  -- this holds in a transaction over a store of ours, or over none
  abbrev pub InOurs : Type 0 → Type 0
  InOurs P = HasCleanDisk (state g new) → IsTrue (state g old).in_transaction → IsOurs (state g old).now → P

  -- this holds in a transaction over a store that has all its tables
  abbrev pub InStore : Type 0 → Type 0
  InStore P = HasCleanDisk (state g new) → IsTrue (state g old).in_transaction → (state g old).now.schema ≡ store_schema → P

-- the rows of a table, read one by one
abbrev pub AreRowsOf : {X : Type 0} → ℕ → (Row → X) → Database → List X → Type 0
AreRowsOf table row_in db rows = AreKeyed (db.trees table) → rows ≡ map row_in (db.trees table)

-- a text was refused as it was read, and not by a failure
abbrev pub IsRefused : {T : Type 0} → Result T Error → Type 0
IsRefused (Ok x) = ⊥
IsRefused (Err e) = (fault : CompileError) × (e ≡ SqlInputError fault)

-- between two transactions the connection shows the last commit
abbrev pub IsSettled : State → Type 0
IsSettled s = IsTrue s.is_open → s.now.trees ≡ s.committed.trees

pub IsSettled-prop : (s : State) → IsProp (IsSettled s)
IsSettled-prop s = →_prop (Trees-set _ _)

-- a crash leaves what the connection shows, and nothing else
abbrev pub LeavesItsTrees : State → Type 0
LeavesItsTrees s = LeavesOnlyTrees s s.now.trees

-- an open connection was open before
abbrev pub WasOpen : State → State → Type 0
WasOpen old new = IsTrue new.is_open → IsTrue old.is_open

-- an open connection shows the last commit of before
abbrev pub IsRolledBack : State → State → Type 0
IsRolledBack old new = IsTrue new.is_open → new.now ≡ old.committed

-- the connection is open, and shows what it showed before
abbrev pub ShowsTheSame : State → State → Type 0
ShowsTheSame old new = IsTrue new.is_open × IsTrue old.is_open × (new.now ≡ old.now)

-- a crash leaves what was shown before, or such trees
abbrev pub LeavesOldOr : (Trees → Type 0) → State → State → Type 0
LeavesOldOr IsOther old new = (db : Trees) → new.may_leave db → (db ≡ old.now.trees) ⊎ IsOther db
