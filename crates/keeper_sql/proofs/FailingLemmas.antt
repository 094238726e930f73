-- How the calls of a transaction fail one after another.
use Rattle.std.proofs.lemmas.Result.{IfErr-weaker}
use Rattle.std.proofs.Common.{◌≡◌, ◌∙◌, ℕ, List, IsTrue, refl, subst, arith, inl, Result, Ok, Err, IfOk, OnOk, IfErr}
use Rattle.sqlite_value.specs.Order.{Row}
use Rattle.sqlite_trees.specs.declared.store.Store.{Ghosts}
use Rattle.sqlite_schema.specs.declared.schema.Schema.{Schema}
use Rattle.sqlite.specs.declared.error.Error.{Error}
use Rattle.sqlite.specs.Held.{Held, state}
use Rattle.sqlite.specs.State.{State, HasCleanDisk, Survives, IsUnchanged, ExecutesInside}
use Rattle.sqlite.proofs.StateLemmas.{survives_then}
use Rattle.keeper_sql.specs.Store.{RowsWritten, Makes, Raises}
use Rattle.keeper_sql.specs.Failing.{FailsToWrite, GoesOn, FailsLater, FailsBy, FailsWithin}

-- the parameters of a statement are these
pub fails_by : (old new : State) (sql : List ℕ) (given params : Row) (e : Error) → given ≡ params
    → ExecutesInside 0 sql given old new (Err e) → FailsToWrite sql params old new e
fails_by old new sql given params e is h = subst (λ row. ExecutesInside 0 sql row old new (Err e)) is h

same_survives : (s : State) → Survives s s (λ _. ⊥)
same_survives s = record {
  clean = omega arith;
  shield = λ h. h;
  counts = omega arith;
  limit = refl;
  closes = λ clean was. inl was;
  crash = λ clean db left. inl left;
}

module _ {S : Type 0} (g : Ghosts S) where
  pub reaches_same : (old : Held S) → IsTrue (state g old).in_transaction → GoesOn g old old
  reaches_same old inside = record { survives = same_survives (state g old); mode = inside; is_open = λ was. was; committed = refl }

  pub reaches_then : (old mid new : Held S) → GoesOn g old mid → GoesOn g mid new → GoesOn g old new
  reaches_then old mid new p q = record {
    survives = survives_then (state g old) (state g mid) (state g new) _ _ _ (λ _ db none. none) (λ _ db none. none) p.survives q.survives;
    mode = q.mode;
    is_open = λ was. q.is_open (p.is_open was);
    committed = q.committed ∙ p.committed;
  }

  pub reaches_rows : (rows : ℕ → List Row) (old mid : Held S) → Survives (state g old) (state g mid) (λ _. ⊥)
      → RowsWritten rows (state g old) (state g mid) → GoesOn g old mid
  reaches_rows rows old mid s h = record { survives = s; mode = h.mode; is_open = h.is_open; committed = h.committed }

  pub reaches_made : (before : Schema) (n : ℕ) (after : Schema) (m : ℕ) (old mid : Held S) → Survives (state g old) (state g mid) (λ _. ⊥)
      → Makes before n after m (state g old) (state g mid) → GoesOn g old mid
  reaches_made before n after m old mid s h = record { survives = s; mode = h.mode; is_open = h.is_open; committed = h.committed }

  pub reaches_read : (old mid : Held S) → Survives (state g old) (state g mid) (λ _. ⊥) → IsTrue (state g old).in_transaction
      → IsUnchanged (state g old) (state g mid) → GoesOn g old mid
  reaches_read old mid s inside h =
      record { survives = s; mode = h.0.mode ∙ inside; is_open = λ _. h.0.is_open; committed = h.0.committed_is }

  -- the version was raised, after calls that succeeded
  pub reaches_raised : {T : Type 0} (old mid new : Held S) (r : Result T Error) (P : T → Type 0) → GoesOn g old mid
      → Survives (state g mid) (state g new) (λ _. ⊥)
      → IfOk r (λ x. P x × Raises (state g mid) (state g new)) → OnOk r (GoesOn g old new)
  reaches_raised old mid new (Ok x) P p s h =
      reaches_then old mid new p (record { survives = s; mode = h.1.mode; is_open = h.1.is_open; committed = h.1.committed })
  reaches_raised old mid new (Err e) P p s h = tt

  -- what failed later failed after the calls before
  pub later : (How : State → State → Error → Type 0) (old mid new : Held S) (e : Error) → GoesOn g old mid → FailsLater g mid new How e
      → FailsLater g old new How e
  later How old mid new e p h = (h.0, reaches_then old mid h.0 p h.1, h.2)

  -- what failed at once
  pub at_once : (How : State → State → Error → Type 0) (old new : Held S) (e : Error) → IsTrue (state g old).in_transaction
      → How (state g old) (state g new) e → FailsLater g old new How e
  at_once How old new e inside h = (old, reaches_same old inside, h)

  -- what failed so also failed so
  pub wider : (How Also : State → State → Error → Type 0) (old new : Held S) (e : Error) → ((a b : State) → How a b e → Also a b e)
      → FailsLater g old new How e → FailsLater g old new Also e
  wider How Also old new e also h = (h.0, h.1, also (state g h.0) (state g new) h.2)

  -- a statement after calls that succeeded
  pub step_fails : {T : Type 0} (One How : State → State → Error → Type 0) (old mid new : Held S) (r : Result T Error) → GoesOn g old mid
      → ((e : Error) → One (state g mid) (state g new) e → How (state g mid) (state g new) e) → HasCleanDisk (state g new)
      → FailsBy g mid new r One → IfErr r (FailsLater g old new How)
  step_fails One How old mid new r p also clean h = IfErr-weaker r _ _ (λ e x. (mid, p, also e x)) (h clean p.mode)

  -- several statements after calls that succeeded
  pub then_fails : {T : Type 0} (One How : State → State → Error → Type 0) (old mid new : Held S) (r : Result T Error) → GoesOn g old mid
      → ((a b : State) (e : Error) → One a b e → How a b e) → HasCleanDisk (state g new) → FailsWithin g mid new r One
      → IfErr r (FailsLater g old new How)
  then_fails One How old mid new r p also clean h =
      IfErr-weaker r _ _ (λ e x. later How old mid new e p (wider One How mid new e (λ a b. also a b e) x)) (h clean p.mode)

  -- a statement without a call before it
  pub once_fails : {T : Type 0} (How : State → State → Error → Type 0) (old new : Held S) (r : Result T Error) → FailsBy g old new r How
      → HasCleanDisk (state g new) → IsTrue (state g old).in_transaction → IfErr r (FailsLater g old new How)
  once_fails How old new r h clean inside = IfErr-weaker r _ _ (λ e x. at_once How old new e inside x) (h clean inside)
