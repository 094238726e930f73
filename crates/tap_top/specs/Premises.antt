-- The premises and ends of clauses, by name.
use Rattle.std.specs.Prelude.{ℕ, ℤ, pos, ◌≡◌, ◌≤◌, ◌⊎◌}
use Rattle.keeper_core.specs.Keeping.{IsDurable}
use Rattle.keeper_core.specs.declared.keeper.Keeper.{Ghosts}
use Rattle.tap_base.specs.Counts.{Rose}
use Rattle.tap_rows.specs.declared.tables.Tables.{Tables}
use Rattle.tap_model.specs.Sound.{IsStore}
use Rattle.tap_engine.specs.declared.engine.Engine.{Engine}
use Rattle.tap_top.specs.Points.{EngineMatchesKeeper}

-- the keeper tells these tables, and a crash leaves exactly these
abbrev pub IsDurableIn : {K : Type 0} (g : Ghosts K) (keeper : K) → Tables → Type 0
IsDurableIn g keeper = IsDurable (g.tells keeper) (g.may_leave keeper)

-- the engine and the keeper agree on these tables: the engine represents them, they are sound in its session and durable in the keeper
abbrev pub AgreeOn : {K : Type 0} (g : Ghosts K) (engine : Engine) (keeper : K) → Tables → Type 0
AgreeOn g engine keeper = EngineMatchesKeeper engine (g.tells keeper) (g.may_leave keeper)

-- if the keeper is honest after a call, this holds of each tables that it told before
abbrev pub IfTold : {K : Type 0} (g : Ghosts K) (old new : K) (Ends : Tables → Type 0) → Type 0
IfTold g old new Ends = g.honest new → (t : Tables) → g.tells old t → Ends t

-- if the keeper is honest after a call, this holds of each tables on which the engine and the keeper agreed before
abbrev pub FromEngine : {K : Type 0} (g : Ghosts K) (engine : Engine) (old new : K) (Ends : Tables → Type 0) → Type 0
FromEngine g engine old new Ends = (t : Tables) → g.honest new → AgreeOn g engine old t → Ends t

-- if the keeper is honest after a call, this holds of each tables that were durable in it before
abbrev pub FromDurable : {K : Type 0} (g : Ghosts K) (old new : K) (Ends : Tables → Type 0) → Type 0
FromDurable g old new Ends = (t : Tables) → g.honest new → IsDurableIn g old t → Ends t

-- if the keeper is honest after a call, this holds of each tables that were durable in it before, and that a session left
abbrev pub FromStore : {K : Type 0} (g : Ghosts K) (old new : K) (Ends : Tables → Type 0) → Type 0
FromStore g old new Ends = FromDurable g old new (λ t. IsStore t → Ends t)

-- if the keeper is honest after a call, this holds of each tables that were durable in it before, and each version that it told of them
abbrev pub FromVersion : {K : Type 0} (g : Ghosts K) (old new : K) (Ends : Tables → ℤ → Type 0) → Type 0
FromVersion g old new Ends = FromDurable g old new (λ t. (v : ℤ) → g.has_version old v → Ends t v)

-- this holds if the store told version 1 or version 2
abbrev pub IfKnown : (versions : ℤ → Type 0) → Type 0 → Type 0
IfKnown versions Holds = (v : ℤ) → versions v → (v ≡ pos 1) ⊎ (v ≡ pos 2) → Holds

-- a count of faults didn't rise
abbrev pub IsCalm : ℕ → ℕ → Type 0
IsCalm before now = Rose before now → ⊥

-- this holds if no read, no put and no call of the keeper failed, by their counts of faults
abbrev pub IfCalm : (reads reads' puts puts' keeps keeps' : ℕ) (Holds : Type 0) → Type 0
IfCalm reads reads' puts puts' keeps keeps' Holds = IsCalm reads reads' → IsCalm puts puts' → IsCalm keeps keeps' → Holds

-- the status of a run that no fault cut off: it ended with its commands, at a refused store, or out of memory
abbrev pub IsUndisturbed : ℕ → Type 0
IsUndisturbed status = (status ≤ 1) ⊎ ((status ≡ 6) ⊎ (status ≡ 7))
