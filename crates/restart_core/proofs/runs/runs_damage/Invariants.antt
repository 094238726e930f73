use Rattle.std.proofs.Common.{◌≡◌, ◌+◌, pos, drop}
use Rattle.restart_core.specs.Damages.{runs_damage}
use Rattle.restart_core.proofs.runs.runs_damage.Given as goal

-- the damage of all is that of what is left
abbrev pub invariant-loop-i : goal.invariant-loop-i
invariant-loop-i l = runs_damage l.queries 1 (pos 0) l.runs ≡ runs_damage l.queries (l.i + 1) l.low (drop l.i l.runs)
