use Rattle.std.proofs.Common.{◌≡◌, ◌+◌, pos, drop}
use Rattle.restart_core.specs.Damages.{docs_damage}
use Rattle.restart_core.proofs.docs.docs_damage.Given as goal

-- the damage of all is that of what is left
abbrev pub invariant-loop-i : goal.invariant-loop-i
invariant-loop-i l = docs_damage 1 (pos 0) l.docs ≡ docs_damage (l.i + 1) l.low (drop l.i l.docs)
