use Rattle.std.proofs.Common.{◌≡◌, ◌+◌, pos, drop}
use Rattle.restart_core.specs.Damages.{notes_damage}
use Rattle.restart_core.proofs.notes.notes_damage.Given as goal

-- the damage of all is that of what is left
abbrev pub invariant-loop-i : goal.invariant-loop-i
invariant-loop-i l = notes_damage l.docs 1 (pos 0) l.notes ≡ notes_damage l.docs (l.i + 1) l.low (drop l.i l.notes)
