use Rattle.std.proofs.Common.{◌≡◌, ◌+◌, [], map, None, take, drop}
use Rattle.std.specs.Option.{option_copied}
use Rattle.restart_core.specs.Damages.{picks_damage}
use Rattle.restart_core.specs.Earlier.{pair_of}
use Rattle.restart_core.proofs.picks.picks_damage.Given as goal

-- the damage of all is that of what is left, behind those seen
abbrev pub invariant-loop-i : goal.invariant-loop-i
invariant-loop-i l = record {
  left : picks_damage l.runs l.docs [] 1 None l.picks
      ≡ picks_damage l.runs l.docs (take l.i l.picks) (l.i + 1) (option_copied l.before) (drop l.i l.picks);
  pairs : l.picked ≡ map pair_of (take l.i l.picks);
}
