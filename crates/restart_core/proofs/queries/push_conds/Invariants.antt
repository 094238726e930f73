use Rattle.std.proofs.Common.{◌≡◌, ◌+◌, ◌++◌, pos, [], map, take, drop}
use Rattle.restart_core.specs.Damages.{queries_damage}
use Rattle.restart_core.specs.Earlier.{named_of}
use Rattle.restart_core.specs.Readings.{readings_of, as_read}
use Rattle.restart_core.proofs.queries.push_conds.Given as goal

-- the damage of all is that of what is left, behind those seen, whose conditions are there
abbrev pub invariant-loop-i : goal.invariant-loop-i
invariant-loop-i l = record {
  left : queries_damage [] 1 (pos 0) l.queries ≡ queries_damage (take l.i l.queries) (l.i + 1) l.low (drop l.i l.queries);
  names : l.names ≡ map named_of (take l.i l.queries);
  conds : readings_of l.queries ≡ as_read l.conds ++ readings_of (drop l.i l.queries);
}
