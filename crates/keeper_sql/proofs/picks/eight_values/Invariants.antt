use Rattle.std.proofs.Common.{◌≡◌, ◌*◌, map, take, length}
use Rattle.std.specs.List.{flat_map}
use Rattle.sqlite.specs.Values.{bound}
use Rattle.keeper_sql.specs.RowsAsValues.{given_pick, pick_in, as_kept}
use Rattle.keeper_sql.proofs.picks.eight_values.Given as goal

-- the parameters so far are those of the first documents
abbrev pub invariant-loop-i : goal.invariant-loop-i
invariant-loop-i l = record {
  all : length l.values ≡ 40;
  given : take (5 * l.i) (bound l.values) ≡ flat_map given_pick (take l.i l.picks);
  read : map pick_in (map (λ x. as_kept (given_pick x)) (take l.i l.picks)) ≡ take l.i l.picks;
}
