use Rattle.std.proofs.Common.{◌≡◌, ◌+◌, ◌++◌, drop}
use Rattle.tap_rows.specs.Deliveries.{pick_rows}
use Rattle.tap_engine.proofs.run.picks_after.Given as goal

-- the picks so far, and those of the hits that are left
abbrev pub invariant-loop-hit : goal.invariant-loop-hit
invariant-loop-hit l = record {
  picks : pick_rows (l.before + 1) l.query l.run l.hits ≡ l.picks ++ pick_rows (l.count + 1) l.query l.run (drop l.hit-index l.hits);
  count : l.count ≡ l.before + l.hit-index;
}
