use Rattle.std.proofs.Common.{◌≡◌, ◌-◌, ◌≤◌}
use Rattle.tap_base.specs.FirstPlaces.{firsts_after, gap_total}
use Rattle.tap_base.proofs.first_places.FirstPlaces.push.Given as goal

-- no place is added yet, and the last one isn't behind the new one
abbrev pub invariant-far : goal.invariant-far
invariant-far l = record {
  firsts : firsts_after 0 l.self-inside.gaps.items ≡ l.fn.self.firsts;
  last : l.self-inside.last ≡ gap_total l.self-inside.gaps.items;
  before : l.self-inside.last ≤ l.at;
}

abbrev pub decreases-far : goal.decreases-far
decreases-far l = l.at - l.self-inside.last
