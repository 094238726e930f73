use Rattle.std.proofs.Common.{◌≡◌, ◌+◌, ◌<◌, ◌^◌, drop}
use Rattle.tap_base.specs.FirstPlaces.{firsts_after, places_with, gap_total}
use Rattle.tap_base.proofs.first_places.next_stop.Given as goal

-- no place with this tag has come yet
abbrev pub invariant-loop-i : goal.invariant-loop-i
invariant-loop-i l = record {
  places : places_with l.tag (firsts_after l.fn.at l.gaps) ≡ places_with l.tag (firsts_after l.at (drop l.i l.gaps));
  fits : l.at + gap_total (drop l.i l.gaps) < 2 ^ 64;
}
