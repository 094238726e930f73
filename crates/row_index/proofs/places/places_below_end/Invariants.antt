use Rattle.std.proofs.Common.{◌≡◌, ◌+◌, ◌≤◌, take, length}
use Rattle.std.specs.Prelude.{nat_le}
use Rattle.std.specs.List.{suffix_len}
use Rattle.row_index.proofs.places.places_below_end.Given as goal

-- the places to be removed are those so far and those of what is left
abbrev pub invariant-loop-left : goal.invariant-loop-left
invariant-loop-left l = record {
  within : l.left ≤ length l.places;
  late : l.left + suffix_len (λ place. nat_le l.len place) l.places
      ≡ length l.places + suffix_len (λ place. nat_le l.len place) (take l.left l.places);
}

abbrev pub decreases-loop-left : goal.decreases-loop-left
decreases-loop-left l = l.left
