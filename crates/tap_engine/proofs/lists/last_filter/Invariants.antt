use Rattle.std.proofs.Common.{◌≡◌, ◌≤◌, length, take}
use Rattle.std.specs.Prelude.{find, reverse}
use Rattle.std.specs.Str.{bytes_eq}
use Rattle.tap_model.specs.Filters.{last_filter}
use Rattle.tap_engine.proofs.lists.last_filter.Given as goal

-- the last filter is among those before the end
abbrev pub invariant-filters : goal.invariant-filters
invariant-filters l = record {
  found : last_filter l.user l.filters ≡ find (λ filter. bytes_eq filter.owner l.user) (reverse (take l.end l.filters));
  within : l.end ≤ length l.filters;
}

abbrev pub decreases-filters : goal.decreases-filters
decreases-filters l = l.end
