use Rattle.std.proofs.Common.{◌≡◌, ◌++◌, length}
use Rattle.std.specs.Vec.Iter.{into_iter_items, into_iter_len}
use Rattle.tap_kept.specs.Starting.{first_unread}
use Rattle.tap_kept.proofs.cache.push_filters.Given as goal

-- the filters that were appended, which have no fault, and those that are left
abbrev pub invariant-loop-row : goal.invariant-loop-row
invariant-loop-row l = record {
  len : into_iter_len l.row-iterator ≡ length (into_iter_items l.row-iterator);
  all : l.fn.kept ++ l.fn.filters ≡ l.kept ++ into_iter_items l.row-iterator;
  read : first_unread l.fn.filters ≡ first_unread (into_iter_items l.row-iterator);
}
