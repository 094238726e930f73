use Rattle.std.proofs.Common.{◌≡◌, ◌++◌, map, length}
use Rattle.std.specs.Iterator.Adapters.{zip_first, zip_second}
use Rattle.std.specs.Vec.Iter.{into_iter_items, into_iter_len}
use Rattle.tap_rows.specs.Kept.{Each}
use Rattle.restart_core.specs.Readings.{readings_of, as_read}
use Rattle.tap_kept.specs.Keeping.{never_run}
use Rattle.tap_kept.proofs.cache.push_queries.Given as goal
use Rattle.tap_base.specs.Numbers.{IsMoment}

-- the queries that were appended, and those that are left, whose conditions are left too
abbrev pub invariant-loop-row : goal.invariant-loop-row
invariant-loop-row l = record {
  next : (goal.iterator-loop-row).can_next l.row-iterator;
  finite : (goal.iterator-loop-row).is_finite l.row-iterator;
  rows : into_iter_len (zip_first l.row-iterator) ≡ length (into_iter_items (zip_first l.row-iterator));
  more : into_iter_len (zip_second l.row-iterator) ≡ length (into_iter_items (zip_second l.row-iterator));
  all : l.fn.queries ++ map never_run l.fn.rows ≡ l.queries ++ map never_run (into_iter_items (zip_first l.row-iterator));
  conds : readings_of (into_iter_items (zip_first l.row-iterator)) ≡ as_read (into_iter_items (zip_second l.row-iterator));
  moments : Each (λ row. IsMoment row.arrival) (into_iter_items (zip_first l.row-iterator));
}
