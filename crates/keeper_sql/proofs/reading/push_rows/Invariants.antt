use Rattle.std.proofs.Common.{◌≡◌, ◌++◌, map, length}
use Rattle.std.specs.Vec.Iter.{into_iter_items, into_iter_len}
use Rattle.sqlite_value.specs.Order.{Row}
use Rattle.keeper_sql.specs.Failing.{IsOneOf}
use Rattle.keeper_sql.proofs.reading.push_rows.Given as goal

-- the rows that were appended, and those that are left
abbrev pub invariant-loop-row : goal.invariant-loop-row
invariant-loop-row g l = record {
  len : into_iter_len l.row-iterator ≡ length (into_iter_items l.row-iterator);
  all : l.fn.rows ++ map g.T.TableRow.shown l.fn.shown.items ≡ l.rows ++ map g.T.TableRow.shown (into_iter_items l.row-iterator);
  one : (r : Row) → IsOneOf (into_iter_items l.row-iterator) r → IsOneOf l.fn.shown.items r;
}
