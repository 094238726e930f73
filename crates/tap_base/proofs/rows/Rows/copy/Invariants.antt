use Rattle.std.proofs.Common.{◌≡◌, ◌++◌, drop}
use Rattle.tap_base.proofs.rows.Rows.copy.Given as goal

-- the rows are those that were copied, and then those that are left
abbrev pub invariant-loop-row : goal.invariant-loop-row
invariant-loop-row g l = l.self ≡ l.rows ++ drop l.row-index l.self
