use Rattle.std.proofs.Common.{◌≡◌, ◌+◌, ◌*◌, ◌≤◌, pos, length}
use Rattle.std.specs.List.{list_any}
use Rattle.tql_core.specs.Holds.{truth}
use Rattle.tql_core.specs.Values.{bind}
use Rattle.probe_eval.specs.Work.{exists_work}
use Rattle.probe_eval.specs.Conjuncts.{own_part}
use Rattle.probe_eval.specs.Searches.{condition_at}
use Rattle.probe_eval.proofs.bodies.+bodies.Given as goal

abbrev pub invariant-any_own-loop-row : goal.invariant-any_own-loop-row
invariant-any_own-loop-row g l = record {
  same : list_any (λ row. truth l.fn.search.index.now (pos 0) (own_part l.fn.var (condition_at l.fn.search l.fn.inner.0))
      (bind l.fn.var row l.fn.env)) l.initial.rows ≡ list_any (λ row. truth l.fn.search.index.now (pos 0)
      (own_part l.fn.var (condition_at l.fn.search l.fn.inner.0)) (bind l.fn.var row l.fn.env)) l.rows;
  steps : l.steps + exists_work l.fn.search.index.now l.fn.var (own_part l.fn.var (condition_at l.fn.search l.fn.inner.0)) l.fn.env l.rows
      ≤ l.fn.steps
      + exists_work l.fn.search.index.now l.fn.var (own_part l.fn.var (condition_at l.fn.search l.fn.inner.0)) l.fn.env l.initial.rows;
  more : l.fn.steps ≤ l.steps;
}

abbrev pub decreases-any_own-loop-row : goal.decreases-any_own-loop-row
decreases-any_own-loop-row g l = length l.rows

abbrev pub decreases-why_false : goal.decreases-why_false
decreases-why_false g l = 7 * l.body.0

abbrev pub decreases-body_holds : goal.decreases-body_holds
decreases-body_holds g l = 7 * l.body.0 + 1

abbrev pub decreases-why_fixed_false : goal.decreases-why_fixed_false
decreases-why_fixed_false g l = 7 * l.body.0 + 1

abbrev pub decreases-own_holds : goal.decreases-own_holds
decreases-own_holds g l = 7 * l.body.0 + 2

abbrev pub decreases-any_own : goal.decreases-any_own
decreases-any_own g l = 7 * l.inner.0 + 3

abbrev pub decreases-why_no_later : goal.decreases-why_no_later
decreases-why_no_later g l = 7 * l.inner.0 + 4

abbrev pub decreases-why_no_second : goal.decreases-why_no_second
decreases-why_no_second g l = 7 * l.inner.0 + 5

abbrev pub decreases-why_no_row : goal.decreases-why_no_row
decreases-why_no_row g l = 7 * l.inner.0 + 6
