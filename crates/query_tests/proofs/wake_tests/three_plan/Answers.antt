use Rattle.std.proofs.Common.{◌≡◌, sym, subst}
use Rattle.std.proofs.lemmas.Result.{IfOk-weaker}
use Rattle.access_plan.specs.declared.query_plan.Plan.{Plan}
use Rattle.probe_eval.specs.Runs.{HasValidProbes}
use Rattle.query_tests.proofs.wake_tests.three_plan.Goals as goal

pub returns : goal.returns
returns c =
    IfOk-weaker c.plan.result (λ (p : Plan). p.query ≡ c.in_ok-three_query.field-0) (λ (p : Plan). HasValidProbes p.query)
    (λ p e. subst HasValidProbes (sym e) c.in_ok-three_query.ensures) c.plan.ensures.query
