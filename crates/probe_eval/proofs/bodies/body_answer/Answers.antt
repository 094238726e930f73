use Rattle.std.proofs.Common.{rules, ◌≡◌, false}
use Rattle.probe_eval.specs.Answers.{IsWhyFalse}
use Rattle.probe_eval.specs.Conjuncts.{mentions}
use Rattle.probe_eval.specs.Searches.{condition_at}
use Rattle.probe_eval.proofs.bodies.body_answer.Goals as goal

pub returns-else-names-clause-never : goal.returns-else-names-clause-never
returns-else-names-clause-never g c =
    let n : mentions c.args.var (condition_at c.args.search.now c.in-Some.why.0) ≡ false = search rules in
    let by = c.why_false.ensures.why in
    let w : IsWhyFalse c.args.search.now (condition_at c.args.search.now c.args.body.0) c.args.env.now c.in-Some.why.0 =
    search (rules, by) in
    λ z. w.never c.args.var n
