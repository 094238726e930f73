use Rattle.std.proofs.Common.{rules}
use Rattle.std.specs.Prelude.{◌≤ℤ◌}
use Rattle.query_eval.proofs.FrontLaws.{boxed_passed, passed_later}
use Rattle.query_eval.proofs.fronts.Front.done_at.Goals as goal

pub returns-then-mark-self : goal.returns-then-mark-self
returns-then-mark-self c = λ entries docs n kept p.
    let front = c.args.self.now in
    boxed_passed entries docs n kept front.kind front.first.0 c.args.mark front.boxed p.boxed

pub returns-else-mark-self : goal.returns-else-mark-self
returns-else-mark-self c = λ entries docs n kept p.
    let front = c.args.self.now in
    let l : front.mark ≤ℤ c.args.mark = search rules in
    passed_later entries docs n kept front.kind front.first.0 front.mark c.args.mark front.len l p.done
