use Rattle.std.proofs.Common.{sym, ◌∙◌}
use Rattle.digest_mail.proofs.Returns.{one-cut, none-cut}
use Rattle.digest_mail.proofs.lined.without_returns.Goals as goal

pub returns-preserved : goal.returns-preserved
returns-preserved c =
    one-cut c.returns.front.now c.in-Some.rest.now c.as_slice.result.now c.as_slice.ensures c.in-Some.ensures.cases.0
    c.in-Some.ensures.cases.1
    ∙ c.returns.invariant

pub returns : goal.returns
returns c = sym (none-cut c.returns.front.now c.as_slice.result.now c.as_slice.ensures c.in_default.ensures.cases) ∙ c.returns.invariant
