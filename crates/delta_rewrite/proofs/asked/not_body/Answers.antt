use Rattle.delta_rewrite.proofs.asked.not_body.Goals as goal

pub returns-clause-kept : goal.returns-clause-kept
returns-clause-kept c id x h = c.in_ok-opposite.ensures.kept id x (c.in_ok-other.ensures.kept id x h)
