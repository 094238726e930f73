use Rattle.delta_rewrite.proofs.delta.own_probe.Goals as goal

pub returns-clause-nodes : goal.returns-clause-nodes
returns-clause-nodes c id x h = c.in_ok-body.ensures.kept id x (c.in_ok-here.ensures.kept id x h)
