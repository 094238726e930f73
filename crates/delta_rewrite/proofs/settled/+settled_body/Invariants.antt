use Rattle.delta_rewrite.proofs.settled.+settled_body.Given as goal

abbrev pub decreases-settled_body : goal.decreases-settled_body
decreases-settled_body l = l.id.0
