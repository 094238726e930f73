use Rattle.access_plan.proofs.inners.+add_accesses.Given as goal

abbrev pub decreases-add_accesses : goal.decreases-add_accesses
decreases-add_accesses l = l.id.0
