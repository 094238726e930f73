use Rattle.tapestry_pop.proofs.pop_server.PopServerStoreProgram.hold.Goals as goal

pub returns-clause-ends : goal.returns-clause-ends
returns-clause-ends g c = c.serve.ensures.ends

pub returns-clause-ends_over : goal.returns-clause-ends_over
returns-clause-ends_over g c = c.serve.ensures.over

pub returns-clause-stopped : goal.returns-clause-stopped
returns-clause-stopped g c = c.serve.ensures.leaves.stopped

pub returns-clause-placed : goal.returns-clause-placed
returns-clause-placed g c = c.serve.ensures.leaves.placed

pub returns-clause-unchanged : goal.returns-clause-unchanged
returns-clause-unchanged g c = c.serve.ensures.leaves.unattached
