use Rattle.tapestry.proofs.mail_filter.MailFilterStoreProgram.hold.Goals as goal

pub returns-clause-ends : goal.returns-clause-ends
returns-clause-ends g c = c.tapestry.ensures.ends

pub returns-clause-ends_over : goal.returns-clause-ends_over
returns-clause-ends_over g c = c.tapestry.ensures.over

pub returns-clause-stopped : goal.returns-clause-stopped
returns-clause-stopped g c = c.tapestry.ensures.leaves.stopped

pub returns-clause-placed : goal.returns-clause-placed
returns-clause-placed g c = c.tapestry.ensures.leaves.placed

pub returns-clause-unchanged : goal.returns-clause-unchanged
returns-clause-unchanged g c = c.tapestry.ensures.leaves.unattached
