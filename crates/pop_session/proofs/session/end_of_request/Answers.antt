use Rattle.mail_lines.proofs.Places.{found-place, no-place}
use Rattle.pop_session.proofs.session.end_of_request.Goals as goal

pub returns-in-Some-clause-value : goal.returns-in-Some-clause-value
returns-in-Some-clause-value c = found-place 10 c.args.bytes.now c.in-Some.end c.in-Some.ensures.0 c.in-Some.ensures.1

pub returns-in-None-clause-value : goal.returns-in-None-clause-value
returns-in-None-clause-value c = no-place 10 c.args.bytes.now c.in-None.ensures
