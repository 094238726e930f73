use Rattle.time_marks.proofs.Bodies.{body_truth}
use Rattle.time_marks.proofs.laws.bodies_hold_at_marks.Goals as goal

pub returns : goal.returns
returns c = body_truth
