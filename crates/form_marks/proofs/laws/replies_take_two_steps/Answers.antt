use Rattle.form_marks.proofs.ReplyCosts.{replies_take_two_steps}
use Rattle.form_marks.proofs.laws.replies_take_two_steps.Goals as goal

pub returns : goal.returns
returns c = replies_take_two_steps
