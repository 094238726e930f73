use Rattle.tap_model.proofs.OthersLaws.{step-other}
use Rattle.tap_model.proofs.laws.others_leave_the_view.Goals as goal

pub returns : goal.returns
returns c = step-other
