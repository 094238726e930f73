use Rattle.tap_model.proofs.StepLaws.{step-same}
use Rattle.tap_model.proofs.laws.equal_views_are_answered_alike.Goals as goal

pub returns : goal.returns
returns c = step-same
