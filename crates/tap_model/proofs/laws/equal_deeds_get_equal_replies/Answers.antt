use Rattle.tap_model.proofs.StoryViewLaws.{tales-same}
use Rattle.tap_model.proofs.laws.equal_deeds_get_equal_replies.Goals as goal

pub returns : goal.returns
returns c = tales-same
