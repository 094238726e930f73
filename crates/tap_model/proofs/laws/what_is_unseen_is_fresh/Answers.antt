use Rattle.tap_model.proofs.WindowLaws.{unseen-is-fresh}
use Rattle.tap_model.proofs.laws.what_is_unseen_is_fresh.Goals as goal

pub returns : goal.returns
returns c = unseen-is-fresh
