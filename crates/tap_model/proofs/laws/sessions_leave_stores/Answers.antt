use Rattle.tap_model.proofs.SoundLaws.{sound-store}
use Rattle.tap_model.proofs.laws.sessions_leave_stores.Goals as goal

pub returns : goal.returns
returns c = sound-store
