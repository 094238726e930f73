use Rattle.tap_model.proofs.MemoryLaws.{answers-apart}
use Rattle.tap_model.proofs.laws.answers_are_not_memory.Goals as goal

pub returns : goal.returns
returns c = answers-apart
