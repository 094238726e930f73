use Rattle.restart_core.proofs.StartLaws.{stored-start, stored-text}
use Rattle.restart_core.proofs.laws.stored_sources_say_the_same.Goals as goal

pub returns : goal.returns
returns c = record { start = stored-start; text = stored-text }
