use Rattle.tap_model.proofs.NextLaws.{step-next}
use Rattle.tap_model.proofs.laws.steps_lead_to_next_tables.Goals as goal

pub returns : goal.returns
returns c = step-next
