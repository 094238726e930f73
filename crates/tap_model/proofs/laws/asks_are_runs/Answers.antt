use Rattle.tap_model.proofs.AskLaws.{asks_are_runs}
use Rattle.tap_model.proofs.laws.asks_are_runs.Goals as goal

pub returns : goal.returns
returns c = asks_are_runs
