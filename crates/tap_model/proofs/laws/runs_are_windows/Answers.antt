use Rattle.tap_model.proofs.WindowLaws.{run-of-sound}
use Rattle.tap_model.proofs.laws.runs_are_windows.Goals as goal

pub returns : goal.returns
returns c = run-of-sound
