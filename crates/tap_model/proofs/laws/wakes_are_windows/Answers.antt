use Rattle.tap_model.proofs.WakeLaws.{wakes-are-windows}
use Rattle.tap_model.proofs.laws.wakes_are_windows.Goals as goal

pub returns : goal.returns
returns c = wakes-are-windows
