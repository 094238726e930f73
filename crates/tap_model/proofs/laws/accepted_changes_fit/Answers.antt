use Rattle.tap_model.proofs.FitLaws.{accepted_fits}
use Rattle.tap_model.proofs.SomeRows.{change-rows}
use Rattle.tap_model.proofs.laws.accepted_changes_fit.Goals as goal

pub returns : goal.returns
returns c tables session command change is =
    (change-rows command session tables change is, λ sound. accepted_fits tables session command change sound is)
