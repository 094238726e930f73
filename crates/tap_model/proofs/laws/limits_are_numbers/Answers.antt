use Rattle.std.proofs.Common.{refl}
use Rattle.tap_model.proofs.laws.limits_are_numbers.Goals as goal

pub returns : goal.returns
returns c = record { moment = refl; message = refl; line = refl }
