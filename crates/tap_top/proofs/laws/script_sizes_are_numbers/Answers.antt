use Rattle.std.proofs.Common.{refl}
use Rattle.tap_top.proofs.laws.script_sizes_are_numbers.Goals as goal

pub returns : goal.returns
returns c = record { script = refl; piece = refl }
