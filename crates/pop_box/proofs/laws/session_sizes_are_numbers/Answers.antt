use Rattle.std.proofs.Common.{refl}
use Rattle.pop_box.proofs.laws.session_sizes_are_numbers.Goals as goal

pub returns : goal.returns
returns c = record { session = refl; piece = refl }
