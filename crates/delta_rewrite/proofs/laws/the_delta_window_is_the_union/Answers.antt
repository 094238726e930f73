use Rattle.delta_rewrite.proofs.Deltas.{delta_is_union}
use Rattle.delta_rewrite.proofs.laws.the_delta_window_is_the_union.Goals as goal

pub returns : goal.returns
returns c = delta_is_union
