use Rattle.monotone_rewrite.proofs.Windows.{window_is_union}
use Rattle.monotone_rewrite.proofs.laws.the_window_is_the_union.Goals as goal

pub returns : goal.returns
returns c = window_is_union
