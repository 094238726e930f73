use Rattle.monotone_rewrite.proofs.Growing.{later_keeps_first}
use Rattle.monotone_rewrite.proofs.laws.later_rows_keep_first.Goals as goal

pub returns : goal.returns
returns c = later_keeps_first
