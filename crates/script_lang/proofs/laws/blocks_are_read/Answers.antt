use Rattle.script_lang.proofs.BlockLaws.{blocks_read}
use Rattle.script_lang.proofs.laws.blocks_are_read.Goals as goal

pub returns : goal.returns
returns c = blocks_read
