use Rattle.pop_session.specs.Letters.{size_of}
use Rattle.pop_session.proofs.Sizes.{size-short, from-zero}
use Rattle.pop_session.proofs.letter.size_of.Goals as goal

pub lines-init : goal.lines-init
lines-init c = record { whole = from-zero (size_of c.args.text.now); short = size-short c.args.text.now c.requires }
