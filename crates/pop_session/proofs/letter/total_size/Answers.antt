use Rattle.pop_session.specs.Letters.{total_size}
use Rattle.pop_session.proofs.Sizes.{total-within, from-zero}
use Rattle.pop_session.proofs.letter.total_size.Goals as goal

pub loop-letter-init : goal.loop-letter-init
loop-letter-init c = record {
  whole = from-zero (total_size c.args.letters.now);
  short = total-within c.args.letters.now c.requires;
}
