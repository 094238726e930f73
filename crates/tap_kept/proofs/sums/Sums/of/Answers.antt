use Rattle.std.proofs.Common.{◌∙◌, ap}
use Rattle.tap_kept.proofs.SumLaws.{bytes-of, greatest-in}
use Rattle.tap_kept.proofs.sums.Sums.of.Goals as goal

pub returns-clause-bytes : goal.returns-clause-bytes
returns-clause-bytes c = ap (λ sums. sums.bytes) c.in_ok-sums.ensures ∙ bytes-of c.args.tables.now

pub returns-clause-greatest : goal.returns-clause-greatest
returns-clause-greatest c = ap (λ sums. sums.greatest) c.in_ok-sums.ensures ∙ greatest-in c.args.tables.now
