use Rattle.std.proofs.Common.{rules, ◌≡◌, ℤ}
use Rattle.std.specs.Prelude.{◌&&◌, int_le, int_lt}
use Rattle.row_index.proofs.DateLaws.{range_is}
use Rattle.row_index.proofs.dates.Dates.within.Goals as goal

pub returns : goal.returns
returns c = λ docs k.
    let same : (x : ℤ)
    → (int_le c.args.low x && int_lt x c.end_from-end.result) ≡ (int_le c.args.low x && int_lt x c.args.high) = λ x. search rules in
    range_is c.args.low c.args.high c.end_from-end.result _ _ docs _ _ same (search rules) (search rules) (c.range.ensures.between tt) k
