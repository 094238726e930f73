use Rattle.std.proofs.Common.{◌≡◌, ◌∙◌, ap, sym, arith}
use Rattle.tap_base.specs.FirstPlaces.{gap_total}
use Rattle.tap_base.proofs.first_places.FirstPlaces.walk.Goals as goal

pub invariant_of-result : goal.invariant_of-result
invariant_of-result c =
    let e : gap_total c.deref.result.now ≡ c.self.inside.last = ap gap_total c.deref.ensures.value ∙ sym c.self.invariant.0 in
    let lt = c.self.invariant.1 in
    omega (arith, e, lt)
