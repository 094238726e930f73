use Rattle.std.proofs.Common.{ap, arith}
use Rattle.tap_kept.proofs.deliveries.add_run.Goals as goal

pub ordinal_after-ordinal-requires : goal.ordinal_after-ordinal-requires
ordinal_after-ordinal-requires c =
    let d = c.at.result.now in
    let is = ap (λ k. k.runs) (c.at.ensures d) in
    let few = c.requires.few d in
    omega (arith, is, few)

pub add_run-requires-clause-runs : goal.add_run-requires-clause-runs
add_run-requires-clause-runs c = λ d.
    let is = ap (λ k. k.runs) (c.at.ensures d) in
    let ordinal = c.ordinal_after-ordinal.ensures in
    omega (arith, is, ordinal.value, ordinal.small)
