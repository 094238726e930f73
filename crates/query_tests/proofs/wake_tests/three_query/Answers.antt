use Rattle.std.proofs.Common.{rules, ◌≡◌, Some, map}
use Rattle.std.specs.Prelude.{slice_get}
use Rattle.tql_core.specs.declared.tnode.TNode.TheVariants as N
use Rattle.time_marks.specs.declared.ranged.Ranged.{Ranged}
use Rattle.query_tests.specs.Samples.{sample_probe, sample_marks}
use Rattle.query_tests.proofs.WakePlans.{three_probes, three_kept}
use Rattle.query_tests.proofs.wake_tests.three_query.Goals as goal

pub returns : goal.returns
returns c =
    let e : map (λ (part : Ranged). part.probe) c.in_ok-parts.parts ≡ map (sample_probe c.in_ok-body.body.0) sample_marks = search rules in
    let t : slice_get c.intern.new.self c.in_ok-body.body.0 ≡ Some N.True = search rules in
    three_probes c.intern.new.self c.in_ok-parts.parts c.in_ok-body.body.0 e t

pub invariant_of-result : goal.invariant_of-result
invariant_of-result c =
    let e : map (λ (part : Ranged). part.probe) c.in_ok-parts.parts ≡ map (sample_probe c.in_ok-body.body.0) sample_marks = search rules in
    let t : slice_get c.intern.new.self c.in_ok-body.body.0 ≡ Some N.True = search rules in
    record { kept = three_kept c.intern.new.self c.in_ok-parts.parts c.in_ok-body.body.0 e t }
