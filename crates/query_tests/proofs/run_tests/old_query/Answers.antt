use Rattle.std.proofs.Common.{rules, ◌≡◌, Some, [], ◌∷◌, map}
use Rattle.std.specs.Prelude.{slice_get}
use Rattle.tql_core.specs.declared.tnode.TNode.TheVariants as N
use Rattle.time_marks.specs.declared.ranged.Ranged.{Ranged}
use Rattle.query_tests.proofs.RunPlans.{old_code, are_probes, kept_old}
use Rattle.query_tests.proofs.run_tests.old_query.Goals as goal

pub returns : goal.returns
returns c =
    let e : map (λ (part : Ranged). part.probe) c.in_ok-parts.parts ≡ old_code c.in_ok-body.body.0 ∷ [] = search rules in
    let t : slice_get c.intern.new.self c.in_ok-body.body.0 ≡ Some N.True = search rules in
    are_probes c.intern.new.self c.in_ok-parts.parts c.in_ok-body.body.0 e t

pub invariant_of-result : goal.invariant_of-result
invariant_of-result c =
    let e : map (λ (part : Ranged). part.probe) c.in_ok-parts.parts ≡ old_code c.in_ok-body.body.0 ∷ [] = search rules in
    let t : slice_get c.intern.new.self c.in_ok-body.body.0 ≡ Some N.True = search rules in
    record { kept = kept_old c.intern.new.self c.in_ok-parts.parts c.in_ok-body.body.0 e t }
