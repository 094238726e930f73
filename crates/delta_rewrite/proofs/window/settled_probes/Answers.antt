use Rattle.std.proofs.Common.{◌≡◌, ◌∙◌, rules, true, ap, subst, List, ◌∷◌, ◌++◌}
use Rattle.time_marks.specs.declared.probe.Probe.{Probe as CodeProbe}
use Rattle.time_marks.specs.Kept.{are_kept}
use Rattle.time_marks.specs.Views.{probes_in}
use Rattle.delta_rewrite.specs.Asking.{settled_probes}
use Rattle.delta_rewrite.proofs.Appended.{settled_by_one, next_probe, rest_kept}
use Rattle.delta_rewrite.proofs.window.settled_probes.Goals as goal

pub loop-probe-preserved : goal.loop-probe-preserved
loop-probe-preserved c =
    let old = c.loop-probe.pool in
    let new = c.add_settled.new.pool in
    let rest : List CodeProbe = c.next.new.self.rest.items in
    let items : c.loop-probe.probe-iterator.rest.items ≡ c.in-Some.probe ∷ rest = search rules in
    let left : are_kept old (c.in-Some.probe ∷ rest) ≡ true = subst (λ z. are_kept old z ≡ true) items c.loop-probe.invariant.left in
    record {
      probes =
          next_probe old new c.in_ok-add_settled.ensures.nodes settled_probes settled_by_one _ c.loop-probe.out c.add_settled.new.out rest
          c.in-Some.probe left
          (c.loop-probe.invariant.probes ∙ ap (λ z. probes_in old c.loop-probe.out ++ settled_probes (probes_in old z)) items)
          c.in_ok-add_settled.ensures.probes;
      kept = c.in_ok-add_settled.ensures.kept;
      left = rest_kept old new c.in_ok-add_settled.ensures.nodes c.in-Some.probe rest left;
    }
