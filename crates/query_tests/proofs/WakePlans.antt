-- The probes of the plan that the tests use.
use Rattle.std.proofs.Common.{◌≡◌, ℕ, true, ◌∙◌, List, [], ◌∷◌, Some, refl, sym, ap, subst, inl, inr, arith}
use Rattle.std.specs.Prelude.{◌&&◌, map, slice_get}
use Rattle.std.specs.List.{list_all}
use Rattle.tql_tree.specs.declared.table.Table.TheVariants.{Docs}
use Rattle.tql_core.specs.declared.term.Term.{Term}
use Rattle.tql_core.specs.declared.tnode.TNode.{TNode}
use Rattle.tql_core.specs.declared.tnode.TNode.TheVariants as N
use Rattle.tql_core.specs.Condition.{Always}
use Rattle.tql_core.specs.Scope.{BaseIn}
use Rattle.tap_rows.specs.Kept.{In}
use Rattle.time_marks.specs.declared.ranged.Ranged.{Ranged}
use Rattle.time_marks.specs.Found.{IsProbe}
use Rattle.time_marks.specs.Kept.{is_kept}
use Rattle.time_marks.specs.KeptParts.{parts_kept}
use Rattle.time_marks.specs.Marks.{document_var}
use Rattle.time_marks.specs.Probes.{Probe}
use Rattle.time_marks.specs.Views.{probe_in}
use Rattle.time_marks.proofs.Lists.{in_map, map_in}
use Rattle.query_tests.specs.Samples.{sample_probe, sample_marks}
use Rattle.query_tests.proofs.RunPlans.{get_below, tree_is}

probe_at : Term → Probe
probe_at at = record { path = record { var = document_var; table = Docs; guards = [] } ∷ []; at = at; body = Always }

is_probe : (at : Term) → BaseIn (0 ∷ []) at.base → IsProbe (probe_at at)
unfolding probe_at
is_probe at own = record {
  asked = ([], [], refl);
  room = omega arith;
  once = ((λ i. i), tt);
  apart = λ k i. elim i [ inl e ↦ inl e | inr j ↦ absurd j ];
  guards = λ step i a j. elim i [ inl e ↦ absurd (subst (λ s. In a s.guards) e j) | inr k ↦ absurd k ];
  at = own;
  body = tt;
}

marks_own : (at : Term) → In at sample_marks → BaseIn (0 ∷ []) at.base
marks_own at (inl e) = subst (λ (z : Term). BaseIn (0 ∷ []) z.base) (sym e) (inl refl)
marks_own at (inr (inl e)) = subst (λ (z : Term). BaseIn (0 ∷ []) z.base) (sym e) (inl refl)
marks_own at (inr (inr (inl e))) = subst (λ (z : Term). BaseIn (0 ∷ []) z.base) (sym e) tt
marks_own at (inr (inr (inr x))) = absurd x

pub three_probes : (nodes : List TNode) (parts : List Ranged) (id : ℕ)
    → map (λ (part : Ranged). part.probe) parts ≡ map (sample_probe id) sample_marks → slice_get nodes id ≡ Some N.True → (x : Probe)
    → In x (map (λ (part : Ranged). probe_in nodes part.probe) parts) → IsProbe x
unfolding probe_at
three_probes nodes parts id e t x i =
    let a = map_in (λ (part : Ranged). probe_in nodes part.probe) parts x i in
    let b = map_in (sample_probe id) sample_marks
    a.0.probe (subst (λ z. In a.0.probe z) e (in_map (λ (part : Ranged). part.probe) parts a.0 a.1)) in
    let q : x ≡ probe_at b.0 = a.2 ∙ ap (probe_in nodes) b.2
    ∙ ap (λ y. record { path = record { var = document_var; table = Docs; guards = [] } ∷ []; at = b.0; body = y })
    (tree_is nodes id t) in
    subst IsProbe (sym q) (is_probe b.0 (marks_own b.0 b.1))

pub three_kept : (nodes : List TNode) (parts : List Ranged) (id : ℕ) → map (λ (part : Ranged). part.probe) parts
    ≡ map (sample_probe id) sample_marks → slice_get nodes id ≡ Some N.True → parts_kept nodes parts ≡ true
three_kept nodes parts id e t = through parts ∙ ap (list_all (is_kept nodes)) e ∙ rw (get_below nodes id N.True t) refl
  where
    through : (ps : List Ranged)
        → list_all (λ (part : Ranged). is_kept nodes part.probe) ps ≡ list_all (is_kept nodes) (map (λ (part : Ranged). part.probe) ps)
    through [] = refl
    through (y ∷ ys) = ap (λ b. is_kept nodes y.probe && b) (through ys)
