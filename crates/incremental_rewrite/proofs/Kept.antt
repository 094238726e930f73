-- Probes that stay unless they equal earlier ones.
use Rattle.std.proofs.Common.{◌≡◌, ◌∙◌, refl, sym, ap, subst, arith, ℕ, ◌<◌, Bool, true, false, List, [], ◌∷◌, ◌++◌, length, map}
use Rattle.std.proofs.Common.{if◌then◌else◌}
use Rattle.std.specs.Prelude.{◌&&◌, ◌||◌, nat_lt, nat_eq}
use Rattle.std.specs.List.{list_any}
use Rattle.std.specs.Cmp.Lexicographic.{pointwise}
use Rattle.std.proofs.lemmas.Bool.{and_parts, and_from, eqb-true, eq-eqb}
use Rattle.std.proofs.lemmas.List.{map-append}
use Rattle.tap_rows.proofs.Tests.{agree}
use Rattle.node_pool.specs.Pools.{IsPool}
use Rattle.tql_core.specs.contracts.term.TermPartialEq.TheImpl as term
use Rattle.tql_core.specs.declared.tnode.TNode.{TNode}
use Rattle.tql_core.specs.Same.{same_condition}
use Rattle.tql_core.specs.Trees.{kids_of, tree_at}
use Rattle.tql_core.proofs.Equal.{condition_is, itself}
use Rattle.tql_core.proofs.Growth.{equal_trees}
use Rattle.time_marks.specs.contracts.mark.StepPartialEq.TheImpl as step
use Rattle.time_marks.specs.declared.probe.Probe.{Probe as CodeProbe}
use Rattle.time_marks.specs.declared.ranged.Ranged.{Ranged}
use Rattle.time_marks.specs.Distinct.{kept_with, distinct_onto, distinct, same_probe, distinct_probes}
use Rattle.time_marks.specs.Kept.{is_kept, are_kept}
use Rattle.time_marks.specs.KeptParts.{parts_kept}
use Rattle.time_marks.specs.Views.{probe_in, probes_in}
use Rattle.incremental_rewrite.specs.Solved.{same_numbers, part_probes}

any_probes : (p : CodeProbe) (parts : List Ranged)
    → list_any (λ part. same_numbers p part.probe) parts ≡ list_any (same_numbers p) (part_probes parts)
any_probes p [] = refl
any_probes p (x ∷ parts) = ap (λ b. same_numbers p x.probe || b) (any_probes p parts)

-- a probe that equals an earlier one
pub kept_there : (parts : List Ranged) (p : CodeProbe) → list_any (λ part. same_numbers p part.probe) parts ≡ true
    → part_probes parts ≡ kept_with same_numbers (part_probes parts) p
kept_there parts p h = rw (sym (any_probes p parts), h) refl

-- a new probe
pub kept_new : (parts new : List Ranged) (part : Ranged) → list_any (λ other. same_numbers part.probe other.probe) parts ≡ false
    → new ≡ parts ++ part ∷ [] → part_probes new ≡ kept_with same_numbers (part_probes parts) part.probe
kept_new parts new part h e =
    rw (sym (any_probes part.probe parts), h) (ap part_probes e ∙ map-append (λ other. other.probe) parts (part ∷ []))

module _ (nodes : List TNode) (pool : IsPool kids_of nodes) where
  is_within : (p : CodeProbe) → is_kept nodes p ≡ true → p.body.0 < length nodes
  is_within p h = let l = (and_parts (nat_lt p.body.0 (length nodes)) _ h).0 in grind arith

  same_body : (i j : ℕ) → i < length nodes → j < length nodes → nat_eq i j ≡ same_condition (tree_at nodes i) (tree_at nodes j)
  same_body i j a b =
      let one = equal_trees nodes i j pool a b in
      agree _ _
      (λ e. subst (λ x. same_condition (tree_at nodes i) x ≡ true) (one.0 (eqb-true i j e)) (itself (tree_at nodes i)))
      (λ e. eq-eqb i j (one.1 (condition_is _ _ e)))

  -- numbers tell bodies apart
  same_in : (p q : CodeProbe) → is_kept nodes p ≡ true → is_kept nodes q ≡ true
      → same_numbers p q ≡ same_probe (probe_in nodes p) (probe_in nodes q)
  same_in p q h k = ap (λ b. pointwise step.ghosts.eq p.path q.path && (term.ghosts.eq p.at q.at && b))
      (same_body p.body.0 q.body.0 (is_within p h) (is_within q k))

  any_in_pool : (p : CodeProbe) (kept : List CodeProbe) → is_kept nodes p ≡ true → are_kept nodes kept ≡ true
      → list_any (same_numbers p) kept ≡ list_any (same_probe (probe_in nodes p)) (probes_in nodes kept)
  any_in_pool p [] h k = refl
  any_in_pool p (q ∷ kept) h k = let c = and_parts _ _ k in rw (same_in p q h c.0, any_in_pool p kept h c.1) refl

  one_more : (kept : List CodeProbe) (p : CodeProbe) → are_kept nodes kept ≡ true → is_kept nodes p ≡ true
      → are_kept nodes (kept ++ p ∷ []) ≡ true
  one_more [] p k h = and_from _ _ h refl
  one_more (q ∷ kept) p k h = let c = and_parts _ _ k in and_from _ _ c.0 (one_more kept p c.1 h)

  kept_one : (kept : List CodeProbe) (p : CodeProbe) → are_kept nodes kept ≡ true → is_kept nodes p ≡ true
      → are_kept nodes (kept_with same_numbers kept p) ≡ true
  kept_one kept p k h = go (list_any (same_numbers p) kept) where
    go : (b : Bool) → are_kept nodes (if b then kept else kept ++ p ∷ []) ≡ true
    go true = k
    go false = one_more kept p k h

  kept_view : (kept : List CodeProbe) (p : CodeProbe) → are_kept nodes kept ≡ true → is_kept nodes p ≡ true
      → probes_in nodes (kept_with same_numbers kept p) ≡ kept_with same_probe (probes_in nodes kept) (probe_in nodes p)
  kept_view kept p k h = rw (sym (any_in_pool p kept h k)) (go (list_any (same_numbers p) kept)) where
    go : (b : Bool) → probes_in nodes (if b then kept else kept ++ p ∷ [])
        ≡ (if b then probes_in nodes kept else probes_in nodes kept ++ probe_in nodes p ∷ [])
    go true = refl
    go false = map-append (probe_in nodes) kept (p ∷ [])

  pub all_kept : (kept probes : List CodeProbe) → are_kept nodes kept ≡ true → are_kept nodes probes ≡ true
      → are_kept nodes (distinct_onto same_numbers kept probes) ≡ true
  all_kept kept [] k h = k
  all_kept kept (p ∷ probes) k h = let c = and_parts _ _ h in all_kept (kept_with same_numbers kept p) probes (kept_one kept p k c.0) c.1

  -- what is distinct by numbers is distinct by conditions
  pub distinct_in : (kept probes : List CodeProbe) → are_kept nodes kept ≡ true → are_kept nodes probes ≡ true
      → probes_in nodes (distinct_onto same_numbers kept probes) ≡ distinct_onto same_probe (probes_in nodes kept) (probes_in nodes probes)
  distinct_in kept [] k h = refl
  distinct_in kept (p ∷ probes) k h =
      let c = and_parts _ _ h in
      distinct_in (kept_with same_numbers kept p) probes (kept_one kept p k c.0) c.1
      ∙ ap (λ ps. distinct_onto same_probe ps (probes_in nodes probes)) (kept_view kept p k c.0)

  parts_in : (parts : List Ranged) → map (λ part. probe_in nodes part.probe) parts ≡ probes_in nodes (part_probes parts)
  parts_in [] = refl
  parts_in (x ∷ parts) = ap (λ ps. probe_in nodes x.probe ∷ ps) (parts_in parts)

  kept_in : (parts : List Ranged) → parts_kept nodes parts ≡ are_kept nodes (part_probes parts)
  kept_in [] = refl
  kept_in (x ∷ parts) = ap (λ b. is_kept nodes x.probe && b) (kept_in parts)

  pub solved_kept : (parts : List Ranged) (probes : List CodeProbe) → are_kept nodes probes ≡ true
      → part_probes parts ≡ distinct same_numbers probes → parts_kept nodes parts ≡ true
  solved_kept parts probes h e = kept_in parts ∙ ap (are_kept nodes) e ∙ all_kept [] probes refl h

  pub solved_probes : (parts : List Ranged) (probes : List CodeProbe) → are_kept nodes probes ≡ true → part_probes parts
      ≡ distinct same_numbers probes → map (λ part. probe_in nodes part.probe) parts ≡ distinct_probes (probes_in nodes probes)
  solved_probes parts probes h e = parts_in parts ∙ ap (probes_in nodes) e ∙ distinct_in [] probes refl h
