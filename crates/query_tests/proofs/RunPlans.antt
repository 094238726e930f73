-- The probe of a plan that finds each document some seconds after it came.
use Rattle.std.proofs.Common.{◌≡◌, ℕ, zero, suc, true, length, ◌<◌, ◌∙◌, pos, List, [], ◌∷◌, Some, refl, sym, ap, subst, inl, inr, arith}
use Rattle.std.specs.Prelude.{◌&&◌, nat_lt, map, slice_get}
use Rattle.std.specs.List.{list_all}
use Rattle.tql_tree.specs.declared.table.Table.TheVariants.{Docs}
use Rattle.tql_core.specs.declared.term.Base.TheVariants.{Arrival}
use Rattle.tql_core.specs.declared.tnode.TNode.{TNode}
use Rattle.tql_core.specs.declared.tnode.TNode.TheVariants as N
use Rattle.tql_core.specs.Condition.{Always}
use Rattle.tap_rows.specs.Kept.{In}
use Rattle.tql_core.specs.Trees.{tree, tree_at, node_tree}
use Rattle.time_marks.specs.declared.probe.Probe.{Probe as CodeProbe}
use Rattle.time_marks.specs.declared.ranged.Ranged.{Ranged}
use Rattle.time_marks.specs.Found.{IsProbe}
use Rattle.time_marks.specs.Kept.{is_kept}
use Rattle.time_marks.specs.KeptParts.{parts_kept}
use Rattle.time_marks.specs.Marks.{document_var}
use Rattle.time_marks.specs.Probes.{Probe}
use Rattle.time_marks.specs.Views.{probe_in}

old_probe : Probe
old_probe = record {
  path = record { var = document_var; table = Docs; guards = [] } ∷ [];
  at = record { base = Arrival document_var; plus = pos 5 };
  body = Always;
}

is_probe : IsProbe old_probe
unfolding old_probe
is_probe = record {
  asked = ([], [], refl);
  room = omega arith;
  once = ((λ i. i), tt);
  apart = λ k i. elim i [ inl e ↦ inl e | inr j ↦ absurd j ];
  guards = λ step i a j. elim i [ inl e ↦ absurd (subst (λ s. In a s.guards) e j) | inr k ↦ absurd k ];
  at = inl refl;
  body = tt;
}

pub tree_is : (nodes : List TNode) (id : ℕ) → slice_get nodes id ≡ Some N.True → tree_at nodes id ≡ Always
tree_is nodes id e = ap (λ o. node_tree o (tree nodes id)) e

-- the probe in the code
abbrev pub old_code : ℕ → CodeProbe
old_code id = record {
  path = record { var = document_var; table = Docs; guards = [] } ∷ [];
  at = record { base = Arrival document_var; plus = pos 5 };
  body = record { 0 = id };
}

pub are_probes : (nodes : List TNode) (parts : List Ranged) (id : ℕ) → map (λ (part : Ranged). part.probe) parts ≡ old_code id ∷ []
    → slice_get nodes id ≡ Some N.True → (x : Probe) → In x (map (λ (part : Ranged). probe_in nodes part.probe) parts) → IsProbe x
unfolding old_probe
are_probes nodes parts id e t x i = subst IsProbe (sym (only (subst (In x) (twice parts ∙ ap (map (probe_in nodes)) e) i) ∙ whole)) is_probe
  where
    twice : (ps : List Ranged)
        → map (λ (part : Ranged). probe_in nodes part.probe) ps ≡ map (probe_in nodes) (map (λ (part : Ranged). part.probe) ps)
    twice [] = refl
    twice (y ∷ ys) = ap (λ zs. probe_in nodes y.probe ∷ zs) (twice ys)

    only : In x (probe_in nodes (old_code id) ∷ []) → x ≡ probe_in nodes (old_code id)
    only (inl h) = h
    only (inr h) = absurd h

    whole : probe_in nodes (old_code id) ≡ old_probe
    whole = ap (λ y. record {
      path = record { var = document_var; table = Docs; guards = [] } ∷ [];
      at = record { base = Arrival document_var; plus = pos 5 };
      body = y;
    }) (tree_is nodes id t)

-- its query keeps what queries keep
pub get_less : (nodes : List TNode) (id : ℕ) (node : TNode) → slice_get nodes id ≡ Some node → id < length nodes
get_less [] id node e = absurd cc
get_less (n ∷ ns) zero node e = omega arith
get_less (n ∷ ns) (suc id) node e = let k = get_less ns id node e in omega (arith, k)

pub to_lt : (a n : ℕ) → a < n → nat_lt a n ≡ true
to_lt a n h = grind arith

pub get_below : (nodes : List TNode) (id : ℕ) (node : TNode) → slice_get nodes id ≡ Some node → nat_lt id (length nodes) ≡ true
get_below nodes id node e = to_lt id (length nodes) (get_less nodes id node e)

pub kept_old : (nodes : List TNode) (parts : List Ranged) (id : ℕ) → map (λ (part : Ranged). part.probe) parts ≡ old_code id ∷ []
    → slice_get nodes id ≡ Some N.True → parts_kept nodes parts ≡ true
kept_old nodes parts id e t = through parts ∙ ap (list_all (is_kept nodes)) e ∙ rw (get_below nodes id N.True t) refl
  where
    through : (ps : List Ranged)
        → list_all (λ (part : Ranged). is_kept nodes part.probe) ps ≡ list_all (is_kept nodes) (map (λ (part : Ranged). part.probe) ps)
    through [] = refl
    through (y ∷ ys) = ap (λ b. is_kept nodes y.probe && b) (through ys)
