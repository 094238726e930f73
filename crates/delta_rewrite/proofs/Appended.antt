-- Probes of a list, one after another, while the pool grows.
use Rattle.std.proofs.Common.{◌≡◌, ◌∙◌, refl, sym, ap, ℕ, Bool, true, false, List, [], ◌∷◌, ◌++◌, append_assoc, arith}
use Rattle.std.specs.Prelude.{map, nat_lt, length}
use Rattle.std.specs.List.{filter}
use Rattle.std.proofs.lemmas.Bool.{and_parts, and_from}
use Rattle.std.proofs.lemmas.List.{map-append}
use Rattle.node_pool.specs.declared.node.NodeId.{NodeId}
use Rattle.tql_core.specs.Bounds.{is_bounded}
use Rattle.tql_core.specs.Condition.{Condition}
use Rattle.tql_core.specs.declared.tnode.TNode.{TNode}
use Rattle.tql_core.specs.Trees.{tree_at, IsTreeAt, KeepsTrees}
use Rattle.time_marks.specs.declared.probe.Probe.{Probe as CodeProbe}
use Rattle.time_marks.specs.Kept.{is_kept, are_kept}
use Rattle.time_marks.specs.Probes.{Probe}
use Rattle.time_marks.specs.Views.{probe_in, probes_in}
use Rattle.time_marks.proofs.GrownPools.{all_still_kept, same_probes}
use Rattle.time_marks.proofs.Lists.{all_append}
use Rattle.monotone_rewrite.specs.Folding.{fold}
use Rattle.monotone_rewrite.specs.Query.{can_find, fold_probe}
use Rattle.delta_rewrite.specs.Delta.{asking, settled, settle_probe}
use Rattle.delta_rewrite.specs.Asking.{settled_probes}

-- what the list gives is what each element gives, one after another
abbrev pub GoesByOne : (List Probe → List Probe) → Type 0
GoesByOne h = (p : Probe) (ps : List Probe) → h (p ∷ ps) ≡ h (p ∷ []) ++ h ps

pub map_by_one : (f : Probe → Probe) → GoesByOne (map f)
map_by_one f p ps = refl

pub settled_by_one : GoesByOne settled_probes
settled_by_one p ps = go (can_find (fold_probe (settle_probe p))) refl where
  go : (b : Bool) → can_find (fold_probe (settle_probe p)) ≡ b → settled_probes (p ∷ ps) ≡ settled_probes (p ∷ []) ++ settled_probes ps
  go true e = rw e refl
  go false e = rw e refl

one_more : (h : List Probe → List Probe) → GoesByOne h → (whole xs ys : List Probe) (p : Probe) (ps : List Probe)
    → whole ≡ xs ++ h (p ∷ ps) → ys ≡ xs ++ h (p ∷ []) → whole ≡ ys ++ h ps
one_more h s whole xs ys p ps e y =
    e ∙ ap (λ z. xs ++ z) (s p ps) ∙ sym (append_assoc xs _ _) ∙ ap (λ z. z ++ h ps) (sym y)

module _ (old new : List TNode) (keeps : KeepsTrees old new) where
  pub next_probe : (h : List Probe → List Probe) → GoesByOne h → (whole : List Probe) (out longer rest : List CodeProbe) (p : CodeProbe)
      → are_kept old (p ∷ rest) ≡ true → whole ≡ probes_in old out ++ h (probes_in old (p ∷ rest))
      → probes_in new longer ≡ probes_in old out ++ h (probe_in old p ∷ []) → whole ≡ probes_in new longer ++ h (probes_in new rest)
  next_probe h s whole out longer rest p k e y =
      one_more h s whole (probes_in old out) (probes_in new longer) (probe_in old p) (probes_in old rest) e y
      ∙ ap (λ z. probes_in new longer ++ h z) (sym (same_probes old new keeps rest (and_parts _ _ k).1))

  pub rest_kept : (p : CodeProbe) (rest : List CodeProbe) → are_kept old (p ∷ rest) ≡ true → are_kept new rest ≡ true
  rest_kept p rest k = all_still_kept old new keeps rest (and_parts _ _ k).1

  -- one more probe at the end of a list
  pub pushed_kept : (ps qs : List CodeProbe) (p : CodeProbe) → qs ≡ ps ++ p ∷ [] → are_kept old ps ≡ true → is_kept new p ≡ true
      → are_kept new qs ≡ true
  pushed_kept ps qs p e h k = ap (are_kept new) e
      ∙ all_append (is_kept new) ps (p ∷ []) (all_still_kept old new keeps ps h) (and_from (is_kept new p) true k refl)

  pub pushed_probes : (ps qs : List CodeProbe) (p : CodeProbe) (q : Probe) → qs ≡ ps ++ p ∷ [] → are_kept old ps ≡ true
      → probe_in new p ≡ q → probes_in new qs ≡ probes_in old ps ++ q ∷ []
  pushed_probes ps qs p q e h is = ap (probes_in new) e ∙ map-append (probe_in new) ps (p ∷ [])
      ∙ ap (λ z. z ++ probe_in new p ∷ []) (same_probes old new keeps ps h) ∙ ap (λ z. probes_in old ps ++ z ∷ []) is

  -- the probe with another body, a node of the new pool
  pub body_kept : (p : CodeProbe) (body : NodeId) (x : Condition) → is_kept old p ≡ true → IsTreeAt new body.0 x
      → is_kept new (record { path = p.path; at = p.at; body = body }) ≡ true
  body_kept p body x h t =
      let w = t.within in
      let l : nat_lt body.0 (length new) ≡ true = grind arith in
      and_from (nat_lt body.0 (length new)) (is_bounded p.at) l (and_parts (nat_lt p.body.0 (length old)) (is_bounded p.at) h).1

  pub body_is : (p : CodeProbe) (body : NodeId) (x : Condition) → IsTreeAt new body.0 x
      → probe_in new (record { path = p.path; at = p.at; body = body }) ≡ asking (probe_in old p) x
  body_is p body x t = rw t.is refl

  -- the same of a probe that is settled and folded, unless its body is False then
  pub settled_added : (ps qs : List CodeProbe) (p : CodeProbe) (id : ℕ) → are_kept old ps ≡ true
      → IsTreeAt new id (fold p.at (settled p.path (fold p.at (tree_at old p.body.0))))
      → probes_in new qs ≡ probes_in new ps ++ filter can_find (record { path = p.path; at = p.at; body = tree_at new id } ∷ [])
      → probes_in new qs ≡ probes_in old ps ++ settled_probes (probe_in old p ∷ [])
  settled_added ps qs p id h t e = e ∙ rw (same_probes old new keeps ps h, t.is) refl

  -- both lists, the first one made before the pool grew for the second
  pub joined_kept : (ps qs out : List CodeProbe) → out ≡ ps ++ qs → are_kept old ps ≡ true → are_kept new qs ≡ true
      → are_kept new out ≡ true
  joined_kept ps qs out e h k = ap (are_kept new) e ∙ all_append (is_kept new) ps qs (all_still_kept old new keeps ps h) k

  pub joined_probes : (ps qs out : List CodeProbe) (X Y : List Probe) → out ≡ ps ++ qs → are_kept old ps ≡ true
      → probes_in old ps ≡ X → probes_in new qs ≡ Y → probes_in new out ≡ X ++ Y
  joined_probes ps qs out X Y e h x y = ap (probes_in new) e ∙ map-append (probe_in new) ps qs
      ∙ ap (λ z. z ++ probes_in new qs) (same_probes old new keeps ps h ∙ x) ∙ ap (λ z. X ++ z) y
