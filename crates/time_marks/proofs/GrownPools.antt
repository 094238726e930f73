-- Probes of a pool that grows.
use Rattle.std.proofs.Common.{◌≡◌, refl, ℕ, true, List, [], ◌∷◌, length, arith}
use Rattle.std.specs.Prelude.{nat_lt}
use Rattle.std.proofs.lemmas.Bool.{and_parts, and_from}
use Rattle.tql_core.specs.declared.tnode.TNode.{TNode}
use Rattle.tql_core.specs.Trees.{tree_at, IsTreeAt, KeepsTrees}
use Rattle.time_marks.specs.declared.probe.Probe.{Probe as CodeProbe}
use Rattle.time_marks.specs.Kept.{is_kept, are_kept}
use Rattle.time_marks.specs.Views.{probes_in}

module _ (old new : List TNode) (keeps : KeepsTrees old new) where
  here : (id : ℕ) → nat_lt id (length old) ≡ true → IsTreeAt new id (tree_at old id)
  here id h = keeps id (tree_at old id) (record { within = grind arith; is = refl })

  still_kept : (p : CodeProbe) → is_kept old p ≡ true → is_kept new p ≡ true
  still_kept p h =
      let q = and_parts _ _ h in
      let w = (here p.body.0 q.0).within in
      let l : nat_lt p.body.0 (length new) ≡ true = grind arith in
      and_from _ _ l q.1

  pub all_still_kept : (ps : List CodeProbe) → are_kept old ps ≡ true → are_kept new ps ≡ true
  all_still_kept [] h = refl
  all_still_kept (p ∷ ps) h = let q = and_parts _ _ h in and_from _ _ (still_kept p q.0) (all_still_kept ps q.1)

  pub same_probes : (ps : List CodeProbe) → are_kept old ps ≡ true → probes_in new ps ≡ probes_in old ps
  same_probes [] h = refl
  same_probes (p ∷ ps) h =
      let q = and_parts _ _ h in
      let e = (here p.body.0 (and_parts _ _ q.0).0).is in
      rw (e, same_probes ps q.1) refl
