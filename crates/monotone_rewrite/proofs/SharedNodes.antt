-- Nodes of a pool that grows.
use Rattle.std.proofs.Common.{◌≡◌, ◌∙◌, refl, ℕ, true, List, [], ◌∷◌, ◌++◌}
use Rattle.std.specs.List.{filter}
use Rattle.tql_core.specs.declared.tnode.TNode.{TNode}
use Rattle.tql_core.specs.declared.term.Var.{Var}
use Rattle.tql_tree.specs.declared.table.Table.{Table}
use Rattle.tql_core.specs.Condition.{Condition}
use Rattle.tql_core.specs.Trees.{tree_at, IsTreeAt, KeepsTrees}
use Rattle.time_marks.specs.declared.probe.Probe.{Probe as CodeProbe}
use Rattle.time_marks.specs.declared.mark.Mark.{Mark}
use Rattle.time_marks.specs.Kept.{are_kept}
use Rattle.time_marks.specs.Views.{probes_in}
use Rattle.time_marks.proofs.GrownPools.{same_probes}
use Rattle.monotone_rewrite.specs.Query.{can_find}
use Rattle.monotone_rewrite.specs.Folding.{known, fold_all, fold_either, fold_exists}

module _ (nodes : List TNode) where
  -- what two numbers say together, if what each says is known
  pub all_known : (after : List TNode) (l r id : ℕ) (x y : Condition) → IsTreeAt nodes l x → IsTreeAt nodes r y
      → IsTreeAt after id (fold_all (known (tree_at nodes l)) (known (tree_at nodes r)) (tree_at nodes l) (tree_at nodes r))
      → IsTreeAt after id (fold_all (known x) (known y) x y)
  all_known after l r id x y a b t = record { within = t.within; is = t.is ∙ rw (a.is, b.is) refl }

  pub either_known : (after : List TNode) (l r id : ℕ) (x y : Condition) → IsTreeAt nodes l x → IsTreeAt nodes r y
      → IsTreeAt after id (fold_either (known (tree_at nodes l)) (known (tree_at nodes r)) (tree_at nodes l) (tree_at nodes r))
      → IsTreeAt after id (fold_either (known x) (known y) x y)
  either_known after l r id x y a b t = record { within = t.within; is = t.is ∙ rw (a.is, b.is) refl }

  pub exists_known : (after : List TNode) (l id : ℕ) (v : Var) (table : Table) (x : Condition) → IsTreeAt nodes l x
      → IsTreeAt after id (fold_exists (known (tree_at nodes l)) v table (tree_at nodes l))
      → IsTreeAt after id (fold_exists (known x) v table x)
  exists_known after l id v table x a t = record { within = t.within; is = t.is ∙ rw a.is refl }

module _ (old new : List TNode) (keeps : KeepsTrees old new) where
  -- the probes with that of a mark, unless its body is False
  pub probe_added : (ps : List CodeProbe) → are_kept old ps ≡ true → (qs : List CodeProbe) (mark : Mark) (id : ℕ) (x : Condition)
      → IsTreeAt new id x
      → probes_in new qs ≡ probes_in new ps ++ filter can_find (record { path = mark.path; at = mark.at; body = tree_at new id } ∷ [])
      → probes_in new qs ≡ probes_in old ps ++ filter can_find (record { path = mark.path; at = mark.at; body = x } ∷ [])
  probe_added ps h qs mark id x t e = e ∙ rw (same_probes old new keeps ps h, t.is) refl
