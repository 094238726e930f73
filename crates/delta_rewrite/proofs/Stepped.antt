-- Probes of the code below a step.
use Rattle.std.proofs.Common.{◌≡◌, ◌∙◌, refl, ap, Bool, true, false, List, [], ◌∷◌, ◌++◌}
use Rattle.std.specs.Prelude.{map, not}
use Rattle.std.proofs.lemmas.Bool.{and_parts, and_from}
use Rattle.tql_tree.specs.declared.table.Table.{Table}
use Rattle.tql_core.specs.declared.term.Var.{Var}
use Rattle.tql_core.specs.declared.tnode.TNode.{TNode}
use Rattle.tql_core.specs.Condition.{Condition, All, Either, Exists}
use Rattle.time_marks.specs.declared.mark.Step.{Step}
use Rattle.time_marks.specs.declared.probe.Probe.{Probe as CodeProbe}
use Rattle.time_marks.specs.Kept.{are_kept}
use Rattle.time_marks.specs.Marks.{step_of}
use Rattle.time_marks.specs.Probes.{Probe}
use Rattle.time_marks.specs.Views.{probes_in}
use Rattle.delta_rewrite.specs.declared.asked.Ask.TheVariants as A
use Rattle.delta_rewrite.specs.Delta.{under_probe, delta}
use Rattle.delta_rewrite.specs.Asking.{asked_if, exists_inside, below_step}

module _ (nodes : List TNode) (step : Step) where
  below_kept : (ps : List CodeProbe) → are_kept nodes ps ≡ true → are_kept nodes (map (below_step (step ∷ [])) ps) ≡ true
  below_kept [] h = refl
  below_kept (p ∷ ps) h = let q = and_parts _ _ h in and_from _ _ q.0 (below_kept ps q.1)

  below_probes : (ps : List CodeProbe) → probes_in nodes (map (below_step (step ∷ [])) ps) ≡ map (under_probe step) (probes_in nodes ps)
  below_probes [] = refl
  below_probes (p ∷ ps) = rw (below_probes ps) refl

  pub under_kept : (steps : List Step) (ps qs : List CodeProbe) → steps ≡ step ∷ [] → qs ≡ map (below_step steps) ps
      → are_kept nodes ps ≡ true → are_kept nodes qs ≡ true
  under_kept steps ps qs s q h = ap (are_kept nodes) (q ∙ ap (λ z. map (below_step z) ps) s) ∙ below_kept ps h

  pub under_probes : (steps : List Step) (ps qs : List CodeProbe) (X : List Probe) → steps ≡ step ∷ [] → qs ≡ map (below_step steps) ps
      → probes_in nodes ps ≡ X → probes_in nodes qs ≡ map (under_probe step) X
  under_probes steps ps qs X s q x = ap (probes_in nodes) (q ∙ ap (λ z. map (below_step z) ps) s) ∙ below_probes ps
      ∙ ap (map (under_probe step)) x

pub of_all : (l r : Condition) (up : Bool)
    → delta (All l r) up ≡ asked_if up A.Right r (delta l up) ++ asked_if up A.Left l (delta r up)
of_all l r true = refl
of_all l r false = refl

pub of_either : (l r : Condition) (up : Bool)
    → delta (Either l r) up ≡ asked_if (not up) A.NotRight r (delta l up) ++ asked_if (not up) A.NotLeft l (delta r up)
of_either l r true = refl
of_either l r false = refl

pub of_exists : (v : Var) (t : Table) (x : Condition) (up : Bool)
    → delta (Exists v t x) up ≡ map (under_probe (step_of v t x)) (exists_inside v t x up (delta x up))
of_exists v t x true = refl
of_exists v t x false = refl
