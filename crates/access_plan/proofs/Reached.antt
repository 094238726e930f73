-- Each reach of an order admits the row that it needs.
use Rattle.std.proofs.Common.{◌≡◌, ◌∙◌, sym, ap, inl, inr, Some}
use Rattle.std.specs.List.{list_all}
use Rattle.std.proofs.lemmas.Bool.{cases_eq}
use Rattle.tql_core.specs.declared.term.Var.{Var}
use Rattle.tql_core.specs.Values.{bind, lookup, true_atom}
use Rattle.tql_core.proofs.Bound.{bind_same, bind_other}
use Rattle.time_marks.specs.declared.mark.Step.{Step}
use Rattle.time_marks.proofs.Lists.{all_in}
use Rattle.access_plan.specs.Accesses.{admits, table_of, is_bound}
use Rattle.access_plan.specs.Laws.{ReachesAreEnough, BindingKeepsSame}
use Rattle.access_plan.proofs.Enough.{accesses_are_enough, accesses_keep_tables}
use Rattle.access_plan.proofs.Served.{was_bound}

pub reaches_are_enough : ReachesAreEnough
reaches_are_enough path bound r rs env final row s same here guards =
    let step = s.0.0 in
    let serves = s.0.2 in
    let there : lookup step.var.0 final ≡ Some row = ap (λ (v : Var). lookup v.0 final) (sym serves.var) ∙ here in
    let all = all_in (λ (x : Step). list_all (λ a. true_atom a final) x.guards) path step guards s.0.1 in (
      ap (λ access. admits access env row) serves.access ∙ accesses_are_enough (is_bound bound) step.var step.table step.guards env final
          row same there (λ a i. all_in (λ a. true_atom a final) step.guards a all i),
      ap table_of serves.access ∙ accesses_keep_tables (is_bound bound) step.var step.table step.guards ∙ sym serves.table,
    )

pub binding_keeps_same : BindingKeepsSame
binding_keeps_same bound v env final row same here k h =
    elim (cases_eq k v.0) [
      | inl e ↦ ap (λ j. lookup j final) e ∙ here ∙ sym (ap (λ j. lookup j (bind v row env)) e ∙ bind_same v row env)
      | inr n ↦ elim (was_bound bound v k h) [
        | inl b ↦ same k b ∙ sym (bind_other k v row env n)
        | inr e ↦ absurd (n e)
      ]
    ]
