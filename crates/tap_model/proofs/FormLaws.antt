-- The probes by which a condition is evaluated find what the condition gives.
use Rattle.std.proofs.Common.{◌≡◌, ◌∙◌, ℤ, pos, subst}
use Rattle.std.specs.Prelude.{◌≤ℤ◌, is_some}
use mathlib.Core.Path.{fun_ext}
use Rattle.tap_rows.specs.Results.{Truth, visible, first_second, fresh_in, union_until}
use Rattle.tql_core.specs.Condition.{Condition}
use Rattle.tql_core.specs.Scope.{IsQuery}
use Rattle.tql_core.specs.Holds.{truth_of, asked_of}
use Rattle.time_marks.specs.Probes.{window_meaning, meaning_without}
use Rattle.monotone_rewrite.specs.Laws.{IsUnionOf}
use Rattle.monotone_rewrite.proofs.Windows.{distinct_union}
use Rattle.delta_rewrite.specs.Delta.{delta_window}
use Rattle.delta_rewrite.proofs.Deltas.{delta_is_union}
use Rattle.query_form.specs.Form.{form_of}
use Rattle.query_form.proofs.Equivalent.{forms_are_equivalent}
use Rattle.query_form.proofs.Scopes.{forms_are_queries}
use Rattle.tap_model.specs.Queries.{probes_from}

form_same : (c : Condition) → truth_of (form_of c) ≡ truth_of c
form_same c = fun_ext (λ T. fun_ext (λ d. fun_ext (λ s. forms_are_equivalent c (visible T s) s (asked_of d))))

pub form_is_union : (c : Condition) (start : ℤ) → IsQuery c → pos 0 ≤ℤ start → IsUnionOf c start (probes_from c start)
form_is_union c start query positive =
    let X = probes_from c start in
    let union = distinct_union (form_of c) start (delta_window (form_of c) start)
    (delta_is_union (form_of c) start (forms_are_queries c query) positive) in
    record {
      whole = λ T t zero. subst (λ (truth : Truth). window_meaning X T (record { low = start; high = t }) ≡ union_until truth T start t)
          (form_same c) (union.whole T t zero);
      since = λ T tau t zero late le.
          subst (λ (truth : Truth). meaning_without (λ d. is_some (first_second truth T d start tau)) X T (record { low = tau; high = t })
          ≡ fresh_in truth T start tau t) (form_same c)
          (union.since T tau t zero late le);
    }
