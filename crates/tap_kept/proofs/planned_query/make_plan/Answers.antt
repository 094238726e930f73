use Rattle.std.proofs.Common.{◌≡◌, sym, subst, rules, ℤ, pos, ◌≤ℤ◌, true, w64, to_z, of_z}
use Rattle.tql_core.specs.Bounds.{are_bounded}
use Rattle.tql_core.specs.Condition.{condition}
use Rattle.tql_core.specs.Scope.{IsQuery}
use Rattle.query_form.proofs.Scopes.{forms_are_queries}
use Rattle.query_form.proofs.Bounds.{forms_are_bounded}
use Rattle.tap_kept.proofs.PlanLaws.{probes-kept}
use Rattle.tap_kept.proofs.planned_query.make_plan.Goals as goal

pub delta_from-requires : goal.delta_from-requires
delta_from-requires c =
    let start : to_z w64 (of_z w64 c.args.start) ≡ c.args.start = search rules in
    let x = condition c.args.cond.now in
    record {
      query = record {
        scoped = subst IsQuery (sym c.in_ok-form.ensures) (forms_are_queries x c.requires.scoped);
        bounded = subst (λ x. are_bounded x ≡ true) (sym c.in_ok-form.ensures) (forms_are_bounded x c.requires.bounded);
      };
      from_zero = subst (λ (z : ℤ). pos 0 ≤ℤ z) (sym start) c.requires.start.0;
      to_last = subst (λ (z : ℤ). z ≤ℤ pos 250000000000) (sym start) c.requires.start.1;
    }

pub returns-clause-scopes : goal.returns-clause-scopes
returns-clause-scopes c = probes-kept c.in_ok-query.query c.in_ok-ranged.ranged c.in_ok-made.made.query c.in_ok-query.ensures.scopes
    c.in_ok-ranged.ensures.distinct c.in_ok-made.ensures.query
