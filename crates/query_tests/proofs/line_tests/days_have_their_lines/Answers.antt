use Rattle.std.proofs.Common.{rules, ◌≡◌, true, sym, subst, refl, inl}
use Rattle.tql_core.specs.Bounds.{are_bounded}
use Rattle.tql_core.specs.Scope.{IsQuery}
use Rattle.query_tests.proofs.line_tests.days_have_their_lines.Goals as goal

pub explained-requires : goal.explained-requires
explained-requires g c = record {
  query = record {
    scoped = subst IsQuery (sym c.next_day-cond.ensures) (inl refl);
    bounded = subst (λ x. are_bounded x ≡ true) (sym c.next_day-cond.ensures) refl;
  };
  from_zero = search rules;
  to_last = search rules;
}
