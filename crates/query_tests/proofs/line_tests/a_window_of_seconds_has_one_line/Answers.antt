use Rattle.std.proofs.Common.{rules, ◌≡◌, true, sym, subst, refl, inl}
use Rattle.tql_core.specs.Bounds.{are_bounded}
use Rattle.tql_core.specs.Scope.{IsQuery}
use Rattle.query_tests.proofs.line_tests.a_window_of_seconds_has_one_line.Goals as goal

pub explained-requires : goal.explained-requires
explained-requires g c = record {
  query = record {
    scoped = subst IsQuery (sym c.in_ok-cond.ensures) (inl refl, inl refl);
    bounded = subst (λ x. are_bounded x ≡ true) (sym c.in_ok-cond.ensures) refl;
  };
  from_zero = search rules;
  to_last = search rules;
}
