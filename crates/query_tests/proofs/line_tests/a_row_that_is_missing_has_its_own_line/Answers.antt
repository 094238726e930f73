use Rattle.std.proofs.Common.{rules, ◌≡◌, true, sym, subst, refl, arith, inl, inr}
use Rattle.tql_core.specs.Bounds.{are_bounded}
use Rattle.tql_core.specs.Scope.{IsQuery}
use Rattle.query_tests.proofs.line_tests.a_row_that_is_missing_has_its_own_line.Goals as goal

pub explained-requires : goal.explained-requires
explained-requires g c = record {
  query = record {
    scoped = subst IsQuery (sym c.in_ok-cond.ensures) (
      omega arith,
      omega arith,
      (λ i. elim i [ inl e ↦ absurd (omega arith) | inr n ↦ absurd n ]),
      ((inl refl, inr (inl refl)), inl refl),
    );
    bounded = subst (λ x. are_bounded x ≡ true) (sym c.in_ok-cond.ensures) refl;
  };
  from_zero = search rules;
  to_last = search rules;
}
