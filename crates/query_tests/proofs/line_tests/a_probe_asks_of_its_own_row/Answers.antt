use Rattle.std.proofs.Common.{rules, ◌≡◌, true, sym, subst, refl, arith, inl, inr}
use Rattle.tql_core.specs.Bounds.{are_bounded}
use Rattle.tql_core.specs.Scope.{IsQuery}
use Rattle.query_tests.proofs.line_tests.a_probe_asks_of_its_own_row.Goals as goal

pub delta_lines-requires : goal.delta_lines-requires
delta_lines-requires g c = record {
  query = record {
    scoped = subst IsQuery (sym c.in_ok-cond.ensures) (
      omega arith,
      omega arith,
      (λ i. elim i [ inl e ↦ absurd (omega arith) | inr n ↦ absurd n ]),
      ((inl refl, inr (inl refl)), (inl refl, inr (inl refl))),
    );
    bounded = subst (λ x. are_bounded x ≡ true) (sym c.in_ok-cond.ensures) refl;
  };
  from_zero = search rules;
  to_last = search rules;
}
