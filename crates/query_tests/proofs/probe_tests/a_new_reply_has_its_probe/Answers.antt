use Rattle.std.proofs.Common.{◌≡◌, true, sym, subst, refl, arith, inl, inr}
use Rattle.tql_core.specs.Bounds.{are_bounded}
use Rattle.tql_core.specs.Scope.{IsQuery}
use Rattle.query_tests.proofs.probe_tests.a_new_reply_has_its_probe.Goals as goal

pub rewritten-requires : goal.rewritten-requires
rewritten-requires g c = record {
  scoped = subst IsQuery (sym c.in_ok-cond.ensures)
      (omega arith, omega arith, (λ i. elim i [ inl e ↦ absurd (omega (arith, e)) | inr n ↦ absurd n ]), (inl refl, inr (inl refl)));
  bounded = subst (λ x. are_bounded x ≡ true) (sym c.in_ok-cond.ensures) refl;
}
