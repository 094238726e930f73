use Rattle.std.proofs.Common.{◌≡◌, true, sym, subst, refl}
use Rattle.tql_core.specs.Bounds.{are_bounded}
use Rattle.tql_core.specs.Scope.{IsQuery}
use Rattle.query_tests.proofs.probe_tests.what_is_never_true_has_no_probe.Goals as goal

pub rewritten-requires : goal.rewritten-requires
rewritten-requires g c = record {
  scoped = subst IsQuery (sym c.in_ok-cond.ensures) (tt, tt);
  bounded = subst (λ x. are_bounded x ≡ true) (sym c.in_ok-cond.ensures) refl;
}
