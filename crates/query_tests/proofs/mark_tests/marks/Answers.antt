use Rattle.std.proofs.Common.{sym, subst, refl, arith, inl, inr}
use Rattle.tql_core.specs.Scope.{IsQuery}
use Rattle.query_tests.proofs.mark_tests.marks.Goals as goal

pub rising-marks-requires : goal.rising-marks-requires
rising-marks-requires c = subst IsQuery (sym c.in_ok-cond.ensures)
    (omega arith, omega arith, (λ i. elim i [ inl e ↦ absurd (omega arith) | inr n ↦ absurd n ]), inl refl)
