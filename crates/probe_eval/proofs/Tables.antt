-- The tables of a path's variables, and the rows that an access gives of them.
use Rattle.std.proofs.Common.{◌≡◌, ℕ, ℤ, true, false, List, [], ◌∷◌, sym, ap, subst, inl, inr, arith, nat_eq}
use Rattle.std.specs.Prelude.{◌⊎◌, int_le}
use Rattle.std.proofs.lemmas.Bool.{cases_eq, eq-eqb}
use Rattle.tql_core.specs.Row.{Row, arrival}
use Rattle.tap_rows.specs.Kept.{In}
use Rattle.tql_core.specs.Values.{Env}
use Rattle.time_marks.specs.declared.mark.Step.{Step}
use Rattle.time_marks.specs.Found.{vars_of, Distinct}
use Rattle.time_marks.proofs.Lists.{in_map}
use Rattle.access_plan.specs.declared.access.Access.{Access}
use Rattle.access_plan.specs.declared.access.Access.TheVariants.{ByNumber, ByText, ByEntry, ByEach, Whole}
use Rattle.access_plan.specs.Accesses.{admits}
use Rattle.probe_eval.specs.Tables.{table_in}
use Rattle.probe_eval.specs.Work.{admits_by}

-- of distinct variables, the table in which a variable is found is that of its step
pub table_is : (path : List Step) (step : Step) → Distinct (vars_of path) → In step path → table_in path step.var.0 ≡ step.table
table_is [] step u i = absurd i
table_is (x ∷ xs) step u (inl e) =
    let q : nat_eq x.var.0 step.var.0 ≡ true = eq-eqb x.var.0 step.var.0 (ap (λ (z : Step). z.var.0) (sym e)) in
    rw q (ap (λ (z : Step). z.table) (sym e))
table_is (x ∷ xs) step u (inr i) = go (cases_eq x.var.0 step.var.0) (table_is xs step u.1 i)
  where
    ne : (a b : ℕ) → (a ≡ b → ⊥) → nat_eq a b ≡ false
    ne a b h = grind arith

    go : (x.var.0 ≡ step.var.0) ⊎ (x.var.0 ≡ step.var.0 → ⊥) → table_in xs step.var.0 ≡ step.table
        → table_in (x ∷ xs) step.var.0 ≡ step.table
    go (inl e) k = absurd (u.0 (subst (λ z. In z (vars_of xs)) (sym e) (in_map (λ (s : Step). s.var.0) xs step i)))
    go (inr n) k = let q : nat_eq x.var.0 step.var.0 ≡ false = ne x.var.0 step.var.0 n in rw q k

pub by_both : (b : ℤ) (a : Access) (env : Env) (row : Row) → admits a env row ≡ true → int_le (arrival row) b ≡ true
    → admits_by b a env row ≡ true
by_both b (Whole t) env row h k = k
by_both b (ByNumber f e) env row h k = h
by_both b (ByText f e) env row h k = h
by_both b (ByEntry l e) env row h k = h
by_both b (ByEach w l f) env row h k = h
