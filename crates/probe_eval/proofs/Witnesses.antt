-- The steps of an EXISTS up to its first witness.
use Rattle.std.proofs.Common.{◌≡◌, ◌+◌, ◌≤◌, ℕ, pos, false, List, ◌∷◌, ap, subst, arith}
use Rattle.tap_rows.specs.declared.tables.Tables.{Tables}
use Rattle.tql_core.specs.declared.term.Var.{Var}
use Rattle.tql_tree.specs.declared.table.Table.{Table}
use Rattle.tql_core.specs.Condition.{Condition, Exists}
use Rattle.tql_core.specs.Row.{Row}
use Rattle.tql_core.specs.Values.{Env, bind}
use Rattle.tql_core.specs.Holds.{truth}
use Rattle.probe_eval.specs.Work.{reached, work, exists_work}

-- the rows of an EXISTS that are walked cost its work
pub walked_work : (T : Tables) (x : Condition) (v : Var) (t : Table) (env : Env) (rows : List Row) → rows ≡ reached T v t x env
    → exists_work T v x env rows ≤ work T (Exists v t x) env
walked_work T x v t env rows e = no_less _ _ (ap (exists_work T v x env) e)
  where
    no_less : (a b : ℕ) → a ≡ b → a ≤ b
    no_less a b q = omega (arith, q)

module _ (T : Tables) (x : Condition) (v : Var) (env : Env) where
  -- the condition with the first row is paid for
  pub first_steps : (s next now bound : ℕ) (rows left : List Row) (r : Row) → exists_work T v x env rows ≤ bound → rows ≡ r ∷ left
      → next ≡ s + 1
      → now ≤ next + work T x (bind v r env) → now ≤ s + bound
  first_steps s next now bound rows left r b e n h =
      let k : exists_work T v x env (r ∷ left) ≤ bound = subst (λ q. exists_work T v x env q ≤ bound) e b in
      omega (arith, k, n, h)

  -- and so are the rows behind it, if it is no witness
  pub further_steps : (s next mid now bound : ℕ) (rows left : List Row) (r : Row) → exists_work T v x env rows ≤ bound → rows ≡ r ∷ left
      → truth T (pos 0) x (bind v r env) ≡ false → next ≡ s + 1 → mid ≤ next + work T x (bind v r env)
      → now ≤ mid + exists_work T v x env left → now ≤ s + bound
  further_steps s next mid now bound rows left r b e f n h l =
      let k : exists_work T v x env (r ∷ left) ≤ bound = subst (λ q. exists_work T v x env q ≤ bound) e b in
      let m : 1 + work T x (bind v r env) + exists_work T v x env left ≤ bound = rw f at k in
      omega (arith, m, n, h, l)
