-- What is asked below an EXISTS of the row that is bound to its variable's copy.
use Rattle.std.proofs.Common.{◌≡◌, ℕ, ℤ, true, Some, List, ◌∷◌, refl, ap, ◌∙◌, inl, inr}
use Rattle.tql_tree.specs.declared.table.Table.{Table}
use Rattle.tql_core.specs.declared.term.Var.{Var}
use Rattle.tql_core.specs.Condition.{Condition, Exists}
use Rattle.tql_core.specs.Row.{Row}
use Rattle.tql_core.specs.Values.{Env, bind, lookup, value}
use Rattle.tql_core.specs.Holds.{truth}
use Rattle.tql_core.specs.Scope.{Scoped}
use Rattle.tap_rows.specs.declared.tables.Tables.{Tables}
use Rattle.tap_rows.specs.Results.{visible}
use Rattle.tap_rows.specs.Kept.{In}
use Rattle.time_marks.specs.Laws.{Same}
use Rattle.time_marks.specs.Marks.{copied, copy, arrival_term, body}
use Rattle.time_marks.specs.Probes.{Probe}
use Rattle.time_marks.proofs.Envs.{same_bind}
use Rattle.monotone_rewrite.proofs.Folds.{body_named}
use Rattle.monotone_rewrite.proofs.Scopes.{copied_high}
use Rattle.delta_rewrite.specs.Delta.{renamed, is_driver, some_row, delta}
use Rattle.delta_rewrite.proofs.MarksOf.{some_row_yes}
use Rattle.delta_rewrite.proofs.Renaming.{stands_for, truth_renamed}
use Rattle.delta_rewrite.proofs.Names.{delta_named}
use Rattle.delta_rewrite.proofs.Asks.{one_driver, driver_is, body_at, at_stays}

module _ (T : Tables) (n : ℤ) (scope : List ℕ) (v : Var) (t : Table) (x : Condition) (sc : Scoped scope (Exists v t x)) where
  -- if the copy is the driver, what is asked at a mark of the inner condition is asked of the copy's row
  pub driven_truth : (p : Probe) → In p (delta x true) → is_driver v p.at ≡ true → (r : Row) (final : Env)
      → lookup (copied v.0) final ≡ Some r → truth T n (some_row v t p.at p.body) final ≡ truth T n p.body (bind v r final)
  driven_truth p i h r final row =
      let outer = copied v.0 ∷ v.0 ∷ scope in
      let named = delta_named x true (v.0 ∷ scope) outer sc.3 (λ k m. inr m) p i
      (λ j m. inl (one_driver p.at.base (copied v.0) j (driver_is v p.at h) m)) in
      ap (λ c. truth T n c final) (some_row_yes v t p.at p.body h)
      ∙ truth_renamed T n v (copy v) (copied_high v.0 sc.0) p.body outer final (bind v r final) named (stands_for v (copy v) r final row)

  -- at the arrival of the copy's row the inner condition is asked of that row
  pub first_truth : (b : ℤ) (r : Row) (env final : Env) → Same scope env final → lookup (copied v.0) final ≡ Some r
      → value (arrival_term (copy v)) final ≡ Some b
      → truth T n (renamed v (copy v) (body x (arrival_term (copy v)))) final ≡ truth (visible T b) b x (bind v r env)
  first_truth b r env final same row here =
      let at = arrival_term (copy v) in
      let outer = copied v.0 ∷ v.0 ∷ scope in
      let named = body_named at x (v.0 ∷ scope) outer sc.3 (λ k i. inr i) (inl refl) in
      truth_renamed T n v (copy v) (copied_high v.0 sc.0) (body x at) outer final (bind v r final) named (stands_for v (copy v) r final row)
      ∙ body_at T n b at (arrival_term v) refl x (v.0 ∷ scope) (bind v r env) (bind v r final) sc.3 (same_bind scope env final v r same)
      (at_stays at (arrival_term v) refl v r final sc.0 sc.1 ∙ here)
