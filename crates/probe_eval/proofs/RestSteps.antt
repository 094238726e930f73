-- One turn of the search for the rest of a path.
use Rattle.std.proofs.Common.{◌≡◌, ◌∙◌, ◌||◌, ℤ, Bool, true, false, Option, Some, None, List, [], ◌∷◌, refl, sym, ap, inl, inr, length}
use Rattle.std.proofs.Common.{arith}
use Rattle.std.specs.Prelude.{is_some, not}
use Rattle.std.proofs.lemmas.Bool.{cases_Bool, false≢true}
use Rattle.std.specs.List.{list_any}
use Rattle.tap_rows.specs.declared.tables.Tables.{Tables}
use Rattle.tql_core.specs.Values.{Env}
use Rattle.time_marks.specs.declared.mark.Step.{Step}
use Rattle.access_plan.specs.declared.reach.Reach.{Reach}
use Rattle.access_plan.specs.declared.reach_ref.ReachRef.{ReachRef}
use Rattle.access_plan.specs.Nearest.{nearest}
use Rattle.access_plan.specs.Views.{option_reach}
use Rattle.probe_eval.specs.Open.{may_go}
use Rattle.probe_eval.specs.Rests.{rest_of}

module _ (T : Tables) (path : List Step) (b : ℤ) where
  -- rows that may not go on have no rest
  pub stopped : (order : List Reach) (env : Env) → may_go path b env ≡ false → false ≡ rest_of T path b order env
  stopped [] env h = rw h refl
  stopped (x ∷ rs) env h = rw h refl

  -- if each step has its row, there is the rest
  pub all_there : (order : List Reach) (env : Env) → may_go path b env ≡ true → nearest path env ≡ None → true ≡ rest_of T path b order env
  all_there [] env h n = rw (h, n) refl
  all_there (x ∷ rs) env h n = rw (h, n) refl

  -- if none is looked for, there is the rest if each has its row
  pub ended : (env : Env) (r : Option ReachRef) (found : Bool) → may_go path b env ≡ true → option_reach r ≡ nearest path env
      → is_some r ≡ not found → found ≡ rest_of T path b [] env
  ended env None true h e s = all_there [] env h (sym e)
  ended env None false h e s = absurd (false≢true s)
  ended env (Some x) true h e s = absurd (false≢true (sym s))
  ended env (Some x) false h e s = rw (h, sym e) refl

  pub no_order : (order : List Reach) (env : Env) (found : Bool) → length order ≡ 0 → found ≡ rest_of T path b [] env
      → found ≡ rest_of T path b order env
  no_order [] env found e h = h
  no_order (x ∷ rs) env found e h = absurd (omega (arith, e))

  -- if there is a rest beside rows that may go on, there is one if and only if they may
  pub sure_rest : (order : List Reach) (env : Env) → (may_go path b env ≡ true → rest_of T path b order env ≡ true)
      → may_go path b env ≡ rest_of T path b order env
  sure_rest order env h = elim (cases_Bool (may_go path b env)) [ inl y ↦ y ∙ sym (h y) | inr n ↦ n ∙ stopped order env n ]

-- the row that was handed out has no rest
pub any_step : {A : Type 0} (f : A → Bool) (whole : Bool) (rows left : List A) (r : A) → whole ≡ list_any f rows → rows ≡ r ∷ left
    → f r ≡ false → whole ≡ list_any f left
any_step f whole rows left r h e d = h ∙ (ap (list_any f) e ∙ ap (λ b. b || list_any f left) d)
