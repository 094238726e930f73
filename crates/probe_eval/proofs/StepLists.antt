-- The rows of the next step of a path that are walked, by what a walk looks up.
use Rattle.std.proofs.Common.{◌≡◌, ◌∙◌, ◌⊎◌, ℤ, Bool, true, false, List, [], refl, sym, ap, inl, inr, map, filter, if◌then◌else◌}
use Rattle.std.proofs.lemmas.Bool.{cases_Bool, false≢true}
use Rattle.tap_rows.specs.declared.rows.Doc.{Doc}
use Rattle.tap_rows.specs.declared.tables.Tables.{Tables}
use Rattle.tql_core.specs.declared.term.Var.{Var}
use Rattle.tql_core.specs.Row.{Row, OfDoc}
use Rattle.tql_core.specs.Values.{Env}
use Rattle.time_marks.specs.declared.mark.Step.{Step}
use Rattle.access_plan.specs.declared.access.Access.{Access}
use Rattle.access_plan.specs.declared.access.Access.TheVariants.{ByNumber, ByText, ByEntry, ByEach, Whole}
use Rattle.probe_eval.specs.Shortest.{IsListOf}
use Rattle.probe_eval.specs.StepRows.{passes_step, step_rows}
use Rattle.probe_eval.specs.Work.{rows_by, all_rows_by, is_list}
use Rattle.probe_eval.proofs.AccessLists.{picked}

-- an access that gives a list of none
pub no_rows : (T : Tables) (a : Access) (b : ℤ) (env : Env) → is_list a ≡ true
    → (is_list a ≡ false) ⊎ (all_rows_by a env T ≡ []) → [] ≡ rows_by b a env T
no_rows T a b env l (inl n) = absurd (false≢true (sym n ∙ l))
no_rows T a b env l (inr n) = go a l (sym n)
  where
    go : (a : Access) → is_list a ≡ true → [] ≡ all_rows_by a env T → [] ≡ rows_by b a env T
    go (ByNumber f e) h k = k
    go (ByText f e) h k = k
    go (ByEntry l e) h k = k
    go (ByEach w l f) h k = k
    go (Whole t) h k = absurd (false≢true h)

module _ (T : Tables) (a : Access) (v : Var) (b : ℤ) (env : Env) (path : List Step) where
  -- the rows of a posting list are those that have come by any second
  list_rows : (a : Access) → is_list a ≡ true → rows_by b a env T ≡ all_rows_by a env T
  list_rows (ByNumber f e) l = refl
  list_rows (ByText f e) l = refl
  list_rows (ByEntry m e) l = refl
  list_rows (ByEach w m f) l = refl
  list_rows (Whole t) l = absurd (false≢true l)

  abbrev step_if : Bool → List Row
  step_if c = if c then filter (passes_step v b env path) (all_rows_by a env T) else rows_by b a env T

  pub no_list_step : (rows : List Row) → rows ≡ rows_by b a env T → (is_list a ≡ false) ⊎ (all_rows_by a env T ≡ [])
      → rows ≡ step_rows a v b env path T
  no_list_step rows r (inl n) = r ∙ sym (ap step_if n)
  no_list_step rows r (inr n) = elim (cases_Bool (is_list a)) [
    | inl l ↦ r ∙ list_rows a l ∙ n ∙ sym (ap (filter (passes_step v b env path)) n) ∙ sym (ap step_if l)
    | inr l ↦ r ∙ sym (ap step_if l)
  ]

  pub list_step : (docs left : List Doc) → IsListOf T a env docs → left ≡ filter (λ d. passes_step v b env path (OfDoc d)) docs
      → map OfDoc left ≡ step_rows a v b env path T
  list_step docs left l e =
      ap (map OfDoc) e
      ∙ picked OfDoc (λ d. passes_step v b env path (OfDoc d)) (passes_step v b env path) docs (λ d. refl)
      ∙ sym (ap (filter (passes_step v b env path)) l.rows)
      ∙ sym (ap step_if l.list)
