-- The documents of a list that guards of a path leave.
use Rattle.std.proofs.Common.{◌≡◌, ◌∙◌, ℤ, Bool, true, false, not, ◌||◌, List, [], ◌∷◌, length, refl, sym, ap, subst, filter, arith}
use Rattle.std.specs.Prelude.{int_le}
use Rattle.tap_rows.specs.declared.rows.Doc.{Doc}
use Rattle.tql_core.specs.declared.term.Var.{Var}
use Rattle.tql_core.specs.declared.atom.Atom.{Atom}
use Rattle.tql_core.specs.Row.{OfDoc}
use Rattle.tql_core.specs.Values.{Env}
use Rattle.time_marks.specs.declared.mark.Step.{Step}
use Rattle.access_plan.specs.Accesses.{is_held_or}
use Rattle.row_index.specs.declared.cut.Order.TheVariants.{Arrival}
use Rattle.row_index.specs.declared.cut.Limit.TheVariants.{UpTo}
use Rattle.row_index.specs.Cuts.{keeps}
use Rattle.row_index.specs.Orders.{IsRisingBy, doc_arrival, doc_rank}
use Rattle.row_index.proofs.Halves.{rising_kept}
use Rattle.probe_eval.specs.Cuts.{is_half_guard, passes_cut}
use Rattle.probe_eval.specs.Open.{atom_known}
use Rattle.probe_eval.specs.SingleLists.{IsSorted}
use Rattle.probe_eval.specs.StepRows.{passes_open, passes_guards, passes_path, passes_step}
use Rattle.probe_eval.proofs.CutLaws.{half_passes}
use Rattle.probe_eval.proofs.Costs.{filter_same, filter_all, filter_both}

-- what is left of documents in order is in order
pub still_in_order : (keeps : Doc → Bool) (docs left : List Doc) → left ≡ filter keeps docs → IsSorted docs → IsSorted left
still_in_order keeps docs left e s = record {
  arrivals = subst (IsRisingBy doc_arrival) (sym e) (rising_kept doc_arrival keeps docs s.arrivals);
  numbers = subst (IsRisingBy doc_rank) (sym e) (rising_kept doc_rank keeps docs s.numbers);
}

-- a list that the mark cuts
pub come_cut : (bound b : ℤ) (docs come : List Doc) → come ≡ filter (keeps (record { order = Arrival; limit = UpTo; bound = bound })) docs
    → bound ≡ b → come ≡ filter (λ d. int_le d.arrival b) docs
come_cut bound b docs come e q = e ∙ ap (λ z. filter (λ d. int_le d.arrival z) docs) q

module _ (v : Var) (env : Env) where
  -- a guard that can be evaluated leaves what it cuts, another one all
  pub cut_known : (guard : Atom) (docs left : List Doc) → atom_known (is_held_or env v) guard ≡ true
      → left ≡ filter (λ d. passes_cut v env guard (OfDoc d)) docs → left ≡ filter (λ d. passes_open v env guard (OfDoc d)) docs
  cut_known guard docs left k e = e
      ∙ filter_same (λ d. passes_cut v env guard (OfDoc d)) (λ d. passes_open v env guard (OfDoc d)) docs (λ d. rw k refl)

  pub cut_unknown : (guard : Atom) (docs : List Doc) → atom_known (is_held_or env v) guard ≡ false
      → docs ≡ filter (λ d. passes_open v env guard (OfDoc d)) docs
  cut_unknown guard docs k = sym (filter_all (λ d. passes_open v env guard (OfDoc d)) docs (λ d i. rw k refl))

  pub cut_half : (guard : Atom) (docs : List Doc) → is_half_guard guard ≡ false
      → docs ≡ filter (λ d. passes_open v env guard (OfDoc d)) docs
  cut_half guard docs h = sym (filter_all (λ d. passes_open v env guard (OfDoc d)) docs
      (λ d i. or_second (not (atom_known (is_held_or env v) guard)) (passes_cut v env guard (OfDoc d))
      (half_passes v env guard (OfDoc d) h)))
    where
      or_second : (a b : Bool) → b ≡ true → (a || b) ≡ true
      or_second true b h = refl
      or_second false b h = h

  -- one guard after the other
  pub no_guard_cut : (guards : List Atom) (docs : List Doc) → length guards ≡ 0
      → docs ≡ filter (λ d. passes_guards v env guards (OfDoc d)) docs
  no_guard_cut [] docs e = sym (filter_all (λ d. true) docs (λ d i. refl))
  no_guard_cut (a ∷ guards) docs e = absurd (omega (arith, e))

  pub guard_cut : (guards rest : List Atom) (guard : Atom) (docs some left : List Doc) → guards ≡ guard ∷ rest
      → some ≡ filter (λ d. passes_open v env guard (OfDoc d)) docs
      → left ≡ filter (λ d. passes_guards v env rest (OfDoc d)) some → left ≡ filter (λ d. passes_guards v env guards (OfDoc d)) docs
  guard_cut guards rest guard docs some left e s l =
      l ∙ ap (filter (λ d. passes_guards v env rest (OfDoc d))) s
      ∙ filter_both (λ d. passes_open v env guard (OfDoc d)) (λ d. passes_guards v env rest (OfDoc d)) docs
      ∙ ap (λ g. filter (λ d. passes_guards v env g (OfDoc d)) docs) (sym e)

  -- one step after the other
  pub no_step_cut : (path : List Step) (docs : List Doc) → length path ≡ 0 → docs ≡ filter (λ d. passes_path v env path (OfDoc d)) docs
  no_step_cut [] docs e = sym (filter_all (λ d. true) docs (λ d i. refl))
  no_step_cut (step ∷ path) docs e = absurd (omega (arith, e))

  pub step_cut : (path rest : List Step) (step : Step) (guards : List Atom) (docs some left : List Doc) → path ≡ step ∷ rest
      → guards ≡ step.guards → some ≡ filter (λ d. passes_guards v env guards (OfDoc d)) docs
      → left ≡ filter (λ d. passes_path v env rest (OfDoc d)) some → left ≡ filter (λ d. passes_path v env path (OfDoc d)) docs
  step_cut path rest step guards docs some left e g s l =
      l ∙ ap (filter (λ d. passes_path v env rest (OfDoc d))) (s ∙ ap (λ z. filter (λ d. passes_guards v env z (OfDoc d)) docs) g)
      ∙ filter_both (λ d. passes_guards v env step.guards (OfDoc d)) (λ d. passes_path v env rest (OfDoc d)) docs
      ∙ ap (λ p. filter (λ d. passes_path v env p (OfDoc d)) docs) (sym e)

  -- the mark before them
  pub mark_cut : (b : ℤ) (path : List Step) (docs come left : List Doc) → come ≡ filter (λ d. int_le d.arrival b) docs
      → left ≡ filter (λ d. passes_path v env path (OfDoc d)) come
      → left ≡ filter (λ d. passes_step v b env path (OfDoc d)) docs
  mark_cut b path docs come left c l =
      l ∙ ap (filter (λ d. passes_path v env path (OfDoc d))) c
      ∙ filter_both (λ d. int_le d.arrival b) (λ d. passes_path v env path (OfDoc d)) docs
