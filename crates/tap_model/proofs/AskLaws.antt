-- The documents that a condition gives at a second are those of a run of this second.
use Rattle.std.proofs.Common.{◌≡◌, ◌∙◌, ℕ, suc, ◌≤◌, ◌<◌, ℤ, pos, ◌+ℤ◌, ◌≤ℤ◌, ◌<ℤ◌, Bool, true, false, Option, Some, None, List, [], ◌∷◌}
use Rattle.std.proofs.Common.{map, refl, sym, ap, subst, arith, if◌then◌else◌}
use Rattle.std.specs.Prelude.{filter, int_le}
use Rattle.std.specs.List.{filter_map, cons_option}
use Rattle.std.proofs.lemmas.Int.{ints}
use mathlib.Core.Path.{fun_ext}
use Rattle.tap_rows.specs.declared.tables.Tables.{Tables}
use Rattle.tap_rows.specs.declared.rows.Doc.{Doc}
use Rattle.tap_rows.specs.declared.results.Hit.{Hit}
use Rattle.tap_rows.specs.Arrivals.{Arrived}
use Rattle.tap_rows.specs.Results.{Truth, is_given, first_second, is_before, put_in, hits_in_order, hit_of, hits_by, at_least}
use Rattle.tap_rows.proofs.SecondsLaws.{least_second-is, least_second-never}
use Rattle.tql_core.specs.Holds.{truth_of}
use Rattle.time_marks.specs.declared.window.Window.{Window}
use Rattle.time_marks.specs.Probes.{least}
use Rattle.tap_model.specs.Asks.{AsksAreRuns}
use Rattle.tap_model.specs.Queries.{probes_from}
use Rattle.tap_model.proofs.FormLaws.{form_is_union}
use Rattle.tap_model.proofs.WindowLaws.{from-zero}

all_kept : (docs : List Doc) → filter (λ d. true) docs ≡ docs
all_kept [] = refl
all_kept (d ∷ docs) = ap (λ rest. d ∷ rest) (all_kept docs)

before_later : (x y : Hit) → x.first ≤ℤ y.first → x.doc.0 < y.doc.0 → is_before x y ≡ true
before_later x y le less = grind (arith, ints)

module _ (g : Doc → Bool) (s : ℤ) where
  -- hits of this second, of documents from a number on
  abbrev Above : ℕ → List Hit → Type 0
  Above num [] = Unit {0}
  Above num (hit ∷ hits) = (hit.first ≡ s) × (num ≤ hit.doc.0) × Above num hits

  weaker : (num high : ℕ) (hits : List Hit) → num ≤ high → Above high hits → Above num hits
  weaker num high [] le above = tt
  weaker num high (hit ∷ hits) le above = (above.0, omega (arith, le, above.1), weaker num high hits le above.2)

  above_from : (num : ℕ) (low : ℤ) (docs : List Doc) → Arrived num low docs
      → Above num (filter_map (λ d. hit_of d (if g d then Some s else None)) docs)
  above_from num low [] arrived = tt
  above_from num low (d ∷ docs) arrived =
      let rest = weaker num (suc num) (filter_map (λ d. hit_of d (if g d then Some s else None)) docs) (omega arith)
      (above_from (suc num) d.arrival docs arrived.2) in
      elim (g d) as (λ b. Above num (cons_option (hit_of d (if b then Some s else None))
      (filter_map (λ d. hit_of d (if g d then Some s else None)) docs))) [
        | true ↦ (refl, omega (arith, arrived.1), rest)
        | false ↦ rest
      ]

  put_first : (hit : Hit) (num : ℕ) (hits : List Hit) → hit.first ≡ s → hit.doc.0 < num → Above num hits → put_in hit hits ≡ hit ∷ hits
  put_first hit num [] e lt above = refl
  put_first hit num (other ∷ hits) e lt above =
      let le : hit.first ≤ℤ other.first = subst (λ (z : ℤ). hit.first ≤ℤ z) (e ∙ sym above.0) (omega (arith, ints)) in
      let before : is_before hit other ≡ true = before_later hit other le (omega (arith, lt, above.1)) in
      rw before refl

  stand : (num : ℕ) (low : ℤ) (docs : List Doc) → Arrived num low docs
      → hits_in_order (filter_map (λ d. hit_of d (if g d then Some s else None)) docs)
      ≡ filter_map (λ d. hit_of d (if g d then Some s else None)) docs
  stand num low [] arrived = refl
  stand num low (d ∷ docs) arrived =
      let rest = stand (suc num) d.arrival docs arrived.2 in
      let hits = filter_map (λ d. hit_of d (if g d then Some s else None)) docs in
      elim (g d) as (λ b. hits_in_order (cons_option (hit_of d (if b then Some s else None)) hits)
      ≡ cons_option (hit_of d (if b then Some s else None)) hits) [
        | true ↦ ap (put_in (record { doc = d.num; first = s })) rest
            ∙ put_first (record { doc = d.num; first = s }) (suc num) hits refl (omega (arith, arrived.1))
            (above_from (suc num) d.arrival docs arrived.2)
        | false ↦ rest
      ]

  nums : (docs : List Doc) → map (λ h. h.doc) (filter_map (λ d. hit_of d (if g d then Some s else None)) docs)
      ≡ map (λ d. d.num) (filter g docs)
  nums [] = refl
  nums (d ∷ docs) =
      let rest = nums docs in
      elim (g d) as (λ b. map (λ h. h.doc) (cons_option (hit_of d (if b then Some s else None))
      (filter_map (λ d. hit_of d (if g d then Some s else None)) docs))
      ≡ map (λ d. d.num) (if b then d ∷ filter g docs else filter g docs)) [
        | true ↦ ap (λ ns. d.num ∷ ns) rest
        | false ↦ rest
      ]

-- over one second the first second at which a document is given is this second, if it is given
only_second : (truth : Truth) (T : Tables) (s : ℤ) (d : Doc) → at_least s (first_second truth T d s (s +ℤ pos 1))
    ≡ (if is_given truth T d s then Some s else None)
only_second truth T s d = go (is_given truth T d s) refl
  where
    same : (x : ℤ) → s ≤ℤ x → x <ℤ (s +ℤ pos 1) → is_given truth T d s ≡ false → is_given truth T d x ≡ false
    same x a b e = let is : s ≡ x = omega (arith, ints, a, b) in subst (λ (z : ℤ). is_given truth T d z ≡ false) is e

    here : int_le s s ≡ true
    here = grind (arith, ints)

    go : (b : Bool) → is_given truth T d s ≡ b → at_least s (first_second truth T d s (s +ℤ pos 1)) ≡ (if b then Some s else None)
    go true e =
        ap (at_least s) (least_second-is (is_given truth T d) s (s +ℤ pos 1) s (omega (arith, ints)) (omega (arith, ints)) e
        (λ x a b. absurd (omega (arith, ints, a, b))))
        ∙ ap (λ b. if b then Some s else None) here
    go false e = ap (at_least s) (least_second-never (is_given truth T d) s (s +ℤ pos 1) (λ x a b. same x a b e))

pub asks_are_runs : AsksAreRuns
asks_are_runs c s T query positive arrived =
    let X = probes_from c s in
    let w : Window = record { low = s; high = s +ℤ pos 1 } in
    let g = λ (d : Doc). is_given (truth_of c) T d s in
    ap (map (λ (h : Hit). h.doc))
    (ap (hits_by (λ d. least X T d w)) (all_kept T.docs)
    ∙ (form_is_union c s query positive).whole T (s +ℤ pos 1) (from-zero 1 (pos 0) T.docs (omega (arith, ints)) arrived)
    ∙ ap (λ (f : Doc → Option ℤ). hits_by f T.docs) (fun_ext (only_second (truth_of c) T s))
    ∙ stand g s 1 (pos 0) T.docs arrived)
    ∙ nums g s T.docs
