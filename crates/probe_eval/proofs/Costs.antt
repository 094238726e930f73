-- How many steps a run takes.
use Rattle.std.proofs.Common.{◌≡◌, ℕ, ◌+◌, ◌≤◌, Bool, true, List, [], ◌∷◌, refl, sym, ap, ◌∙◌, inl, inr, arith, map, if◌then◌else◌}
use Rattle.std.specs.Prelude.{◌&&◌, filter, fold, int_le, int_lt}
use Rattle.std.proofs.lemmas.Bool.{cases_Bool}
use Rattle.tap_rows.specs.declared.rows.Doc.{Doc}
use Rattle.tql_core.specs.Row.{OfDoc, date}
use Rattle.tap_rows.specs.Kept.{In}
use Rattle.row_index.specs.Dates.{has_date, stored_date, is_earlier, put_dated, in_date_order, dated_in}
use Rattle.time_marks.specs.declared.window.Window.{Window}
use Rattle.time_marks.specs.Seeks.{lies_in}
use Rattle.probe_eval.specs.Work.{total}
use Rattle.probe_eval.proofs.DriverLaws.{date_lies}

module _ {A : Type 0} where
  pub total_same : (f g : A → ℕ) (xs : List A) → ((x : A) → f x ≡ g x) → total f xs ≡ total g xs
  total_same f g [] h = refl
  total_same f g (x ∷ xs) h = rw (h x, total_same f g xs h) refl

  pub total_less : (f g : A → ℕ) (xs : List A) → ((x : A) → f x ≤ g x) → total f xs ≤ total g xs
  total_less f g [] h = omega arith
  total_less f g (x ∷ xs) h =
      let a = h x in
      let b = total_less f g xs h in
      omega (arith, a, b)

  pub total_less_in : (f g : A → ℕ) (xs : List A) → ((x : A) → In x xs → f x ≤ g x) → total f xs ≤ total g xs
  total_less_in f g [] h = omega arith
  total_less_in f g (x ∷ xs) h =
      let a = h x (inl refl) in
      let b = total_less_in f g xs (λ y i. h y (inr i)) in
      omega (arith, a, b)

  pub total_none : (f : A → ℕ) (xs : List A) → ((x : A) → In x xs → f x ≡ 0) → total f xs ≡ 0
  total_none f [] h = refl
  total_none f (x ∷ xs) h =
      let a = h x (inl refl) in
      let b = total_none f xs (λ y i. h y (inr i)) in
      omega (arith, a, b)

  pub total_filter : (f : A → ℕ) (p : A → Bool) (xs : List A) → total f (filter p xs) ≤ total f xs
  total_filter f p [] = omega arith
  total_filter f p (x ∷ xs) =
      let b = total_filter f p xs in
      elim (cases_Bool (p x)) [
        | inl e ↦ rw e (omega (arith, b))
        | inr e ↦ rw e (omega (arith, b))
      ]

  pub filter_same : (p q : A → Bool) (xs : List A) → ((x : A) → p x ≡ q x) → filter p xs ≡ filter q xs
  filter_same p q [] h = refl
  filter_same p q (x ∷ xs) h = rw (h x, filter_same p q xs h) refl

  pub filter_all : (p : A → Bool) (xs : List A) → ((x : A) → In x xs → p x ≡ true) → filter p xs ≡ xs
  filter_all p [] h = refl
  filter_all p (x ∷ xs) h = rw (h x (inl refl)) (ap (λ z. x ∷ z) (filter_all p xs (λ y i. h y (inr i))))

  -- a filter of a filter
  pub filter_both : (p q : A → Bool) (xs : List A) → filter q (filter p xs) ≡ filter (λ x. p x && q x) xs
  filter_both p q [] = refl
  filter_both p q (x ∷ xs) =
      elim (cases_Bool (p x)) [
        | inl e ↦
            elim (cases_Bool (q x)) [ inl k ↦ rw (e, k) (ap (λ z. x ∷ z) (filter_both p q xs)) | inr k ↦ rw (e, k) (filter_both p q xs) ]
        | inr e ↦ rw e (filter_both p q xs)
      ]

pub total_map : {A B : Type 0} (f : B → ℕ) (g : A → B) (xs : List A) → total f (map g xs) ≡ total (λ x. f (g x)) xs
total_map f g [] = refl
total_map f g (x ∷ xs) = ap (λ n. f (g x) + n) (total_map f g xs)

-- a sum over documents in order of date
module _ (f : Doc → ℕ) (q : Doc → Bool) where
  step_total : (d : Doc) (ds : List Doc) → total f (filter q (d ∷ ds)) ≡ (if q d then f d else 0) + total f (filter q ds)
  step_total d ds = elim (cases_Bool (q d)) [ inl e ↦ rw e refl | inr e ↦ rw e (omega arith) ]

  put_total : (d : Doc) (ds : List Doc) → total f (filter q (put_dated d ds)) ≡ (if q d then f d else 0) + total f (filter q ds)
  put_total d [] = step_total d []
  put_total d (x ∷ xs) =
      elim (cases_Bool (is_earlier d x)) [
        | inl e ↦ rw e (step_total d (x ∷ xs))
        | inr e ↦ rw e (swapped (put_total d xs))
      ]
    where
      swapped : total f (filter q (put_dated d xs)) ≡ (if q d then f d else 0) + total f (filter q xs)
          → total f (filter q (x ∷ put_dated d xs)) ≡ (if q d then f d else 0) + total f (filter q (x ∷ xs))
      swapped r =
          let a = step_total x (put_dated d xs) in
          let b = step_total x xs in
          sums _ _ _ _ _ _ a b r
        where
          sums : (l r p q' s t : ℕ) → l ≡ p + s → r ≡ p + t → s ≡ q' + t → l ≡ q' + r
          sums l r p q' s t a b c = omega (arith, a, b, c)

  fold_total : (acc ds : List Doc)
      → total f (filter q (fold (λ sorted doc. put_dated doc sorted) acc ds)) ≡ total f (filter q ds) + total f (filter q acc)
  fold_total acc [] = omega arith
  fold_total acc (d ∷ ds) =
      let a = fold_total (put_dated d acc) ds in
      let b = put_total d acc in
      let c = step_total d ds in
      sums _ _ _ _ _ _ a b c
    where
      sums : (l s put one acc all : ℕ) → l ≡ s + put → put ≡ one + acc → all ≡ one + s → l ≡ all + acc
      sums l s put one acc all a b c = omega (arith, a, b, c)

  order_total : (ds : List Doc) → total f (filter q (in_date_order ds)) ≡ total f (filter q (filter has_date ds))
  order_total ds = let k = fold_total [] (filter has_date ds) in k ∙ plus_none _
    where
      plus_none : (n : ℕ) → n + 0 ≡ n
      plus_none n = omega arith

pub dated_total : (f : Doc → ℕ) (w : Window) (ds : List Doc)
    → total f (dated_in w.low w.high ds) ≡ total f (filter (λ d. lies_in w (date (OfDoc d))) ds)
dated_total f w ds =
    order_total f (λ x. int_le w.low (stored_date x) && int_lt (stored_date x) w.high) ds
    ∙ ap (total f) (filter_both has_date (λ x. int_le w.low (stored_date x) && int_lt (stored_date x) w.high) ds
    ∙ filter_same _ _ ds (λ d. sym (date_lies w d)))
