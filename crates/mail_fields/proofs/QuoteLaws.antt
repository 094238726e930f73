-- A comma is outside quotes where an even number of them is before it.
use Rattle.std.proofs.Common.{◌≡◌, ◌∙◌, sym, ap, refl, arith, ℕ, suc, List, [], ◌∷◌, ◌++◌, ◌+◌, Bool, true, false}
use Rattle.std.specs.Prelude.{not, ◌==◌}
use Rattle.std.specs.List.{onto_first}
use Rattle.std.proofs.lemmas.List.Sums.{sum_by-append}
use Rattle.tap_rows.specs.Entries.{comma_parts, comma_parts_from}
use Rattle.mail_fields.specs.Quotes.{is_even, quote_count, parts_after}

twice : (x : Bool) → not (not x) ≡ x
twice true = refl
twice false = refl

-- one more byte
one_more : (before : List ℕ) (b : ℕ) → (b == 34) ≡ true → quote_count (before ++ b ∷ []) ≡ suc (quote_count before)
one_more before b is =
    let sum : quote_count (before ++ b ∷ []) ≡ quote_count before + quote_count (b ∷ []) = sum_by-append _ before (b ∷ []) in
    let one : quote_count (b ∷ []) ≡ 1 = rw is refl in
    let up : quote_count before + 1 ≡ suc (quote_count before) = omega arith in
    sum ∙ ap (λ n. quote_count before + n) one ∙ up

no_more : (before : List ℕ) (b : ℕ) → (b == 34) ≡ false → quote_count (before ++ b ∷ []) ≡ quote_count before
no_more before b is =
    let sum : quote_count (before ++ b ∷ []) ≡ quote_count before + quote_count (b ∷ []) = sum_by-append _ before (b ∷ []) in
    let none : quote_count (b ∷ []) ≡ 0 = rw is refl in
    let same : quote_count before + 0 ≡ quote_count before = omega arith in
    sum ∙ ap (λ n. quote_count before + n) none ∙ same

no_comma : (b : ℕ) → (b == 34) ≡ true → (b == 44) ≡ false
no_comma b is = grind arith

parts-same : (quoted : Bool) (before bytes : List ℕ) → quoted ≡ not (is_even (quote_count before))
    → comma_parts_from quoted bytes ≡ parts_after before bytes
parts-same quoted before [] is = refl
parts-same quoted before (b ∷ bytes) is = go (b == 34) refl (λ q. parts-same q (before ++ b ∷ []) bytes) where
  go : (x : Bool) → (b == 34) ≡ x
      → ((q : Bool) → q ≡ not (is_even (quote_count (before ++ b ∷ []))) → comma_parts_from q bytes ≡ parts_after (before ++ b ∷ []) bytes)
      → comma_parts_from quoted (b ∷ bytes) ≡ parts_after before (b ∷ bytes)
  go true e rec =
      let flipped : not quoted ≡ not (is_even (quote_count (before ++ b ∷ []))) = ap not (is ∙ sym (ap is_even (one_more before b e))) in
      rw (e, no_comma b e) (ap (onto_first b) (rec (not quoted) flipped))
  go false e rec =
      let kept : quoted ≡ not (is_even (quote_count (before ++ b ∷ []))) = is ∙ ap (λ n. not (is_even n)) (sym (no_more before b e)) in
      let outside : not quoted ≡ is_even (quote_count before) = ap not is ∙ twice (is_even (quote_count before)) in
      let rest = rec quoted kept in
      rw (e, outside, rest) refl

pub commas-cut : (value : List ℕ) → comma_parts value ≡ parts_after [] value
commas-cut value = parts-same false [] value refl
