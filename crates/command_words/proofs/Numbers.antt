-- The numbers that texts write.
use Rattle.std.proofs.Common.{◌≡◌, ◌≤◌, ◌<◌, ◌^◌, ℕ, List, [], ◌∷◌, Bool, true, false, refl, Some, None, pos, ◌==◌, arith, ap, sym}
use Rattle.std.proofs.Common.{slice_index, length}
use Rattle.std.specs.Prelude.{nat_le, nat_lt, if◌then◌else◌}
use Rattle.std.specs.List.{list_all}
use Rattle.std.specs.Char.{digit_value}
use Rattle.std.specs.Fmt.{decimal}
use Rattle.std.specs.Str.Parse.{AllDigits, IsNumeral, digits_value, without_leading_plus}
use Rattle.std.proofs.lemmas.Bool.{lt-ltb, le-leb, ne_eqb}
use Rattle.std.proofs.lemmas.Fmt.{decimal_is_IsNumeral, first_decimal}
use Rattle.clap.specs.ValueTests.{is_numeral, is_signed_in, is_unsigned_in}
use Rattle.clap.proofs.ValueTestLemmas.{accepts-Accepts, Accepts-accepts}
use Rattle.clap.specs.declared.builder.value_parser.ValueParser.TheVariants as vp
use Rattle.command_words.specs.Words.{number_in}
use Rattle.command_words.proofs.Taken.{IsCountWord, plain_from_head}

digits_back : (ds : List ℕ) → AllDigits 10 ds → list_all (λ d. nat_lt (digit_value d) 10) ds ≡ true
digits_back [] h = refl
digits_back (d ∷ ds) h = rw (lt-ltb (digit_value d) 10 h.0) (digits_back ds h.1)

numeral_test : (ds : List ℕ) → IsNumeral 10 ds → is_numeral ds ≡ true
numeral_test ds h = rw (lt-ltb 0 (length ds) h.0) (digits_back ds h.1)

-- a text whose first byte is a digit above 0 has no sign
signed_test : (b : ℕ) (w : List ℕ) (n : ℕ) → (b == 45) ≡ false → (b == 43) ≡ false → is_numeral (b ∷ w) ≡ true → digits_value 10 (b ∷ w) ≡ n
    → nat_lt n (2 ^ 63) ≡ true → nat_le 1 n ≡ true → nat_le n 100000 ≡ true → is_signed_in (pos 1) (pos 100000) (b ∷ w) ≡ true
signed_test b w n minus plus numeral value fits low high = rw (minus, plus, numeral, value, fits, low, high) refl

-- the number of a text that `parse` reads
pub a_number : (t : List ℕ) (n : ℕ) → IsNumeral 10 (without_leading_plus t) → n ≡ digits_value 10 (without_leading_plus t) → 1 ≤ n
    → n ≤ 100000 → number_in t ≡ Some n
unfolding number_in
a_number t n numeral value low high =
    let test : is_unsigned_in 1 100000 t ≡ true =
    Accepts-accepts false (vp.Unsigned 1 100000) t (numeral, omega arith, omega arith, omega arith) in
    rw test (ap Some (sym value))

-- one that it doesn't read has none
pub no_number : (t : List ℕ) → (IsNumeral 10 (without_leading_plus t) × (digits_value 10 (without_leading_plus t) < 2 ^ 32) → ⊥)
    → number_in t ≡ None
unfolding number_in
no_number t h = go (is_unsigned_in 1 100000 t) refl
  where
    go : (b : Bool) → is_unsigned_in 1 100000 t ≡ b
        → (if is_unsigned_in 1 100000 t then Some (digits_value 10 (without_leading_plus t)) else None) ≡ None
    go true e =
        let a = accepts-Accepts false (vp.Unsigned 1 100000) t e in
        absurd (h (a.0, omega (arith, a.3)))
    go false e = rw e refl

without_plus : (b : ℕ) (w : List ℕ) → (b == 43) ≡ false → without_leading_plus (b ∷ w) ≡ b ∷ w
without_plus b w plus = rw plus refl

-- what is known of the digits of a number
pub record IsNumberWord (n : ℕ) (w : List ℕ) : Type 0 where
  pub count : IsCountWord w
  pub number : number_in w ≡ Some n

of_digits : (n : ℕ) (t : List ℕ) → 1 ≤ n → n ≤ 100000 → 48 < slice_index t 0 → IsNumeral 10 t → digits_value 10 t ≡ n → IsNumberWord n t
of_digits n [] low high first numeral value = absurd (omega arith)
of_digits n (b ∷ w) low high first numeral value =
    let minus : (b == 45) ≡ false = ne_eqb b 45 (λ e. absurd (omega arith)) in
    let plus : (b == 43) ≡ false = ne_eqb b 43 (λ e. absurd (omega arith)) in
    let same = without_plus b w plus in
    let test = numeral_test (b ∷ w) numeral in
    let lows = le-leb 1 n low in
    let highs = le-leb n 100000 high in
    record {
      count = record {
        plain = plain_from_head b w minus;
        within = signed_test b w n minus plus test value (lt-ltb n (2 ^ 63) (omega arith)) lows highs;
      };
      number = a_number (b ∷ w) n (rw same numeral) (rw same (sym value)) low high;
    }

pub number_word : (n : ℕ) → 1 ≤ n → n ≤ 100000 → IsNumberWord n (decimal n)
number_word n low high =
    let fits : n < 2 ^ 64 = omega arith in
    let is = decimal_is_IsNumeral n fits in
    of_digits n (decimal n) low high (first_decimal n (omega arith) fits) is.0 is.1
