-- How large the lines of a text can be.
use Rattle.std.proofs.Common.{◌≡◌, ◌∙◌, sym, ap, subst, refl, arith, ℕ, suc, List, [], ◌∷◌, ◌++◌, ◌+◌, ◌-◌, ◌*◌, ◌≤◌, ◌<◌, drop, length}
use Rattle.std.proofs.Common.{map, get_or, Bool, true, false}
use Rattle.std.specs.Prelude.{◌==◌, if◌then◌else◌}
use Rattle.std.specs.List.{flat_map, onto_first, suffix_len}
use Rattle.std.proofs.lemmas.List.{length-append, length-take}
use Rattle.std.proofs.Math.Seq.{drop-cons}
use Rattle.mail_lines.specs.Lines.{is_end, parts, without_empty_end}
use Rattle.mail_lines.proofs.Ends.{HasFirst, has_first}
use Rattle.mail_fields.specs.Digests.{lined, without_returns}
use Rattle.pop_session.specs.declared.letter.Letter.{Letter}
use Rattle.pop_session.specs.Letters.{crlf_line, size_of, total_size}
use Rattle.pop_session.specs.Sessions.{AreShort}

-- how many bytes some parts have, with the LFs between them
weight : List (List ℕ) → ℕ
weight [] = 0
weight (p ∷ []) = length p
weight (p ∷ q ∷ ps) = length p + 1 + weight (q ∷ ps)

weight-onto : (x : ℕ) (p : List ℕ) (ps : List (List ℕ)) → weight (onto_first x (p ∷ ps)) ≡ suc (weight (p ∷ ps))
unfolding weight
weight-onto x p [] = refl
weight-onto x p (q ∷ ps) = more (length p) (weight (q ∷ ps)) where
  more : (a b : ℕ) → suc a + 1 + b ≡ suc (a + 1 + b)
  more a b = omega arith

parts-weight : (xs : List ℕ) → weight (parts xs) ≡ length xs
unfolding weight
parts-weight [] = refl
parts-weight (x ∷ xs) = go (is_end x) (has_first xs) (parts-weight xs) where
  go : (b : Bool) → HasFirst (parts xs) → weight (parts xs) ≡ length xs
      → weight (if b then [] ∷ parts xs else onto_first x (parts xs)) ≡ suc (length xs)
  go true h e = rw h.is (one (weight (h.part ∷ h.more)) ∙ ap suc (subst (λ ps. weight ps ≡ length xs) h.is e)) where
    one : (n : ℕ) → 0 + 1 + n ≡ suc n
    one n = omega arith
  go false h e = rw h.is (weight-onto x h.part h.more ∙ ap suc (subst (λ ps. weight ps ≡ length xs) h.is e))

-- a line is no longer than its part
shorter : (p : List ℕ) → length (without_returns p) ≤ length p
shorter p = let l = length-take (length p - suffix_len (λ b. b == 13) p) p in omega arith

line-size : (p : List ℕ) → length (crlf_line (without_returns p)) ≤ length p + 2
line-size p =
    let s = shorter p in
    let l : length (without_returns p ++ 13 ∷ 10 ∷ []) ≡ length (without_returns p) + 2 =
    length-append (without_returns p) (13 ∷ 10 ∷ []) in
    omega arith

abbrev all-lines : List (List ℕ) → List ℕ
all-lines ps = flat_map crlf_line (map without_returns (without_empty_end ps))

parts-size : (ps : List (List ℕ)) → length (all-lines ps) ≤ 3 * weight ps
unfolding weight
parts-size [] = omega arith
parts-size (p ∷ []) = go (length p == 0) refl where
  go : (b : Bool) → (length p == 0) ≡ b → length (flat_map crlf_line (map without_returns (if b then [] else p ∷ []))) ≤ 3 * length p
  go true e = omega arith
  go false e =
      let some : 0 < length p = grind (arith, e) in
      let s = line-size p in
      let l : length (crlf_line (without_returns p) ++ []) ≡ length (crlf_line (without_returns p)) + 0 =
      length-append (crlf_line (without_returns p)) [] in
      omega arith
parts-size (p ∷ q ∷ ps) =
    let more = parts-size (q ∷ ps) in
    let s = line-size p in
    let l = length-append (crlf_line (without_returns p)) (all-lines (q ∷ ps)) in
    omega arith

-- the size of a text is at most three times its length
pub size-within : (text : List ℕ) → size_of text ≤ 3 * length text
size-within text = let s = parts-size (parts text) in let w = parts-weight text in omega arith

pub size-short : (text : List ℕ) → length text ≤ 1048576 → size_of text ≤ 3145728
size-short text le = let s = size-within text in omega arith

-- the size of some lines is that of the first and that of the others
pub size-more : (text line rest : List ℕ) → lined text ≡ line ∷ lined rest → size_of text ≡ length line + 2 + size_of rest
size-more text first rest e =
    ap (λ ls. length (flat_map crlf_line ls)) e
    ∙ length-append (crlf_line first) (flat_map crlf_line (lined rest))
    ∙ ap (λ n. n + size_of rest) (length-append first (13 ∷ 10 ∷ []))

rest-short : (l : Letter) (letters : List Letter) → AreShort (l ∷ letters) → AreShort letters
rest-short l letters short k d lt = short (suc k) d (omega arith)

pub total-within : (letters : List Letter) → AreShort letters → total_size letters ≤ 3145728 * length letters
total-within [] short = omega arith
total-within (l ∷ letters) short =
    let one = size-short l.text (short 0 l (omega arith)) in
    let more = total-within letters (rest-short l letters short) in
    omega arith

-- the letters from here on
pub total-next : (letters : List Letter) (i : ℕ) (letter : Letter)
    → i < length letters → letter ≡ get_or letters i letter
    → total_size (drop i letters) ≡ size_of letter.text + total_size (drop (i + 1) letters)
total-next letters i letter lt is =
    let one : suc i ≡ i + 1 = omega arith in
    ap total_size (drop-cons letters i letter lt)
    ∙ ap (λ l. size_of l.text + total_size (drop (suc i) letters)) (sym is)
    ∙ ap (λ k. size_of letter.text + total_size (drop k letters)) one

-- nothing so far
pub from-zero : (n : ℕ) → n ≡ 0 + n
from-zero n = omega arith
