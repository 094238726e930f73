-- The CRs at a line's end, and the lines of a text without them.
use Rattle.std.proofs.Common.{◌≡◌, ◌∙◌, sym, ap, subst, refl, arith, ℕ, List, [], ◌∷◌, ◌++◌, ◌+◌, ◌-◌, ◌<◌, take, drop, length, map, get_or}
use Rattle.std.proofs.Common.{Bool, true, false}
use Rattle.std.specs.Prelude.{◌==◌, ◌&&◌, nat_eq, if◌then◌else◌, reverse, slice_index}
use Rattle.std.specs.Cmp.Lexicographic.{pointwise}
use Rattle.std.specs.List.{suffix_len, slice_split}
use Rattle.std.specs.Str.Lines.{lines, lines_of_parts, strip_carriage_return}
use Rattle.std.proofs.lemmas.List.{reverse-append, length-reverse, get_or-reverse, take_all, take-append-le, take_more, drop_more, drop_all}
use Rattle.std.proofs.lemmas.List.Sums.{prefix_len-drop_no}
use Rattle.std.proofs.lemmas.Grind.{common_steps}
use Rattle.mail_lines.specs.Lines.{is_end, without_empty_end}
use Rattle.mail_fields.specs.Digests.{without_returns, lined}

-- a line with one more CR
push-return : (xs : List ℕ) → without_returns (xs ++ 13 ∷ []) ≡ without_returns xs
push-return xs =
    let size : length (xs ++ 13 ∷ []) - (1 + suffix_len (λ b. b == 13) xs) ≡ length xs - suffix_len (λ b. b == 13) xs =
    grind (arith, common_steps) in
    rw (reverse-append xs (13 ∷ []), size) (take-append-le (length xs - suffix_len (λ b. b == 13) xs) xs (13 ∷ []) (omega arith))

-- a line and its last byte
last-of : (xs : List ℕ) → 0 < length xs → xs ≡ take (length xs - 1) xs ++ get_or xs (length xs - 1) 0 ∷ []
last-of xs some =
    let size : length xs - 1 + 1 ≡ length xs = omega arith in
    sym (take_all (length xs) xs (omega arith)) ∙ ap (λ n. take n xs) (sym size) ∙ take_more xs (length xs - 1) 0 (omega arith)

drop-last : (xs : List ℕ) → 0 < length xs → drop (length xs - 1) xs ≡ get_or xs (length xs - 1) 0 ∷ []
drop-last xs some = drop_more xs (length xs - 1) 0 (omega arith)
    ∙ ap (λ l. get_or xs (length xs - 1) 0 ∷ l) (drop_all (length xs - 1 + 1) xs (omega arith))

-- a line without the CR at its end
cut-return : (xs : List ℕ) → 0 < length xs → (get_or xs (length xs - 1) 0 == 13) ≡ true
    → without_returns (take (length xs - 1) xs) ≡ without_returns xs
cut-return xs some last =
    let is : get_or xs (length xs - 1) 0 ≡ 13 = grind (arith, last) in
    sym (push-return (take (length xs - 1) xs)) ∙ ap (λ b. without_returns (take (length xs - 1) xs ++ b ∷ [])) (sym is)
    ∙ ap without_returns (sym (last-of xs some))

-- a line without a CR at its end
no-return : (xs : List ℕ) → (get_or xs (length xs - 1) 0 == 13) ≡ false → without_returns xs ≡ xs
no-return [] last = refl
no-return (x ∷ xs) last =
    let first : get_or (reverse (x ∷ xs)) 0 0 ≡ get_or (x ∷ xs) (length (x ∷ xs) - 1) 0 = get_or-reverse (x ∷ xs) 0 0 (omega arith)
    ∙ ap (λ n. get_or (x ∷ xs) n 0) (omega arith) in
    let none : suffix_len (λ b. b == 13) (x ∷ xs) ≡ 0 = prefix_len-drop_no (λ b. b == 13) (reverse (x ∷ xs)) 0 0
    (grind (arith, length-reverse (x ∷ xs))) (ap (λ b. b == 13) first ∙ last) in
    rw none (take_all (length (x ∷ xs) - 0) (x ∷ xs) (omega arith))

-- the same, by the suffix that is looked for
abbrev ends-in : List ℕ → Bool
ends-in xs = pointwise nat_eq (drop (length xs - 1) xs) (13 ∷ [])

ends-last : (xs : List ℕ) (b : Bool) → 0 < length xs → ends-in xs ≡ b → (get_or xs (length xs - 1) 0 == 13) ≡ b
ends-last xs b some e = sym (both (get_or xs (length xs - 1) 0 == 13)) ∙ sym (ap (λ l. pointwise nat_eq l (13 ∷ [])) (drop-last xs some))
    ∙ e where
      both : (t : Bool) → (t && true) ≡ t
      both true = refl
      both false = refl

one-end : (xs : List ℕ) → ends-in xs ≡ true → without_returns (take (length xs - 1) xs) ≡ without_returns xs
one-end [] e = absurd (grind (arith, e))
one-end (x ∷ xs) e = cut-return (x ∷ xs) (omega arith) (ends-last (x ∷ xs) true (omega arith) e)

no-end : (xs : List ℕ) → ends-in xs ≡ false → without_returns xs ≡ xs
no-end [] e = refl
no-end (x ∷ xs) e = no-return (x ∷ xs) (ends-last (x ∷ xs) false (omega arith) e)

pub one-cut : (xs front end : List ℕ) → end ≡ 13 ∷ [] → pointwise nat_eq (drop (length xs - length end) xs) end ≡ true
    → front ≡ take (length xs - length end) xs → without_returns front ≡ without_returns xs
one-cut xs front end is e cut =
    ap without_returns (cut ∙ ap (λ l. take (length xs - length l) xs) is)
    ∙ one-end xs (subst (λ l. pointwise nat_eq (drop (length xs - length l) xs) l ≡ true) is e)

pub none-cut : (xs end : List ℕ) → end ≡ 13 ∷ [] → pointwise nat_eq (drop (length xs - length end) xs) end ≡ false → without_returns xs ≡ xs
none-cut xs end is e = no-end xs (subst (λ l. pointwise nat_eq (drop (length xs - length l) xs) l ≡ false) is e)

-- a line from which one CR is cut first
strip-first : (xs : List ℕ) → without_returns (strip_carriage_return xs) ≡ without_returns xs
strip-first [] = refl
strip-first (x ∷ xs) = go (slice_index (x ∷ xs) (length (x ∷ xs) - 1) == 13) refl where
  go : (b : Bool) → (slice_index (x ∷ xs) (length (x ∷ xs) - 1) == 13) ≡ b
      → without_returns (if b then take (length (x ∷ xs) - 1) (x ∷ xs) else x ∷ xs) ≡ without_returns (x ∷ xs)
  go true e = cut-return (x ∷ xs) (omega arith) e
  go false e = refl

-- the lines are those of `lines`, each without all CRs at its end
pub lined-lines : (text : List ℕ) → lined text ≡ map without_returns (lines text)
lined-lines text = by_parts (slice_split is_end text) where
  by_parts : (xs : List (List ℕ)) → map without_returns (without_empty_end xs) ≡ map without_returns (lines_of_parts xs)
  by_parts [] = refl
  by_parts (x ∷ []) = refl
  by_parts (x ∷ y ∷ more) = ap (λ l. l ∷ map without_returns (without_empty_end (y ∷ more))) (sym (strip-first x))
      ∙ ap (λ ls. without_returns (strip_carriage_return x) ∷ ls) (by_parts (y ∷ more))

-- the first line and the rest
pub first-of : (text line rest : List ℕ) → lines text ≡ line ∷ lines rest → lined text ≡ without_returns line ∷ lined rest
first-of text line rest e = lined-lines text ∙ ap (map without_returns) e ∙ ap (λ ls. without_returns line ∷ ls) (sym (lined-lines rest))
