-- The first word of a text from a place on.
use Rattle.std.proofs.Common.{◌≡◌, ◌∙◌, sym, ap, arith, min, ℕ, List, ◌∷◌, ◌+◌, ◌-◌, take, drop, length, ◌≤◌, ◌<◌}
use Rattle.std.specs.List.{position_or_len}
use Rattle.std.specs.Str.{str_to_ascii_lowercase}
use Rattle.std.proofs.lemmas.List.{length-drop, length-take-le, drop-drop, drop_min}
use Rattle.tap_base.specs.Words.{words, word_from, run_from}
use Rattle.tap_base.proofs.Added.{ends_word}
use Rattle.tap_base.proofs.WordCuts.{IsLow, words-skip, words-begin, low-take, low-drop, low-lowered}

-- there is none at the place
pub skip-from : (text : List ℕ) (start n : ℕ) → n ≡ position_or_len ends_word (drop start text) → n ≡ 0
    → words (drop start text) ≡ words (drop (start + 1) text)
skip-from text start n e none = words-skip (drop start text) n e none ∙ ap words (drop-drop 1 start text)

-- there is one
pub begin-from : (text : List ℕ) (start n next : ℕ) → n ≡ position_or_len ends_word (drop start text) → 0 < n → start + n ≤ length text
    → next ≡ min (start + n + 1) (length text) → words (drop start text) ≡ word_from text start ∷ words (drop next text)
begin-from text start n next e some le is =
    let rest : length (drop start text) ≡ length text - start = length-drop start text in
    let len : length (take n (drop start text)) ≡ n = length-take-le n (drop start text) (omega (arith, rest, le)) in
    let place : start + (n + 1) ≡ start + n + 1 = omega arith in
    let behind : drop (n + 1) (drop start text) ≡ drop next text = drop-drop (n + 1) start text ∙ ap (λ k. drop k text) place
    ∙ sym (drop_min (start + n + 1) text) ∙ ap (λ k. drop k text) (sym is) in
    words-begin (drop start text) n e (omega (arith, len, some))
    ∙ ap (λ k. str_to_ascii_lowercase (take k (drop start text)) ∷ words (drop (n + 1) (drop start text))) e
    ∙ ap (λ left. word_from text start ∷ words left) behind

pub run-is : (text : List ℕ) (start n end : ℕ) → n ≡ position_or_len ends_word (drop start text) → end ≡ start + n
    → take (end - start) (drop start text) ≡ run_from text start
run-is text start n end e is = let len : end - start ≡ n = omega (arith, is) in ap (λ k. take k (drop start text)) (len ∙ e)

-- the same behind a place of a longer text
pub run-behind : (text : List ℕ) (at start : ℕ) → run_from (drop at text) start ≡ run_from text (at + start)
run-behind text at start = ap (λ xs. take (position_or_len ends_word xs) xs) (drop-drop start at text)

pub range-behind : (text : List ℕ) (at start end : ℕ)
    → take (end - start) (drop start (drop at text)) ≡ take (at + end - (at + start)) (drop (at + start) text)
range-behind text at start end =
    let len : end - start ≡ at + end - (at + start) = omega arith in
    ap (λ k. take k (drop start (drop at text))) len ∙ ap (take (at + end - (at + start))) (drop-drop start at text)

-- in a lowered text a word is its run
pub low-word : (text : List ℕ) (at : ℕ) → IsLow text → word_from text at ≡ run_from text at
low-word text at low = low-take (drop at text) (position_or_len ends_word (drop at text)) (low-drop text at low)

-- the next word of a lowered text from a place on
pub next-word : (lowered front text : List ℕ) (next start end after : ℕ) → lowered ≡ str_to_ascii_lowercase front
    → text ≡ drop next lowered → words text ≡ word_from text start ∷ words (drop after text)
    → take (end - start) (drop start text) ≡ run_from text start
    → words (drop next lowered) ≡ take (next + end - (next + start)) (drop (next + start) lowered) ∷ words (drop (next + after) lowered)
next-word lowered front text next start end after low is some run =
    let whole : IsLow lowered = ap str_to_ascii_lowercase low ∙ low-lowered front ∙ sym low in
    let word : word_from text start ≡ take (next + end - (next + start)) (drop (next + start) lowered) =
    ap (λ xs. word_from xs start) is ∙ low-word (drop next lowered) start (low-drop lowered next whole)
    ∙ ap (λ xs. run_from xs start) (sym is) ∙ sym run ∙ ap (λ xs. take (end - start) (drop start xs)) is
    ∙ range-behind lowered next start end in
    let rest : words (drop after text) ≡ words (drop (next + after) lowered) =
    ap (λ xs. words (drop after xs)) is ∙ ap words (drop-drop after next lowered) in
    sym (ap words is) ∙ some ∙ ap (λ w. w ∷ words (drop after text)) word
    ∙ ap (λ ws. take (next + end - (next + start)) (drop (next + start) lowered) ∷ ws) rest
