-- What is stored of a source says the same, and its text stands from a place on.
use Rattle.std.proofs.Common.{◌≡◌, ◌∙◌, sym, ap, refl, arith, ℕ, zero, suc, ◌+◌, ◌-◌, List, [], ◌∷◌, ◌++◌, length, drop, Bool, true, false}
use Rattle.std.proofs.Common.{if◌then◌else◌}
use Rattle.std.specs.Prelude.{codes, min}
use Rattle.std.specs.List.{prefix_len, position_or_len}
use Rattle.std.proofs.Math.Seq.{drop-nil}
use Rattle.std.proofs.lemmas.List.{length-drop, drop_min}
use Rattle.tap_base.specs.Bytes.{is_blank}
use Rattle.tap_base.specs.LineWords.{after_words, after_blanks, after_word}
use Rattle.restart_core.specs.Starts.{is_from_now, condition_text, stored_source}

-- blanks are skipped once
skipped-once : (text : List ℕ) → after_blanks (after_blanks text) ≡ after_blanks text
skipped-once [] = refl
skipped-once (b ∷ text) = go (is_blank b) refl (skipped-once text) where
  one-more : (n : ℕ) → 1 + n ≡ suc n
  one-more n = omega arith

  go : (x : Bool) → is_blank b ≡ x → after_blanks (after_blanks text) ≡ after_blanks text
      → after_blanks (after_blanks (b ∷ text)) ≡ after_blanks (b ∷ text)
  go true e rest = rw (e, one-more (prefix_len is_blank text)) rest
  go false e rest = rw e (rw e refl)

-- the words FROM and NOW begin a text that is from now
from-stored : (text : List ℕ) → is_from_now (codes "FROM NOW " ++ text) ≡ true
unfolding is_from_now
from-stored text = refl

two-words : (text : List ℕ) → after_words 2 (codes "FROM NOW " ++ text) ≡ after_blanks text
two-words text = rw (one-more (prefix_len is_blank text)) refl where
  one-more : (n : ℕ) → 1 + n ≡ suc n
  one-more n = omega arith

text-stored : (text : List ℕ) → condition_text (codes "FROM NOW " ++ text) ≡ after_blanks text
unfolding condition_text
text-stored text = ap (λ b. if b then after_words 2 (codes "FROM NOW " ++ text) else codes "FROM NOW " ++ text) (from-stored text)
    ∙ two-words text

-- a source by whether it is from now
stored-now : (source : List ℕ) → is_from_now source ≡ true → stored_source source ≡ codes "FROM NOW " ++ condition_text source
unfolding stored_source
stored-now source e = ap (λ b. if b then codes "FROM NOW " ++ condition_text source else source) e

stored-else : (source : List ℕ) → is_from_now source ≡ false → stored_source source ≡ source
unfolding stored_source
stored-else source e = ap (λ b. if b then codes "FROM NOW " ++ condition_text source else source) e

text-now : (source : List ℕ) → is_from_now source ≡ true → condition_text source ≡ after_words 2 source
unfolding condition_text
text-now source e = ap (λ b. if b then after_words 2 source else source) e

text-else : (source : List ℕ) → is_from_now source ≡ false → condition_text source ≡ source
unfolding condition_text
text-else source e = ap (λ b. if b then after_words 2 source else source) e

pub stored-start : (source : List ℕ) → is_from_now (stored_source source) ≡ is_from_now source
stored-start source = go (is_from_now source) refl where
  go : (b : Bool) → is_from_now source ≡ b → is_from_now (stored_source source) ≡ is_from_now source
  go true e = ap is_from_now (stored-now source e) ∙ from-stored (condition_text source) ∙ sym e
  go false e = ap is_from_now (stored-else source e)

pub stored-text : (source : List ℕ) → condition_text (stored_source source) ≡ condition_text source
stored-text source = go (is_from_now source) refl where
  go : (b : Bool) → is_from_now source ≡ b → condition_text (stored_source source) ≡ condition_text source
  go true e =
      ap condition_text (stored-now source e) ∙ text-stored (condition_text source) ∙ ap after_blanks (text-now source e)
      ∙ skipped-once (after_word (after_words 1 source)) ∙ sym (text-now source e)
  go false e = ap condition_text (stored-else source e)

-- an end of a text: what follows its first n bytes
pub record End (text rest : List ℕ) : Type 0 where
  pub n : ℕ
  pub is : drop n text ≡ rest

drop-more : (n m : ℕ) (text : List ℕ) → drop m (drop n text) ≡ drop (n + m) text
drop-more zero m text = ap (λ k. drop k text) (plain m) where
  plain : (m : ℕ) → m ≡ 0 + m
  plain m = omega arith
drop-more (suc n) m [] = drop-nil m ∙ sym (drop-nil (suc n + m))
drop-more (suc n) m (b ∷ text) = drop-more n m text ∙ ap (λ k. drop k (b ∷ text)) (up n m) where
  up : (n m : ℕ) → suc (n + m) ≡ suc n + m
  up n m = omega arith

end-drop : (m : ℕ) (text rest : List ℕ) → End text rest → End text (drop m rest)
end-drop m text rest end = record { n = end.n + m; is = sym (drop-more end.n m text) ∙ ap (drop m) end.is }

-- it stands from the place on that leaves that many bytes
place-is : (text rest : List ℕ) → End text rest → drop (length text - length rest) text ≡ rest
place-is text rest end =
    let len : length rest ≡ length text - end.n = ap length (sym end.is) ∙ length-drop end.n text in
    ap (λ k. drop k text) (least (length text) (length rest) end.n len) ∙ drop_min end.n text ∙ end.is
  where
    least : (a b n : ℕ) → b ≡ a - n → a - b ≡ min n a
    least a b n e = omega (arith, e)

two-end : (source : List ℕ) → End source (after_words 2 source)
two-end source =
    let e0 : End source source = record { n = 0; is = refl } in
    let e1 = end-drop (prefix_len is_blank source) source source e0 in
    let e2 = end-drop (position_or_len is_blank (after_words 0 source)) source (after_words 0 source) e1 in
    let e3 = end-drop (prefix_len is_blank (after_word (after_words 0 source))) source (after_word (after_words 0 source)) e2 in
    let e4 = end-drop (position_or_len is_blank (after_words 1 source)) source (after_words 1 source) e3 in
    end-drop (prefix_len is_blank (after_word (after_words 1 source))) source (after_word (after_words 1 source)) e4

-- the text of a source that is from now
pub text-at : (source rest : List ℕ) → rest ≡ after_words 2 source → is_from_now source ≡ true
    → drop (length source - length rest) source ≡ condition_text source
text-at source rest is now =
    let end = two-end source in
    place-is source rest (record { n = end.n; is = end.is ∙ sym is }) ∙ is ∙ sym (text-now source now)
