-- Texts that are the ends of others.
use Rattle.std.proofs.Common.{◌≡◌, ◌∙◌, sym, ap, arith, ℕ, List, [], ◌+◌, ◌-◌, take, drop, length, ◌≤◌}
use Rattle.std.proofs.lemmas.List.{drop_all, drop-drop, length-drop, take_rest}
use Rattle.tap_base.specs.Bytes.{IsEndOf}

pub whole-end : (text : List ℕ) → IsEndOf text text
whole-end text = let none : length text - length text ≡ 0 = omega arith in record {
  within = omega arith;
  bytes = ap (λ k. drop k text) none;
}

pub no-end : (text : List ℕ) → IsEndOf [] text
no-end text = record {
  within = omega arith;
  bytes = drop_all (length text - 0) text (omega arith);
}

-- what follows some bytes
pub end-from : (text : List ℕ) (n : ℕ) → n ≤ length text → IsEndOf (drop n text) text
end-from text n le =
    let len : length (drop n text) ≡ length text - n = length-drop n text in
    let place : length text - length (drop n text) ≡ n = omega (arith, len, le) in
    record {
      within = omega (arith, len);
      bytes = ap (λ k. drop k text) place;
    }

-- the same, as a slice from a place on shows
pub slice-end : (text : List ℕ) (n : ℕ) → n ≤ length text → IsEndOf (take (length text - n) (drop n text)) text
slice-end text n le = rw (take_rest text n) (end-from text n le)

-- the end of an end
pub end-of-end : (last rest text : List ℕ) → IsEndOf last rest → IsEndOf rest text → IsEndOf last text
end-of-end last rest text a b =
    let inner = a.within in
    let outer = b.within in
    let place : (length text - length rest) + (length rest - length last) ≡ length text - length last = omega (arith, inner, outer) in
    record {
      within = omega (arith, inner, outer);
      bytes = ap (λ k. drop k text) (sym place) ∙ sym (drop-drop (length rest - length last) (length text - length rest) text)
          ∙ ap (drop (length rest - length last)) b.bytes ∙ a.bytes;
    }
