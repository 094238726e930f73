-- A text is one of some words, by their bytes or by their order.
use Rattle.std.proofs.Common.{◌≡◌, ◌∙◌, sym, ap, refl, ℕ, List, [], ◌∷◌, Bool}
use Rattle.std.specs.Prelude.{◌||◌}
use Rattle.std.specs.List.{list_any}
use Rattle.std.specs.Ordering.{is_eq}
use Rattle.std.specs.Str.{bytes_eq}
use Rattle.std.specs.Cmp.{nat_eq_equiv}
use Rattle.std.specs.Cmp.Lexicographic.{lists_equiv}
use Rattle.std.proofs.lemmas.Map.Text.{is_eq-slice_cmp}
use Rattle.tap_base.specs.Words.{has_text}
use Rattle.tql_core.specs.Values.{text_cmp}

one-same : (x t : List ℕ) → bytes_eq t x ≡ is_eq (text_cmp x t)
one-same x t = (lists_equiv nat_eq_equiv).symm t x ∙ sym (is_eq-slice_cmp x t)

pub held-same : (xs : List (List ℕ)) (t : List ℕ) → has_text xs t ≡ list_any (λ x. is_eq (text_cmp x t)) xs
held-same [] t = refl
held-same (x ∷ xs) t = ap (λ b. b || has_text xs t) (one-same x t) ∙ ap (λ b. is_eq (text_cmp x t) || b) (held-same xs t)
