-- The texts of letters.
use Rattle.std.proofs.Common.{ℕ, ◌≤◌, length, List, [], ◌∷◌, Bool, true, false, Some, cond, nat_eq, IfSome}
use Rattle.std.specs.List.{find}
use Rattle.std.specs.Option.{option_map}
use Rattle.tap_rows.specs.declared.rows.Doc.{Doc}
use Rattle.tap_rows.specs.Kept.{Each}
use Rattle.tap_engine.specs.Lists.{text_in}

-- the text of a document is one of the documents' texts
pub text-short : (docs : List Doc) (num : ℕ)
    → Each (λ doc. length doc.text ≤ 1048576) docs → IfSome (text_in num docs) (λ text. length text ≤ 1048576)
text-short [] num each = tt
text-short (doc ∷ docs) num each = go (text-short docs num each.1) (nat_eq doc.num.0 num) where
  go : IfSome (text_in num docs) (λ text. length text ≤ 1048576) → (b : Bool)
      → IfSome (option_map (λ (d : Doc). d.text) (cond b (Some doc) (find (λ (d : Doc). nat_eq d.num.0 num) docs))) (λ text.
      length text ≤ 1048576)
  go rest true = each.0
  go rest false = rest
