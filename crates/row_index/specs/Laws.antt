-- The laws of what an index finds, as contracts name them.
use Rattle.std.specs.Prelude.{◌≡◌, ℕ, true, List, ◌∷◌}
use Rattle.tap_rows.specs.declared.rows.Doc.{Doc}
use Rattle.row_index.specs.declared.text_kind.TextKind.{TextKind}
use Rattle.row_index.specs.Orders.{InPlace, doc_number, doc_arrival}
use Rattle.row_index.specs.Texts.{is_single, texts_of, with_text}

-- two posting lists of one single kind, of documents `InPlace`, that begin with one document are the same
abbrev pub ListsOfOneKindAreApart : Type 0
ListsOfOneKindAreApart =
    (kind : TextKind) (t u : List ℕ) (docs : List Doc) (d e : Doc) (ds es : List Doc) → is_single kind ≡ true
    → InPlace doc_number doc_arrival docs
    → with_text (texts_of kind) t docs ≡ d ∷ ds → with_text (texts_of kind) u docs ≡ e ∷ es → d.num.0 ≡ e.num.0
    → with_text (texts_of kind) t docs ≡ with_text (texts_of kind) u docs
