-- Lists of hits of distinct documents, in order, and the least of each document.
use Rattle.std.specs.Prelude.{◌≡◌, true, List, [], ◌∷◌, int_le}
use Rattle.tap_rows.specs.declared.results.Hit.{Hit}
use Rattle.tap_rows.specs.Kept.{In}
use Rattle.tap_rows.specs.Results.{is_before}

-- hits of distinct documents; InOrder: hits in order of second, then of number
abbrev pub HitsAreApart : List Hit → Type 0
HitsAreApart [] = Unit {0}
HitsAreApart (x ∷ xs) = ((y : Hit) → In y xs → y.doc.0 ≡ x.doc.0 → ⊥) × HitsAreApart xs

-- in order of second, then of number
abbrev pub InOrder : List Hit → Type 0
InOrder [] = Unit {0}
InOrder (x ∷ xs) = ((y : Hit) → In y xs → is_before x y ≡ true) × InOrder xs

-- the hits are the same, in another order
pub record HaveSame (hits others : List Hit) : Type 0 where
  pub to : (h : Hit) → In h hits → In h others
  pub back : (h : Hit) → In h others → In h hits
  pub apart : HitsAreApart others

-- one hit of each document among some hits, the least one
pub record AreLowest (Among : Hit → Type 0) (kept : List Hit) : Type 0 where
  pub among : (k : Hit) → In k kept → Among k
  pub least : (k y : Hit) → In k kept → Among y → y.doc.0 ≡ k.doc.0 → int_le k.first y.first ≡ true
  pub all : (y : Hit) → Among y → (k : Hit) × In k kept × (k.doc.0 ≡ y.doc.0)
  pub apart : HitsAreApart kept
