-- Places in order are cut in two by a comparison.
use Rattle.std.proofs.Common.{◌≡◌, ℕ, ℤ, Bool, true, false, not, List, refl, arith, sym, filter}
use Rattle.std.specs.Prelude.{int_le}
use Rattle.std.specs.List.Sorted.{IsPartitionedBy}
use Rattle.std.proofs.lemmas.Int.{ints}
use Rattle.std.proofs.lemmas.Bool.{false≢true}
use Rattle.std.proofs.lemmas.List.Elements.{filter_agree}
use Rattle.tap_rows.specs.declared.rows.Doc.{Doc}
use Rattle.row_index.specs.declared.cut.Limit.{Limit}
use Rattle.row_index.specs.declared.cut.Limit.TheVariants.{Below, UpTo, From, Above}
use Rattle.row_index.specs.declared.cut.ListCut.{ListCut}
use Rattle.row_index.specs.Orders.{IsRisingBy}
use Rattle.row_index.specs.Cuts.{passes, is_front, place_rank_by, keeps_place}
use Rattle.row_index.proofs.Halves.{rising_at}

-- what isn't greater than what passes passes too
passes_down : (limit : Limit) (x y bound : ℤ) → is_front limit ≡ true → int_le x y ≡ true → passes limit bound y ≡ true
    → passes limit bound x ≡ true
passes_down Below x y bound f h k = grind (arith, ints)
passes_down UpTo x y bound f h k = grind (arith, ints)
passes_down From x y bound f h k = absurd (false≢true f)
passes_down Above x y bound f h k = absurd (false≢true f)

fails_down : (limit : Limit) (x y bound : ℤ) → is_front limit ≡ false → int_le x y ≡ true → not (passes limit bound y) ≡ true
    → not (passes limit bound x) ≡ true
fails_down Below x y bound f h k = absurd (false≢true (sym f))
fails_down UpTo x y bound f h k = absurd (false≢true (sym f))
fails_down From x y bound f h k = grind (arith, ints)
fails_down Above x y bound f h k = grind (arith, ints)

module _ (docs : List Doc) (cut : ListCut) where
  pub kept_first : (places : List ℕ) → IsRisingBy (place_rank_by cut.order docs) places → is_front cut.limit ≡ true
      → IsPartitionedBy (keeps_place docs cut) places
  kept_first places r f i j d a w h = passes_down cut.limit _ _ cut.bound f (rising_at (place_rank_by cut.order docs) places i j d r a w) h

  pub left_first : (places : List ℕ) → IsRisingBy (place_rank_by cut.order docs) places → is_front cut.limit ≡ false
      → IsPartitionedBy (λ place. not (keeps_place docs cut place)) places
  left_first places r f i j d a w h = fails_down cut.limit _ _ cut.bound f (rising_at (place_rank_by cut.order docs) places i j d r a w) h

-- what isn't left out is left in
pub kept_again : (test : ℕ → Bool) (places : List ℕ) → filter (λ place. not (not (test place))) places ≡ filter test places
kept_again test places = filter_agree (λ place. not (not (test place))) test (λ place. twice (test place)) places
  where
    twice : (b : Bool) → not (not b) ≡ b
    twice true = refl
    twice false = refl
