-- Ballots: an author and a value. The ballots in order of the authors' first ones weigh what each author's last one does.
use Rattle.std.proofs.Common.{◌≡◌, ◌∙◌, refl, sym, ap, arith, ℕ, Bool, true, false, ℤ, pos, ◌+ℤ◌, List, [], ◌∷◌, length, fold}
use Rattle.std.proofs.Common.{if◌then◌else◌}
use Rattle.std.specs.Prelude.{◌||◌}
use Rattle.std.specs.List.{list_any}
use Rattle.std.specs.Str.{bytes_eq}
use Rattle.std.proofs.lemmas.Int.{ints}
use Rattle.std.proofs.lemmas.Bool.{true≢false, or_left}
use Rattle.tap_rows.proofs.Tests.{bytes_same, bytes_flip, pos_same}

abbrev pub Ballot : Type 0
Ballot = List ℕ × ℤ

-- is there a ballot of this author?
abbrev pub has : List ℕ → List Ballot → Bool
has author ballots = list_any (λ (b : Ballot). bytes_eq author b.0) ballots

-- the ballots with one more: its value in place of the author's, or at the end
abbrev pub put : Ballot → List Ballot → List Ballot
put new [] = new ∷ []
put new (b ∷ bs) = if bytes_eq new.0 b.0 then (b.0, new.1) ∷ bs else b ∷ put new bs

-- each author's last ballot
abbrev pub lasts : List Ballot → List Ballot
lasts [] = []
lasts (b ∷ bs) = if has b.0 bs then lasts bs else b ∷ lasts bs

-- no author has two
abbrev Unique : List Ballot → Type 0
Unique [] = Unit {0}
Unique (b ∷ bs) = (has b.0 bs ≡ false) × Unique bs

or_no : (a b : Bool) → a ≡ false → (a || b) ≡ b
or_no true b e = absurd (true≢false e)
or_no false b e = refl

or_first : (a b : Bool) → (a || b) ≡ false → a ≡ false
or_first true b e = absurd (true≢false e)
or_first false b e = refl

or_second : (a b : Bool) → (a || b) ≡ false → b ≡ false
or_second true b e = absurd (true≢false e)
or_second false b e = e

-- no author has two after one more

has_put : (author : List ℕ) (new : Ballot) (bs : List Ballot) → bytes_eq author new.0 ≡ false → has author bs ≡ false
    → has author (put new bs) ≡ false
has_put author new [] other none = or_no _ false other
has_put author new (b ∷ bs) other none = go (bytes_eq new.0 b.0) (has_put author new bs other (or_second _ _ none)) where
  go : (t : Bool) → has author (put new bs) ≡ false → has author (if t then (b.0, new.1) ∷ bs else b ∷ put new bs) ≡ false
  go true rest = none
  go false rest = or_no _ _ (or_first _ _ none) ∙ rest

put_unique : (new : Ballot) (bs : List Ballot) → Unique bs → Unique (put new bs)
put_unique new [] u = (refl, tt)
put_unique new (b ∷ bs) u = go (bytes_eq new.0 b.0) refl (put_unique new bs u.1) where
  go : (t : Bool) → bytes_eq new.0 b.0 ≡ t → Unique (put new bs) → Unique (if t then (b.0, new.1) ∷ bs else b ∷ put new bs)
  go true e rest = u
  go false e rest = (has_put b.0 new bs (bytes_flip b.0 new.0 ∙ e) u.0, rest)

module _ (weight : ℤ → ℤ) where
  -- what some ballots weigh
  abbrev pub weigh : List Ballot → ℤ
  weigh [] = pos 0
  weigh (b ∷ bs) = weight b.1 +ℤ weigh bs

  -- what those weigh whose authors have no later ballot
  abbrev rest : List Ballot → List Ballot → ℤ
  rest later [] = pos 0
  rest later (b ∷ bs) = if has b.0 later then rest later bs else weight b.1 +ℤ rest later bs

  -- what a ballot weighs if its author has no later one
  abbrev own : Ballot → List Ballot → ℤ
  own new later = if has new.0 later then pos 0 else weight new.1

  sum_nil : (x : ℤ) → x +ℤ pos 0 ≡ x
  sum_nil x = omega (arith, ints)

  nil_sum : (x : ℤ) → pos 0 +ℤ x ≡ x
  nil_sum x = omega (arith, ints)

  swapped : (x y z : ℤ) → x +ℤ (y +ℤ z) ≡ y +ℤ (x +ℤ z)
  swapped x y z = omega (arith, ints)

  -- an author who isn't among the ballots changes nothing
  unseen : (new : Ballot) (later bs : List Ballot) → has new.0 bs ≡ false → rest (new ∷ later) bs ≡ rest later bs
  unseen new later [] none = refl
  unseen new later (b ∷ bs) none =
      ap (λ t. if t then rest (new ∷ later) bs else weight b.1 +ℤ rest (new ∷ later) bs)
      (or_no _ _ (bytes_flip b.0 new.0 ∙ or_first _ _ none))
      ∙ ap (λ r. if has b.0 later then r else weight b.1 +ℤ r) (unseen new later bs (or_second _ _ none))

  -- one more ballot
  put_rest : (new : Ballot) (later bs : List Ballot) → Unique bs → rest later (put new bs) ≡ own new later +ℤ rest (new ∷ later) bs
  put_rest new later [] u = go (has new.0 later) where
    go : (t : Bool) → (if t then pos 0 else weight new.1 +ℤ pos 0) ≡ (if t then pos 0 else weight new.1) +ℤ pos 0
    go true = refl
    go false = refl
  put_rest new later (b ∷ bs) u = go (bytes_eq new.0 b.0) refl (put_rest new later bs u.1) where
    same : bytes_eq new.0 b.0 ≡ true → rest later ((b.0, new.1) ∷ bs) ≡ own new later +ℤ rest (new ∷ later) (b ∷ bs)
    same e = by (has b.0 later) (ap (λ a. has a later) (bytes_same new.0 b.0 e))
        (unseen new later bs (ap (λ a. has a bs) (bytes_same new.0 b.0 e) ∙ u.0)) where
          seen : rest (new ∷ later) (b ∷ bs) ≡ rest (new ∷ later) bs
          seen = ap (λ t. if t then rest (new ∷ later) bs else weight b.1 +ℤ rest (new ∷ later) bs) (or_left _ _ (bytes_flip b.0 new.0 ∙ e))

          by : (t : Bool) → has new.0 later ≡ t → rest (new ∷ later) bs ≡ rest later bs
              → (if t then rest later bs else weight new.1 +ℤ rest later bs) ≡ own new later +ℤ rest (new ∷ later) (b ∷ bs)
          by true h i = sym (ap (λ r. own new later +ℤ r) (seen ∙ i) ∙ ap (λ t. (if t then pos 0 else weight new.1) +ℤ rest later bs) h
              ∙ nil_sum (rest later bs))
          by false h i = sym (ap (λ r. own new later +ℤ r) (seen ∙ i) ∙ ap (λ t. (if t then pos 0 else weight new.1) +ℤ rest later bs) h)

    other : bytes_eq new.0 b.0 ≡ false → rest later (put new bs) ≡ own new later +ℤ rest (new ∷ later) bs
        → rest later (b ∷ put new bs) ≡ own new later +ℤ rest (new ∷ later) (b ∷ bs)
    other e i = by (has b.0 later) refl where
      unlike : rest (new ∷ later) (b ∷ bs) ≡ (if has b.0 later then rest (new ∷ later) bs else weight b.1 +ℤ rest (new ∷ later) bs)
      unlike = ap (λ t. if t then rest (new ∷ later) bs else weight b.1 +ℤ rest (new ∷ later) bs) (or_no _ _ (bytes_flip b.0 new.0 ∙ e))

      by : (t : Bool) → has b.0 later ≡ t → (if has b.0 later then rest later (put new bs) else weight b.1 +ℤ rest later (put new bs))
          ≡ own new later +ℤ rest (new ∷ later) (b ∷ bs)
      by true h = ap (λ t. if t then rest later (put new bs) else weight b.1 +ℤ rest later (put new bs)) h ∙ i ∙ sym
          (ap (λ r. own new later +ℤ r) (unlike ∙ ap (λ t. if t then rest (new ∷ later) bs else weight b.1 +ℤ rest (new ∷ later) bs) h))
      by false h =
          ap (λ t. if t then rest later (put new bs) else weight b.1 +ℤ rest later (put new bs)) h ∙ ap (λ r. weight b.1 +ℤ r) i
          ∙ swapped (weight b.1) (own new later) (rest (new ∷ later) bs)
          ∙ sym
          (ap (λ r. own new later +ℤ r) (unlike ∙ ap (λ t. if t then rest (new ∷ later) bs else weight b.1 +ℤ rest (new ∷ later) bs) h))

    go : (t : Bool) → bytes_eq new.0 b.0 ≡ t → rest later (put new bs) ≡ own new later +ℤ rest (new ∷ later) bs
        → rest later (if t then (b.0, new.1) ∷ bs else b ∷ put new bs) ≡ own new later +ℤ rest (new ∷ later) (b ∷ bs)
    go true e i = same e
    go false e i = other e i

  moved : (x y z : ℤ) → (x +ℤ y) +ℤ z ≡ y +ℤ (x +ℤ z)
  moved x y z = omega (arith, ints)

  all_from : (new bs : List Ballot) → Unique bs → rest [] (fold (λ done b. put b done) bs new) ≡ rest new bs +ℤ weigh (lasts new)
  all_from [] bs u = sym (sum_nil (rest [] bs))
  all_from (b ∷ new) bs u =
      all_from new (put b bs) (put_unique b bs u) ∙ ap (λ r. r +ℤ weigh (lasts new)) (put_rest b new bs u)
      ∙ moved (own b new) (rest (b ∷ new) bs) (weigh (lasts new)) ∙ ap (λ r. rest (b ∷ new) bs +ℤ r) (by (has b.0 new))
    where
      by : (t : Bool) → (if t then pos 0 else weight b.1) +ℤ weigh (lasts new) ≡ weigh (if t then lasts new else b ∷ lasts new)
      by true = nil_sum (weigh (lasts new))
      by false = refl

  all_rest : (bs : List Ballot) → rest [] bs ≡ weigh bs
  all_rest [] = refl
  all_rest (b ∷ bs) = ap (λ r. weight b.1 +ℤ r) (all_rest bs)

  -- the ballots after each of some in turn weigh what each author's last one does
  pub all_put : (new : List Ballot) → weigh (fold (λ done b. put b done) [] new) ≡ weigh (lasts new)
  all_put new = sym (all_rest (fold (λ done b. put b done) [] new)) ∙ all_from new [] tt ∙ nil_sum (weigh (lasts new))

-- the number of ballots

ones : (bs : List Ballot) → weigh (λ value. pos 1) bs ≡ pos (length bs)
ones [] = refl
ones (b ∷ bs) = let i = ones bs in omega (arith, ints, i)

-- and are as many
pub all_count : (new : List Ballot) → length (fold (λ done b. put b done) [] new) ≡ length (lasts new)
all_count new = pos_same _ _ (sym (ones (fold (λ done b. put b done) [] new)) ∙ all_put (λ value. pos 1) new ∙ ones (lasts new))
