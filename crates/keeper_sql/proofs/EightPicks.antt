-- Picks that are inserted eight at a time.
use Rattle.std.proofs.Common.{◌≡◌, ◌∙◌, sym, ap, refl, arith, ℕ, zero, suc, List, [], ◌∷◌, ◌++◌, ◌+◌, ◌-◌, ◌*◌, ◌≤◌, map, take, drop}
use Rattle.std.proofs.Common.{length, subst, Ok, slice_set, append_assoc}
use Rattle.std.specs.List.{flat_map}
use Rattle.std.proofs.lemmas.List.{map-append, take-map, drop-map, take_all, take-append-drop, length-append, length-drop, length-take-le}
use Rattle.std.proofs.lemmas.List.{take_rest, get_or-drop}
use Rattle.std.proofs.lemmas.Grind.{flat_map-append}
use Rattle.std.proofs.Math.Seq.{take-append_seam, take-append-add}
use Rattle.tap_rows.specs.declared.rows.Pick.{Pick}
use Rattle.sqlite_value.specs.Order.{Row}
use Rattle.sqlite.specs.declared.error.Error.{Error}
use Rattle.sqlite.specs.State.{State, Executes}
use Rattle.keeper_sql.specs.RowsAsValues.{given_pick, as_kept, pick_in}
use Rattle.keeper_sql.specs.Schema.{store_schema, insert_eight, insert_pick}
use Rattle.keeper_sql.specs.Failing.{FailsToInsert}
use Rattle.keeper_sql.specs.Store.{only, Puts}
use Rattle.keeper_sql.proofs.InsertEight.{puts_eight}

abbrev pub row_of : Pick → Row
row_of pick = as_kept (given_pick pick)

-- eight of them, each by itself
abbrev pub HoldsOfEight : (List Pick → Type 0) → Type 0
HoldsOfEight P = (a b c d e f g h : Pick) → P (a ∷ b ∷ c ∷ d ∷ e ∷ f ∷ g ∷ h ∷ [])

eight_all : (P : List Pick → Type 0) → HoldsOfEight P → (picks : List Pick) → length picks ≡ 8 → P picks
eight_all P all (a ∷ b ∷ c ∷ d ∷ e ∷ f ∷ g ∷ h ∷ []) is = all a b c d e f g h
eight_all P all [] is = absurd (omega (arith, is))
eight_all P all (a ∷ []) is = absurd (omega (arith, is))
eight_all P all (a ∷ b ∷ []) is = absurd (omega (arith, is))
eight_all P all (a ∷ b ∷ c ∷ []) is = absurd (omega (arith, is))
eight_all P all (a ∷ b ∷ c ∷ d ∷ []) is = absurd (omega (arith, is))
eight_all P all (a ∷ b ∷ c ∷ d ∷ e ∷ []) is = absurd (omega (arith, is))
eight_all P all (a ∷ b ∷ c ∷ d ∷ e ∷ f ∷ []) is = absurd (omega (arith, is))
eight_all P all (a ∷ b ∷ c ∷ d ∷ e ∷ f ∷ g ∷ []) is = absurd (omega (arith, is))
eight_all P all (a ∷ b ∷ c ∷ d ∷ e ∷ f ∷ g ∷ h ∷ i ∷ picks) is = absurd (omega (arith, is))

pub puts_picks : (old new : State) (picks : List Pick) (count : ℕ) → length picks ≡ 8 → old.now.schema ≡ store_schema
    → Executes insert_eight (flat_map given_pick picks) old new (Ok count) → Puts (only 5 (map row_of picks)) old.now new.now
puts_picks old new picks count is has ran =
    eight_all (λ ps. Executes insert_eight (flat_map given_pick ps) old new (Ok count) → Puts (only 5 (map row_of ps)) old.now new.now)
    (λ a b c d e f g h. puts_eight old new a b c d e f g h count has) picks is ran

-- the parameters of one more
pub given_more : (old new : Row) (at i : ℕ) (picks : List Pick) (pick : Pick) → at + 5 ≤ length old
    → new ≡ take at old ++ given_pick pick ++ drop (at + 5) old
    → take at old ≡ flat_map given_pick (take i picks) → take (i + 1) picks ≡ take i picks ++ pick ∷ []
    → take (at + 5) new ≡ flat_map given_pick (take (i + 1) picks)
given_more old new at i picks pick fits is before more =
    let front = take at old ++ given_pick pick in
    let len : length front ≡ at + 5 = length-append (take at old) (given_pick pick)
    ∙ ap (λ n. n + 5) (length-take-le at old (omega (arith, fits))) in
    ap (λ row. take (at + 5) row) is ∙ ap (λ n. take n (front ++ drop (at + 5) old)) (sym len) ∙ take-append_seam front (drop (at + 5) old)
    ∙ ap (λ row. row ++ given_pick pick) before
    ∙ sym (ap (flat_map given_pick) more ∙ flat_map-append given_pick (take i picks) (pick ∷ []))

-- the first and the next eight
pub eight_more : (picks : List Pick) (n : ℕ) → n + 8 ≤ length picks → take (n + 8) picks ≡ take n picks ++ take 8 (drop n picks)
eight_more picks n le = ap (λ ps. take (n + 8) ps) (sym (take-append-drop n picks))
    ∙ ap (λ k. take (k + 8) (take n picks ++ drop n picks)) (sym (length-take-le n picks (omega (arith, le))))
    ∙ take-append-add (take n picks) (drop n picks) 8

pub eight_range : (picks : List Pick) (n : ℕ) → n + 8 ≤ length picks
    → take (n + 8) picks ≡ take n picks ++ take (n + 8 - n) (drop n picks)
eight_range picks n le =
    let len : 8 ≡ n + 8 - n = omega arith in
    eight_more picks n le ∙ ap (λ k. take n picks ++ take k (drop n picks)) len

pub rest_more : (picks : List Pick) (n : ℕ) → picks ≡ take n picks ++ take (length picks - n) (drop n picks)
rest_more picks n = sym (ap (λ ps. take n picks ++ ps) (take_rest picks n) ∙ take-append-drop n picks)

-- one of those that are left is one of all
pub one_of_rest : (picks : List Pick) (n : ℕ) (old new : State) (e : Error)
    → FailsToInsert insert_pick given_pick (take (length picks - n) (drop n picks)) old new e
    → FailsToInsert insert_pick given_pick picks old new e
one_of_rest picks n old new e h =
    go (subst (λ ps. FailsToInsert insert_pick given_pick ps old new e) (take_rest picks n) h) where
      go : FailsToInsert insert_pick given_pick (drop n picks) old new e → FailsToInsert insert_pick given_pick picks old new e
      go (pick, (i, lt, is), failed) =
          let len = length-drop n picks in
          (pick, (n + i, omega (arith, lt, len), is ∙ get_or-drop n picks i pick), failed)

-- the same for those so far
pub given_next : (old new : Row) (i : ℕ) (picks : List Pick) (pick : Pick) → 5 * i + 5 ≤ length old
    → new ≡ take (5 * i) old ++ given_pick pick ++ drop (5 * i + 5) old
    → take (5 * i) old ≡ flat_map given_pick (take i picks) → take (i + 1) picks ≡ take i picks ++ pick ∷ []
    → take (5 * (i + 1)) new ≡ flat_map given_pick (take (i + 1) picks)
given_next old new i picks pick fits is before more =
    let place : 5 * (i + 1) ≡ 5 * i + 5 = omega arith in
    ap (λ k. take k new) place ∙ given_more old new (5 * i) i picks pick fits is before more

pub given_all : (row : Row) (i : ℕ) (picks : List Pick) → length row ≤ 5 * i → length picks ≤ i
    → take (5 * i) row ≡ flat_map given_pick (take i picks) → row ≡ flat_map given_pick picks
given_all row i picks le all is = sym (take_all (5 * i) row le) ∙ is ∙ ap (flat_map given_pick) (take_all i picks all)

pub read_all : (i : ℕ) (picks : List Pick) → length picks ≤ i → map pick_in (map row_of (take i picks)) ≡ take i picks
    → map pick_in (map row_of picks) ≡ picks
read_all i picks all is = ap (λ ps. map pick_in (map row_of ps)) (sym (take_all i picks all)) ∙ is ∙ take_all i picks all

-- two lists of picks are read back
pub read_both : (first more all : List Pick) → all ≡ first ++ more → map pick_in (map row_of first) ≡ first
    → map pick_in (map row_of more) ≡ more → map pick_in (map row_of all) ≡ all
read_both first more all is one two = ap (λ ps. map pick_in (map row_of ps)) is ∙ ap (map pick_in) (map-append row_of first more)
    ∙ map-append pick_in (map row_of first) (map row_of more) ∙ ap (λ ps. ps ++ map pick_in (map row_of more)) one
    ∙ ap (λ ps. first ++ ps) two ∙ sym is

pub rows_both : (first more all : List Pick) → all ≡ first ++ more → map row_of all ≡ map row_of first ++ map row_of more
rows_both first more all is = ap (map row_of) is ∙ map-append row_of first more

-- five values that are put into a list
module _ {X : Type 0} where
  front-five : (xs : List X) (a b c d e : X) → 5 ≤ length xs
      → slice_set (slice_set (slice_set (slice_set (slice_set xs 0 a) 1 b) 2 c) 3 d) 4 e ≡ a ∷ b ∷ c ∷ d ∷ e ∷ drop 5 xs
  front-five [] a b c d e le = absurd (omega (arith, le))
  front-five (v ∷ []) a b c d e le = absurd (omega (arith, le))
  front-five (v ∷ w ∷ []) a b c d e le = absurd (omega (arith, le))
  front-five (v ∷ w ∷ x ∷ []) a b c d e le = absurd (omega (arith, le))
  front-five (v ∷ w ∷ x ∷ y ∷ []) a b c d e le = absurd (omega (arith, le))
  front-five (v ∷ w ∷ x ∷ y ∷ z ∷ xs) a b c d e le = refl

  later-five : (xs : List X) (at : ℕ) (a b c d e : X) → at + 5 ≤ length xs
      → slice_set (slice_set (slice_set (slice_set (slice_set xs at a) (suc at) b) (suc (suc at)) c) (suc (suc (suc at))) d)
      (suc (suc (suc (suc at)))) e
      ≡ take at xs ++ a ∷ b ∷ c ∷ d ∷ e ∷ drop (suc (suc (suc (suc (suc at))))) xs
  later-five xs zero a b c d e le = front-five xs a b c d e (omega (arith, le))
  later-five [] (suc at) a b c d e le = absurd (omega (arith, le))
  later-five (x ∷ xs) (suc at) a b c d e le = ap (λ ys. x ∷ ys) (later-five xs at a b c d e (omega (arith, le)))

  put-five : (xs : List X) (at : ℕ) (a b c d e : X) → at + 5 ≤ length xs
      → slice_set (slice_set (slice_set (slice_set (slice_set xs at a) (at + 1) b) (at + 2) c) (at + 3) d) (at + 4) e
      ≡ take at xs ++ a ∷ b ∷ c ∷ d ∷ e ∷ drop (at + 5) xs
  put-five xs at a b c d e le =
      let one : at + 1 ≡ suc at = omega arith in
      let two : at + 2 ≡ suc (suc at) = omega arith in
      let three : at + 3 ≡ suc (suc (suc at)) = omega arith in
      let four : at + 4 ≡ suc (suc (suc (suc at))) = omega arith in
      let five : at + 5 ≡ suc (suc (suc (suc (suc at)))) = omega arith in
      rw (one, two, three, four, five) (later-five xs at a b c d e le)

  -- as they are seen
  pub five-seen : {Y : Type 0} (f : X → Y) (xs ys : List X) (at : ℕ) (a b c d e : X) (row : List Y) → at + 5 ≤ length xs
      → ys ≡ slice_set (slice_set (slice_set (slice_set (slice_set xs at a) (at + 1) b) (at + 2) c) (at + 3) d) (at + 4) e
      → map f (a ∷ b ∷ c ∷ d ∷ e ∷ []) ≡ row → map f ys ≡ take at (map f xs) ++ row ++ drop (at + 5) (map f xs)
  five-seen f xs ys at a b c d e row le is seen =
      ap (map f) (is ∙ put-five xs at a b c d e le)
      ∙ map-append f (take at xs) (a ∷ b ∷ c ∷ d ∷ e ∷ drop (at + 5) xs)
      ∙ ap (λ ys. map f (take at xs) ++ ys) (map-append f (a ∷ b ∷ c ∷ d ∷ e ∷ []) (drop (at + 5) xs))
      ∙ sym (append_assoc (map f (take at xs)) (map f (a ∷ b ∷ c ∷ d ∷ e ∷ [])) (map f (drop (at + 5) xs)))
      ∙ ap (λ ys. ys ++ map f (a ∷ b ∷ c ∷ d ∷ e ∷ []) ++ map f (drop (at + 5) xs)) (sym (take-map f at xs))
      ∙ ap (λ ys. take at (map f xs) ++ map f (a ∷ b ∷ c ∷ d ∷ e ∷ []) ++ ys) (sym (drop-map f (at + 5) xs))
      ∙ ap (λ ys. take at (map f xs) ++ ys ++ drop (at + 5) (map f xs)) seen
