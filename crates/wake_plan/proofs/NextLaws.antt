-- The second after the least mark is the least moment at which a run delivers.
use Rattle.std.proofs.Common.{◌≡◌, ℤ, Bool, true, false, List, [], ◌∷◌, Option, Some, None, refl, sym, subst, inl, inr, arith}
use Rattle.std.specs.Prelude.{◌≤ℤ◌, ◌<ℤ◌, int_le, IfSome}
use Rattle.std.specs.Option.{option_map}
use Rattle.std.proofs.lemmas.Int.{ints}
use Rattle.std.proofs.lemmas.Bool.{cases_Bool}
use Rattle.tap_rows.specs.declared.rows.Doc.{Doc}
use Rattle.tap_rows.specs.declared.tables.Tables.{Tables}
use Rattle.tap_rows.specs.declared.results.Hit.{Hit}
use Rattle.tap_rows.specs.Kept.{In}
use Rattle.time_marks.specs.Probes.{Probe}
use Rattle.probe_eval.specs.Found.{IsFound}
use Rattle.probe_eval.proofs.Meant.{least_is, meaning_in, in_meaning, found_least}
use Rattle.wake_plan.specs.Laws.{delivered_at, IsNextWake, WakesAreNext}
use Rattle.time_marks.specs.NextWake.{after_mark, greater, least_mark}
use Rattle.wake_plan.specs.Wakes.{windows_end}
use Rattle.wake_plan.proofs.LeastMarks.{mark_least, no_mark}

longer : (b s t : ℤ) → b <ℤ s → s ≤ℤ t → b <ℤ t
longer b s t h k = omega (arith, ints)

before : (b c s : ℤ) → b ≤ℤ c → c <ℤ s → b <ℤ s
before b c s h k = omega (arith, ints)

from_now : (now b : ℤ) → now ≤ℤ greater now (after_mark b)
from_now now b = elim (cases_Bool (int_le now (after_mark b))) [ inl e ↦ rw e (le_true now (after_mark b) e) | inr e ↦ rw e (same now) ]
  where
    le_true : (x y : ℤ) → int_le x y ≡ true → x ≤ℤ y
    le_true x y h = grind (arith, ints)

    same : (x : ℤ) → x ≤ℤ x
    same x = omega (arith, ints)

no_later : (now b t : ℤ) → now ≤ℤ t → b <ℤ t → greater now (after_mark b) ≤ℤ t
no_later now b t h k = elim (cases_Bool (int_le now (after_mark b))) [ inl e ↦ rw e (up b t k) | inr e ↦ rw e h ]
  where
    up : (b t : ℤ) → b <ℤ t → after_mark b ≤ℤ t
    up b t k = omega (arith, ints)

past_mark : (now b : ℤ) → b <ℤ greater now (after_mark b)
past_mark now b = elim (cases_Bool (int_le now (after_mark b))) [ inl e ↦ rw e (up b) | inr e ↦ rw e (beyond now b e) ]
  where
    up : (b : ℤ) → b <ℤ after_mark b
    up b = omega (arith, ints)

    beyond : (now b : ℤ) → int_le now (after_mark b) ≡ false → b <ℤ now
    beyond now b e = grind (arith, ints)

not_both : (s t : ℤ) → s <ℤ t → t ≤ℤ s → ⊥
not_both s t h k = omega (arith, ints)

empty_list : (hs : List Hit) → ((h : Hit) → In h hs → ⊥) → hs ≡ []
empty_list [] f = refl
empty_list (h ∷ hs) f = absurd (f h (inl refl))

module _ (seen : Doc → Bool) (X : List Probe) (T : Tables) (last : ℤ) where
  abbrev all : List Hit
  all = delivered_at seen X T last windows_end

  found_in : (s : ℤ) (h : Hit) → In h (delivered_at seen X T last s) → IsFound seen X T (record { low = last; high = s }) h
  found_in s h i =
      let m = meaning_in seen X T (record { low = last; high = s }) h i in
      found_least seen X T (record { low = last; high = s }) h m.0 m.1 m.2 m.3 m.4

  -- what is found in a window is delivered, with this mark or a lesser one
  found_out : (s : ℤ) (h : Hit) → IsFound seen X T (record { low = last; high = s }) h
      → (k : Hit) × In k (delivered_at seen X T last s) × (k.first ≤ℤ h.first)
  found_out s h f =
      let m = least_is seen X T (record { low = last; high = s }) f.doc h.first f.at f.low f.high in
      let k : Hit = record { doc = f.doc.num; first = m.0 } in
      (k, in_meaning seen X T (record { low = last; high = s }) k f.doc f.is_row f.unseen refl m.1, m.2)

  in_other : (s t : ℤ) (h : Hit) → IsFound seen X T (record { low = last; high = s }) h → h.first <ℤ t
      → IsFound seen X T (record { low = last; high = t }) h
  in_other s t h f l = record { doc = f.doc; is_row = f.is_row; unseen = f.unseen; num = f.num; at = f.at; low = f.low; high = l }

  -- a run delivers nothing up to the least mark
  none_to : (s : ℤ) → s ≤ℤ windows_end → ((h : Hit) → In h all → h.first <ℤ s → ⊥) → delivered_at seen X T last s ≡ []
  none_to s l f =
      empty_list (delivered_at seen X T last s) (λ h i.
      let g = found_in s h i in
      let k = found_out windows_end h (in_other s windows_end h g (longer h.first s windows_end g.high l)) in
      f k.0 k.1 (before k.0.first h.first s k.2 g.high))

  next_is : (now b : ℤ) → now ≤ℤ windows_end → least_mark all ≡ Some b → IsNextWake seen X T last now (greater now (after_mark b))
  next_is now b l e =
      let m = mark_least all b e in
      let g = found_in windows_end m.0.0 m.0.1 in
      let early : b <ℤ windows_end = subst (λ z. z <ℤ windows_end) m.0.2 g.high in
      let t = greater now (after_mark b) in
      let out = found_out t m.0.0 (in_other windows_end t m.0.0 g (subst (λ z. z <ℤ t) (sym m.0.2) (past_mark now b))) in
      record {
        from = from_now now b;
        to = no_later now b windows_end l early;
        some = λ z. subst (λ zs. In out.0 zs) z out.1;
        none_before = λ s n h.
            none_to s (less s t windows_end h (no_later now b windows_end l early))
            (λ k i c. not_both s t h (no_later now b s n (before b k.first s (m.1 k i) c)));
      }
    where
      less : (s t u : ℤ) → s <ℤ t → t ≤ℤ u → s ≤ℤ u
      less s t u h k = omega (arith, ints)

pub wakes_are_next : WakesAreNext
wakes_are_next seen X T last now l = (
  go (least_mark (all seen X T last)) refl,
  λ e s h. none_to seen X T last s h (λ k i c.
      subst (λ z. In k z) (no_mark (all seen X T last) (never (least_mark (all seen X T last)) e)) i),
)
  where
    go : (o : Option ℤ) → least_mark (all seen X T last) ≡ o
        → IfSome (option_map (λ b. greater now (after_mark b)) (least_mark (all seen X T last))) (IsNextWake seen X T last now)
    go None e = subst (λ o. IfSome (option_map (λ b. greater now (after_mark b)) o) (IsNextWake seen X T last now)) (sym e) tt
    go (Some b) e = subst (λ o. IfSome (option_map (λ b. greater now (after_mark b)) o) (IsNextWake seen X T last now)) (sym e)
        (next_is seen X T last now b l e)

    never : (o : Option ℤ) → option_map (λ b. greater now (after_mark b)) o ≡ None → o ≡ None
    never None e = refl
    never (Some b) e = absurd cc
