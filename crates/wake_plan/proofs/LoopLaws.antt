-- One turn of the loop over turns.
use Rattle.std.proofs.Common.{◌≡◌, ℕ, suc, ◌+◌, ◌≤◌, ℤ, pos, true, false, List, [], ◌∷◌, ◌++◌, Option, Some, None, length, refl, sym, ap}
use Rattle.std.proofs.Common.{◌∙◌, subst, inl, inr, arith, slice_set}
use Rattle.std.specs.Prelude.{◌≤ℤ◌, neg_ℤ, int_le, int_lt, IfSome}
use Rattle.jiff_core.specs.Calendar.{IsWithin}
use Rattle.std.specs.List.{flat_map}
use Rattle.std.specs.Option.{is_some}
use Rattle.std.proofs.lemmas.Int.{ints}
use Rattle.std.proofs.lemmas.Bool.{false≢true, and_parts, and_from}
use Rattle.tap_rows.specs.declared.results.Hit.{Hit}
use Rattle.tap_rows.specs.Kept.{Each, In}
use Rattle.time_marks.specs.declared.window.Window.{Window}
use Rattle.time_marks.specs.Seeks.{lies_in}
use Rattle.probe_eval.specs.Work.{total}
use Rattle.probe_eval.proofs.Members.{from_flat, to_flat}
use Rattle.wake_plan.specs.declared.firsts.FirstPlace.{FirstPlace}
use Rattle.wake_plan.specs.declared.due.DrivingRow.{DrivingRow}
use Rattle.wake_plan.specs.declared.turn.Turn.{Turn}
use Rattle.wake_plan.specs.Firsts.{IsBehind, StandsAt}
use Rattle.wake_plan.specs.Turns.{left, due_mark, due_hits, due_cost, hits_left, cost_left, IsTurn, passed, gone_on}
use Rattle.time_marks.specs.NextWake.{after_mark, least_mark}
use Rattle.wake_plan.specs.Wakes.{end_after, wake_window}
use Rattle.wake_plan.proofs.LeastMarks.{mark_is, mark_least}
use Rattle.wake_plan.proofs.ListLaws.{each_in, each_item, each_set, flat_set, get_in, total_item, total_set}
use Rattle.wake_plan.proofs.TurnLaws.{due_of, due_within, gone_cost, gone_hits, gone_length, gone_turn, due_hit, turn_behind, turn_over}

lt_after : (b c : ℤ) → b ≤ℤ c → int_lt b (after_mark c) ≡ true
lt_after b c h = grind (arith, ints)

le_same : (b c d : ℤ) → b ≤ℤ c → c ≡ d → b ≤ℤ d
le_same b c d h e = omega (arith, ints)

-- a mark that is no greater than those of all hits lies in the window up to the least of them
pub in_wake : (w : Window) (hits : List Hit) (b : ℤ) → w.high ≡ pos 250000000000 → lies_in w (Some b) ≡ true
    → ((k : Hit) → In k hits → b ≤ℤ k.first) → lies_in (wake_window w.low hits) (Some b) ≡ true
in_wake w hits b e l f =
    let p = and_parts (int_le w.low b) (int_lt b w.high) l in
    and_from (int_le w.low b) (int_lt b (end_after (least_mark hits))) p.0 (go (least_mark hits) refl p.1)
  where
    go : (o : Option ℤ) → least_mark hits ≡ o → int_lt b w.high ≡ true → int_lt b (end_after (least_mark hits)) ≡ true
    go None q h = ap (λ z. int_lt b (end_after z)) q ∙ ap (int_lt b) (sym e) ∙ h
    go (Some c) q h =
        let m = mark_least hits c q in
        ap (λ z. int_lt b (end_after z)) q ∙ lt_after b c (le_same b m.0.0.first c (f m.0.0 m.0.1) m.0.2)

from_low : (l b : ℤ) → neg_ℤ (pos 250000000000) ≤ℤ l → int_le l b ≡ true → neg_ℤ (pos 250000000000) ≤ℤ b
from_low l b h k = grind (arith, ints)

to_high : (h b : ℤ) → int_lt b h ≡ true → h ≡ pos 250000000000 → b ≤ℤ pos 250000000000
to_high h b k e = grind (arith, ints)

in_bounds : (w : Window) (b : ℤ) → IsWithin 250000000000 w.low → w.high ≡ pos 250000000000 → lies_in w (Some b) ≡ true
    → IsWithin 250000000000 b
in_bounds w b low end l = let p = and_parts (int_le w.low b) (int_lt b w.high) l in (from_low w.low b low.0 p.0, to_high w.high b p.1 end)

none_left : {A : Type 0} (o : Option A) → is_some o ≡ false → o ≡ None
none_left None e = refl
none_left (Some x) e = absurd (false≢true (sym e))

some_left : {A : Type 0} (o : Option A) → is_some o ≡ true → (x : A) × (o ≡ Some x)
some_left None e = absurd (false≢true e)
some_left (Some x) e = (x, refl)

-- no row is left in any turn
pub all_over : (w : Window) (turns : List Turn) → Each (IsTurn w) turns → ((t : Turn) → In t turns → due_mark t.next ≡ None)
    → flat_map (hits_left w) turns ≡ []
all_over w [] h n = refl
all_over w (t ∷ turns) h n = ap (λ z. z ++ flat_map (hits_left w) turns) (turn_over w t h.0 (n t (inl refl)))
    ∙ all_over w turns h.1 (λ x i. n x (inr i))

module _ (w : Window) (turns : List Turn) (x : FirstPlace) (each : Each (IsTurn w) turns) (st : StandsAt turns x)
    (least : (t : Turn) → In t turns → IsBehind (Some x) (due_mark t.next)) where
  here : IsTurn w st.turn
  here = each_item (IsTurn w) turns x.index st.turn each st.at

  due : (due : DrivingRow) × (st.turn.next ≡ Some due) × (due.mark ≡ x.mark)
  due = due_of st.turn.next x.mark st.mark

  all_later : (k : Hit) → In k (flat_map (hits_left w) turns) → x.mark ≤ℤ k.first
  all_later k i =
      let t = from_flat (hits_left w) turns k i in
      turn_behind w t.0 x.mark (each_in (IsTurn w) turns t.0 each t.1) (least t.0 t.1) k t.2

  mark_within : lies_in w (Some x.mark) ≡ true
  mark_within = ap (λ b. lies_in w (Some b)) (sym due.2) ∙ due_within w st.turn here due.0 due.1

  module _ (now : Turn) (found : Option ℤ) (e : now ≡ st.turn) (m : found ≡ least_mark (due_hits now now.next)) where
    found_is : found ≡ least_mark (due_hits st.turn st.turn.next)
    found_is = m ∙ ap (λ (z : Turn). least_mark (due_hits z z.next)) e

    -- the mark of what is found is the least of all
    pub found_least : is_some found ≡ true → found ≡ least_mark (flat_map (hits_left w) turns)
    found_least s =
        let b = some_left found s in
        let k = due_hit w st.turn here due.0 due.1 b.0 (sym found_is ∙ b.1) in
        let q : b.0 ≡ x.mark = k.3 ∙ due.2 in
        b.1 ∙ sym (mark_is (flat_map (hits_left w) turns) b.0 k.0 (to_flat (hits_left w) turns
        st.turn k.0 (get_in turns x.index st.turn st.at) k.1) k.2 (λ j i. subst (λ z. z ≤ℤ j.first) (sym q) (all_later j i)))

    pub found_within : is_some found ≡ true → (b : ℤ) × (found ≡ Some b) × (lies_in w (Some b) ≡ true)
    found_within s =
        let b = some_left found s in
        let k = due_hit w st.turn here due.0 due.1 b.0 (sym found_is ∙ b.1) in
        (b.0, b.1, ap (λ z. lies_in w (Some z)) (k.3 ∙ due.2) ∙ mark_within)

    pub found_bound : IsWithin 250000000000 w.low → w.high ≡ pos 250000000000 → is_some found ≡ true → IfSome found (IsWithin 250000000000)
    found_bound low end s = let f = found_within s in subst (λ o. IfSome o (IsWithin 250000000000)) (sym f.1) (in_bounds w f.0 low end f.2)

    module _ (first : List Turn) (end : w.high ≡ pos 250000000000)
        (same : flat_map (hits_left w) turns ≡ flat_map (hits_left w) first) where
      abbrev until : Window
      until = wake_window w.low (flat_map (hits_left w) first)

      until_has : lies_in until (Some due.0.mark) ≡ true
      until_has =
          ap (λ b. lies_in until (Some b)) due.2
          ∙ in_wake w (flat_map (hits_left w) first) x.mark end mark_within (λ k i. all_later k (subst (λ z. In k z) (sym same) i))

      cost_is : cost_left until st.turn ≡ (1 + due_cost now now.next) + cost_left until (passed w st.turn)
      cost_is = gone_cost w st.turn here due.0 due.1 until until_has
          ∙ ap (λ (z : Turn). (1 + due_cost z z.next) + cost_left until (passed w st.turn)) (sym e)

      -- the steps of a turn that finds a document
      pub found_steps : (s taken bound : ℕ) → s + total (cost_left until) turns ≤ bound → taken ≤ s + (1 + due_cost now now.next)
          → taken ≤ bound
      found_steps s taken bound h k =
          let c = cost_is in
          let i = total_item (cost_left until) turns x.index st.turn st.at in
          omega (arith, h, k, c, i)

    module _ (s : is_some found ≡ false) (after : Turn) (g : after ≡ gone_on w now found) where
      nothing : least_mark (due_hits st.turn st.turn.next) ≡ None
      nothing = sym found_is ∙ none_left found s

      after_is : after ≡ passed w st.turn
      after_is = g ∙ ap (gone_on w now) (none_left found s) ∙ ap (λ (z : Turn). passed w z) e

      pub next_each : Each (IsTurn w) (slice_set turns x.index after)
      next_each = each_set (IsTurn w) turns x.index after each (subst (IsTurn w) (sym after_is) (gone_turn w st.turn here due.0 due.1))

      pub next_hits : flat_map (hits_left w) (slice_set turns x.index after) ≡ flat_map (hits_left w) turns
      next_hits = flat_set (hits_left w) turns x.index st.turn after
          st.at (gone_hits w st.turn here due.0 due.1 nothing ∙ ap (hits_left w) (sym after_is))

      pub next_smaller : suc (total (λ t. length (left t)) (slice_set turns x.index after)) ≤ total (λ t. length (left t)) turns
      next_smaller =
          let k = total_set (λ t. length (left t)) turns x.index st.turn after st.at in
          let l = gone_length w st.turn here due.0 due.1 in
          let m = ap (λ (z : Turn). length (left z)) after_is in
          omega (arith, k, l, m)

      pub next_steps : (first : List Turn) → w.high ≡ pos 250000000000 → flat_map (hits_left w) turns ≡ flat_map (hits_left w) first
          → (s taken bound : ℕ)
          → s + total (cost_left (wake_window w.low (flat_map (hits_left w) first))) turns ≤ bound → taken ≤ s + (1 + due_cost now now.next)
          → taken + total (cost_left (wake_window w.low (flat_map (hits_left w) first))) (slice_set turns x.index after) ≤ bound
      next_steps first end same s taken bound h k =
          let c = cost_is first end same in
          let i = total_set (cost_left (wake_window w.low (flat_map (hits_left w) first))) turns x.index st.turn after st.at in
          let m = ap (cost_left (wake_window w.low (flat_map (hits_left w) first))) after_is in
          omega (arith, h, k, c, i, m)
