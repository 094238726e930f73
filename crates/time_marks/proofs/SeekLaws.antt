-- Marks by the stored seconds of their driving rows.
use Rattle.std.proofs.Common.{◌≡◌, ◌∙◌, sym, ap, refl, arith, ℤ, pos, negsuc, true, Option, Some, None}
use Rattle.std.specs.Prelude.{◌+ℤ◌, ◌-ℤ◌, neg_ℤ, ◌≤ℤ◌, int_le}
use Rattle.std.proofs.lemmas.Bool.{and_parts}
use Rattle.std.proofs.lemmas.Bool.Decides.{Decides-int_eq}
use Rattle.std.proofs.lemmas.Int.{ints}
use Rattle.tql_core.specs.declared.term.Var.{Var}
use Rattle.tql_core.specs.declared.term.Base.{Base}
use Rattle.tql_core.specs.declared.term.Base.TheVariants as B
use Rattle.tql_core.specs.Bounds.{is_bounded_base, is_near}
use Rattle.tql_core.specs.Row.{Row, arrival, date}
use Rattle.tql_core.specs.Values.{Env, lookup, on_row, round_up_to_day, day_of, plus_to, base_value}
use Rattle.time_marks.specs.declared.seek.Seek.{Seek}
use Rattle.time_marks.specs.declared.seek.Seek.TheVariants.{Arrived, Dated, Fixed, ArrivedDay, DatedDay}
use Rattle.time_marks.specs.declared.window.Window.{Window}
use Rattle.time_marks.specs.Windows.{is_within, days_window}
use Rattle.time_marks.specs.Seeks.{seek_from, seek_of, driving_second, marked_at, seek_window, lies_in, SeeksSolveMarks}
use Rattle.time_marks.proofs.WindowLaws.{moved-within, days-within}

-- a number of seconds that is near is within its bound
pub near_low : (n : ℤ) → is_near n ≡ true → negsuc 450000086399 ≤ℤ n
near_low n h = let p = (and_parts (int_le (negsuc 450000086399) n) (int_le n (pos 450000086400)) h).0 in grind (arith, ints)

pub near_high : (n : ℤ) → is_near n ≡ true → n ≤ℤ pos 450000086400
near_high n h = let p = (and_parts (int_le (negsuc 450000086399) n) (int_le n (pos 450000086400)) h).1 in grind (arith, ints)

back : (x n : ℤ) → x -ℤ neg_ℤ n ≡ x +ℤ n
back x n = omega (arith, ints)

-- the window of a seek has the stored seconds whose marks the window has
pub seek_within : (s : Seek) (w : Window) (x : ℤ) → is_within (seek_window w s) x ≡ is_within w (marked_at s x)
seek_within (Arrived v n) w x = moved-within w (neg_ℤ n) x ∙ ap (is_within w) (back x n)
seek_within (Dated v n) w x = moved-within w (neg_ℤ n) x ∙ ap (is_within w) (back x n)
seek_within (Fixed moment) w x = refl
seek_within (ArrivedDay v n) w x = moved-within (days_window w) (neg_ℤ n) x ∙ ap (is_within (days_window w)) (back x n)
    ∙ days-within w (x +ℤ n)
seek_within (DatedDay v n) w x = moved-within (days_window w) (neg_ℤ n) x ∙ ap (is_within (days_window w)) (back x n)
    ∙ days-within w (x +ℤ n)

none_plus : (x : ℤ) → x +ℤ pos 0 ≡ x
none_plus x = omega (arith, ints)

plus_none : (x : ℤ) → pos 0 +ℤ x ≡ x
plus_none x = omega (arith, ints)

pub seek_found : (s : Seek) (w r : Window) → r ≡ seek_window w s → (x : ℤ) → is_within r x ≡ is_within w (marked_at s x)
seek_found s w r e x = ap (λ z. is_within z x) e ∙ seek_within s w x

-- a second of a seek that may be absent, as its mark
abbrev mark_of : Seek → Option ℤ → Option ℤ
mark_of s None = None
mark_of s (Some x) = Some (marked_at s x)

lies_same : (w : Window) (s : Seek) (o : Option ℤ) → lies_in w (mark_of s o) ≡ lies_in (seek_window w s) o
lies_same w s None = refl
lies_same w s (Some x) = sym (seek_within s w x)

plus_same : (var : Var) (n : ℤ) (o : Option ℤ) → plus_to o n ≡ mark_of (Arrived var n) o
plus_same var n None = refl
plus_same var n (Some x) = refl

day_same : (var : Var) (n : ℤ) (o : Option ℤ) → plus_to (day_of n o) (pos 0) ≡ mark_of (DatedDay var n) o
day_same var n None = refl
day_same var n (Some x) = ap Some (none_plus (round_up_to_day (x +ℤ n)))

arrival_same : (var : Var) (n : ℤ) (o : Option Row) → plus_to (on_row o (λ r. Some (round_up_to_day (arrival r +ℤ n)))) (pos 0)
    ≡ mark_of (ArrivedDay var n) (on_row o (λ r. Some (arrival r)))
arrival_same var n None = refl
arrival_same var n (Some r) = ap Some (none_plus (round_up_to_day (arrival r +ℤ n)))

date_same : (var : Var) (n : ℤ) (o : Option Row)
    → plus_to (on_row o (λ r. day_of n (date r))) (pos 0) ≡ mark_of (DatedDay var n) (on_row o date)
date_same var n None = refl
date_same var n (Some r) = day_same var n (date r)

-- a mark is that of the stored second
value_same : (base : Base) (plus : ℤ) (env : Env) → is_bounded_base base plus ≡ true
    → plus_to (base_value base env) plus ≡ mark_of (seek_from base plus) (driving_second (seek_from base plus) env)
value_same (B.Arrival v) plus env h = plus_same v plus (on_row (lookup v.0 env) (λ r. Some (arrival r)))
value_same (B.Date v) plus env h = plus_same v plus (on_row (lookup v.0 env) date)
value_same B.Fixed plus env h = ap Some (plus_none plus)
value_same (B.ArrivalDay v n) plus env h =
    let e = (Decides-int_eq plus (pos 0)).0 (and_parts _ _ h).1 in
    ap (λ z. plus_to (base_value (B.ArrivalDay v n) env) z) e ∙ arrival_same v n (lookup v.0 env)
value_same (B.DateDay v n) plus env h =
    let e = (Decides-int_eq plus (pos 0)).0 (and_parts _ _ h).1 in
    ap (λ z. plus_to (base_value (B.DateDay v n) env) z) e ∙ date_same v n (lookup v.0 env)

pub solved : SeeksSolveMarks
solved e w env h = ap (lies_in w) (value_same e.base e.plus env (and_parts _ _ h).1)
    ∙ lies_same w (seek_of e) (driving_second (seek_of e) env)
