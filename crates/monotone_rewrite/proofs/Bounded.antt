-- The marks of a condition whose times are as typing gives them.
use Rattle.std.proofs.Common.{◌≡◌, ◌∙◌, refl, ap, ℤ, pos, negsuc, Bool, true, false, List, [], ◌∷◌, ◌++◌, arith}
use Rattle.std.specs.Prelude.{◌&&◌, ◌≤ℤ◌, map, int_le, int_lt, not}
use Rattle.std.specs.List.{list_all}
use Rattle.std.proofs.lemmas.Bool.{and_parts, and_from}
use Rattle.std.proofs.lemmas.Int.{ints}
use Rattle.tql_tree.specs.declared.table.Table.TheVariants.{Docs}
use Rattle.tql_core.specs.declared.term.Base.{Base}
use Rattle.tql_core.specs.declared.term.Base.TheVariants.{Arrival, Date, Fixed, ArrivalDay, DateDay}
use Rattle.tql_core.specs.declared.term.Term.{Term}
use Rattle.tql_core.specs.Condition.{Condition, Always, Never, Plain, NowAtLeast, NowBefore, All, Either, Not, Exists}
use Rattle.tql_core.specs.Bounds.{is_near, is_bounded_base, is_bounded, are_bounded}
use Rattle.time_marks.specs.declared.mark.Mark.{Mark}
use Rattle.time_marks.specs.declared.mark.Step.{Step}
use Rattle.time_marks.specs.Marks.{copy, copy_base, copy_term, arrival_term, step_of, under_step, mark_if, marks, document_var, fixed_term}
use Rattle.time_marks.specs.Marks.{marks_from, rising_from}

abbrev pub bounded_marks : List Mark → Bool
bounded_marks ms = list_all (λ mark. is_bounded mark.at) ms

copied : (b : Base) (plus : ℤ) → is_bounded_base (copy_base b) plus ≡ is_bounded_base b plus
copied (Arrival v) plus = refl
copied (Date v) plus = refl
copied Fixed plus = refl
copied (ArrivalDay v n) plus = refl
copied (DateDay v n) plus = refl

copied_term : (e : Term) → is_bounded e ≡ true → is_bounded (copy_term e) ≡ true
copied_term e h = ap (λ b. is_near e.plus && b) (copied e.base e.plus) ∙ h

both : (ms ns : List Mark) → bounded_marks ms ≡ true → bounded_marks ns ≡ true → bounded_marks (ms ++ ns) ≡ true
both [] ns h k = k
both (x ∷ ms) ns h k = let p = and_parts _ _ h in and_from _ _ p.0 (both ms ns p.1 k)

below_step : (step : Step) (ms : List Mark) → bounded_marks ms ≡ true → bounded_marks (map (under_step step) ms) ≡ true
below_step step [] h = refl
below_step step (x ∷ ms) h = let p = and_parts _ _ h in and_from _ _ p.0 (below_step step ms p.1)

one : (up : Bool) (e : Term) → is_bounded e ≡ true → bounded_marks (mark_if up e) ≡ true
one true e h = and_from _ _ h refl
one false e h = refl

inner : (c : Condition) (up : Bool) → are_bounded c ≡ true → bounded_marks (marks c up) ≡ true
inner Always up h = refl
inner Never up h = refl
inner (Plain a) up h = refl
inner (NowAtLeast e) up h = one up (copy_term e) (copied_term e h)
inner (NowBefore e) up h = one (not up) (copy_term e) (copied_term e h)
inner (All l r) up h = let p = and_parts _ _ h in both (marks l up) (marks r up) (inner l up p.0) (inner r up p.1)
inner (Either l r) up h = let p = and_parts _ _ h in both (marks l up) (marks r up) (inner l up p.0) (inner r up p.1)
inner (Not x) up h = inner x (not up) h
inner (Exists v t x) up h = below_step (step_of v t x) (mark_if up (arrival_term (copy v)) ++ marks x up)
    (both (mark_if up (arrival_term (copy v))) (marks x up) (one up (arrival_term (copy v)) refl) (inner x up h))

start_near : (a : ℤ) → pos 0 ≤ℤ a → a ≤ℤ pos 250000000000 → is_bounded (fixed_term a) ≡ true
start_near a low high =
    let l : int_le (negsuc 450000086399) a ≡ true = grind (arith, ints) in
    let h : int_le a (pos 450000086400) ≡ true = grind (arith, ints) in
    rw (l, h) refl

pub rising_bounded : (c : Condition) (a : ℤ) → are_bounded c ≡ true → pos 0 ≤ℤ a → a ≤ℤ pos 250000000000
    → bounded_marks (rising_from c a) ≡ true
rising_bounded c a h low high =
    below_step (step_of document_var Docs c) (marks_from c a)
    (both (mark_if true (arrival_term document_var) ++ marks c true) (mark_if (int_lt (pos 0) a) (fixed_term a))
    (both (mark_if true (arrival_term document_var)) (marks c true) refl (inner c true h))
    (one (int_lt (pos 0) a) (fixed_term a) (start_near a low high)))
