-- The marks of delta probes are the marks of their condition, in the same order.
use Rattle.std.proofs.Common.{◌≡◌, ℕ, ℤ, Bool, true, false, not, List, [], ◌∷◌, ◌++◌, refl, ap, ◌∙◌, subst, inl, inr}
use Rattle.std.specs.Prelude.{map, pos, int_lt}
use Rattle.std.proofs.lemmas.List.{map-append}
use Rattle.tap_base.specs.declared.numbers.Op.TheVariants.{Le}
use Rattle.tql_tree.specs.declared.table.Table.TheVariants.{Docs}
use Rattle.tql_tree.specs.declared.table.Table.{Table}
use Rattle.tql_core.specs.declared.term.Var.{Var}
use Rattle.tql_core.specs.declared.term.Term.{Term}
use Rattle.tql_core.specs.declared.atom.Atom.TheVariants.{Times}
use Rattle.tql_core.specs.Condition.{Condition, Always, Never, Plain, NowAtLeast, NowBefore, All, Either, Not, Exists}
use Rattle.tql_core.specs.Scope.{Scoped}
use Rattle.tap_rows.specs.Kept.{In}
use Rattle.time_marks.specs.declared.mark.Step.{Step}
use Rattle.time_marks.specs.declared.mark.Mark.{Mark}
use Rattle.time_marks.specs.Marks.{copy, copy_term, arrival_term, step_of, under_step, mark_if, marks, document_var, fixed_term}
use Rattle.time_marks.specs.Marks.{marks_from, rising_from, body}
use Rattle.time_marks.specs.Probes.{Probe}
use Rattle.time_marks.proofs.Lists.{in_map}
use Rattle.monotone_rewrite.proofs.Finding.{Fine, fine}
use Rattle.delta_rewrite.specs.Delta.{renamed, under_probe, asking, is_driver, some_row, probe_if, delta, unsettled}

-- a probe without its body
abbrev pub mark_of : Probe → Mark
mark_of p = record { path = p.path; at = p.at }

abbrev pub marks_of : List Probe → List Mark
marks_of ps = map mark_of ps

joined : (ps qs : List Probe) (ms ns : List Mark) → marks_of ps ≡ ms → marks_of qs ≡ ns → marks_of (ps ++ qs) ≡ ms ++ ns
joined ps qs ms ns e f = map-append mark_of ps qs ∙ ap (λ k. k ++ marks_of qs) e ∙ ap (λ k. ms ++ k) f

-- other bodies change no mark
asked : (f : Probe → Condition) (ps : List Probe) → marks_of (map (λ p. asking p (f p)) ps) ≡ marks_of ps
asked f [] = refl
asked f (p ∷ ps) = ap (λ k. mark_of p ∷ k) (asked f ps)

after : (step : Step) (ps : List Probe) (ms : List Mark) → marks_of ps ≡ ms
    → marks_of (map (under_probe step) ps) ≡ map (under_step step) ms
after step ps ms e = each ps ∙ ap (map (under_step step)) e
  where
    each : (ps : List Probe) → marks_of (map (under_probe step) ps) ≡ map (under_step step) (marks_of ps)
    each [] = refl
    each (p ∷ ps) = ap (λ k. under_step step (mark_of p) ∷ k) (each ps)

here : (up : Bool) (at : Term) (c : Condition) → marks_of (probe_if up at c) ≡ mark_if up at
here true at c = refl
here false at c = refl

pub delta_marks : (c : Condition) (up : Bool) → marks_of (delta c up) ≡ marks c up
delta_marks Always up = refl
delta_marks Never up = refl
delta_marks (Plain a) up = refl
delta_marks (NowAtLeast e) up = here up (copy_term e) Always
delta_marks (NowBefore e) up = here (not up) (copy_term e) Always
delta_marks (All l r) true =
    joined (map (λ p. asking p (All p.body (body r p.at))) (delta l true)) (map (λ p. asking p (All (body l p.at) p.body)) (delta r true))
    (marks l true) (marks r true)
    (asked (λ p. All p.body (body r p.at)) (delta l true) ∙ delta_marks l true)
    (asked (λ p. All (body l p.at) p.body) (delta r true) ∙ delta_marks r true)
delta_marks (All l r) false =
    joined (delta l false) (delta r false) (marks l false) (marks r false) (delta_marks l false) (delta_marks r false)
delta_marks (Either l r) true =
    joined (delta l true) (delta r true) (marks l true) (marks r true) (delta_marks l true) (delta_marks r true)
delta_marks (Either l r) false =
    joined (map (λ p. asking p (All p.body (Not (body r p.at)))) (delta l false))
    (map (λ p. asking p (All (Not (body l p.at)) p.body)) (delta r false))
    (marks l false) (marks r false)
    (asked (λ p. All p.body (Not (body r p.at))) (delta l false) ∙ delta_marks l false)
    (asked (λ p. All (Not (body l p.at)) p.body) (delta r false) ∙ delta_marks r false)
delta_marks (Not x) up = delta_marks x (not up)
delta_marks (Exists v t x) true =
    let at = arrival_term (copy v) in
    after (step_of v t x)
    (probe_if true at (renamed v (copy v) (body x at)) ++ map (λ p. asking p (some_row v t p.at p.body)) (delta x true))
    (mark_if true at ++ marks x true)
    (joined (probe_if true at (renamed v (copy v) (body x at))) (map (λ p. asking p (some_row v t p.at p.body)) (delta x true))
    (mark_if true at) (marks x true) refl (asked (λ p. some_row v t p.at p.body) (delta x true) ∙ delta_marks x true))
delta_marks (Exists v t x) false =
    after (step_of v t x) (map (λ p. asking p (Not (body (Exists v t x) p.at))) (delta x false)) (marks x false)
    (asked (λ p. Not (body (Exists v t x) p.at)) (delta x false) ∙ delta_marks x false)

-- the delta window has the paths and marks of the rising marks
pub unsettled_marks : (c : Condition) (a : ℤ) → marks_of (unsettled c a) ≡ rising_from c a
unsettled_marks c a =
    let at = arrival_term document_var in
    let start = probe_if (int_lt (pos 0) a) (fixed_term a) (body c (fixed_term a)) in
    after (step_of document_var Docs c) ((probe_if true at (body c at) ++ delta c true) ++ start) (marks_from c a)
    (joined (probe_if true at (body c at) ++ delta c true) start (mark_if true at ++ marks c true)
    (mark_if (int_lt (pos 0) a) (fixed_term a))
    (joined (probe_if true at (body c at)) (delta c true) (mark_if true at) (marks c true) refl (delta_marks c true))
    (here (int_lt (pos 0) a) (fixed_term a) (body c (fixed_term a))))

pub delta_mark : (c : Condition) (up : Bool) (p : Probe) → In p (delta c up) → In (mark_of p) (marks c up)
delta_mark c up p i = subst (λ ms. In (mark_of p) ms) (delta_marks c up) (in_map mark_of (delta c up) p i)

-- what a mark is, it is as the mark of a delta probe
pub delta_fine : (c : Condition) (up : Bool) (scope : List ℕ) → Scoped scope c → (p : Probe) → In p (delta c up) → Fine (mark_of p)
delta_fine c up scope sc p i = fine c up scope sc (mark_of p) (delta_mark c up p i)

-- the one probe with no path yet
pub one_probe : (up : Bool) (at : Term) (c : Condition) (p : Probe) → In p (probe_if up at c)
    → (up ≡ true) × (p ≡ record { path = []; at = at; body = c })
one_probe true at c p (inl e) = (refl, e)
one_probe true at c p (inr i) = absurd i
one_probe false at c p i = absurd i

pub if_one : (up : Bool) (at : Term) (c : Condition) → up ≡ true → In (record { path = []; at = at; body = c }) (probe_if up at c)
if_one true at c e = inl refl
if_one false at c e = absurd cc

-- what an EXISTS asks, by its driver
pub some_row_yes : (v : Var) (t : Table) (at : Term) (x : Condition) → is_driver v at ≡ true → some_row v t at x ≡ renamed v (copy v) x
some_row_yes v t at x h = rw h refl

pub some_row_not : (v : Var) (t : Table) (at : Term) (x : Condition) → is_driver v at ≡ false
    → some_row v t at x ≡ Exists v t (All (Plain (Times (arrival_term v) Le at)) x)
some_row_not v t at x h = rw h refl
