-- A delta window has no other marks than the window of the whole bodies.
use Rattle.std.proofs.Common.{◌≡◌, ℕ, ℤ, Bool, true, false, not, List, [], ◌∷◌, ◌++◌, refl, sym, ap, ◌∙◌, subst, inl, inr, arith}
use Rattle.std.specs.Prelude.{◌&&◌, map, if◌then◌else◌}
use Rattle.std.proofs.lemmas.Int.{ints}
use Rattle.std.proofs.lemmas.Bool.{cases_Bool, not-false, false≢true}
use Rattle.tap_base.specs.declared.numbers.Op.TheVariants.{Lt, Le, Ge}
use Rattle.tql_tree.specs.declared.table.Table.{Table}
use Rattle.tql_core.specs.declared.term.Var.{Var}
use Rattle.tql_core.specs.declared.term.Term.{Term}
use Rattle.tql_core.specs.declared.atom.Atom.{Atom}
use Rattle.tql_core.specs.declared.atom.Atom.TheVariants.{Times}
use Rattle.tql_core.specs.Condition.{Condition, Always, Never, Plain, NowAtLeast, NowBefore, All, Either, Not, Exists}
use Rattle.tql_core.specs.Scope.{Scoped, IsQuery}
use Rattle.tql_core.specs.Values.{compare}
use Rattle.tap_rows.specs.Kept.{In}
use Rattle.time_marks.specs.Marks.{copy, copy_term, arrival_term, step_of, rising_from, body}
use Rattle.time_marks.specs.Probes.{Probe}
use Rattle.time_marks.proofs.Lists.{in_map, map_in, append_in}
use Rattle.monotone_rewrite.specs.Folding.{KnownTruth, Yes, No, Open, known, is_no, constant, same_base, is_there, fold}
use Rattle.monotone_rewrite.specs.Query.{fold_probe, can_find, probe_of, unfolded}
use Rattle.monotone_rewrite.proofs.Finding.{Fine}
use Rattle.monotone_rewrite.proofs.Folds.{no_is, is_no_is}
use Rattle.monotone_rewrite.proofs.Growing.{in_filter, filter_in}
use Rattle.delta_rewrite.specs.Delta.{renamed, under_probe, asking, is_driver, some_row, probe_if, delta, unsettled, settled, settle_probe}
use Rattle.delta_rewrite.specs.Laws.{DeltaHasNoOtherMark}
use Rattle.delta_rewrite.proofs.MarksOf.{mark_of, one_probe, some_row_yes, some_row_not, delta_fine, unsettled_marks}
use Rattle.delta_rewrite.proofs.Deltas.{below_first, first_step, whole_or_delta}
use Rattle.delta_rewrite.proofs.KnownBodies.{kall, kexists, knot, kn, all_kn, either_kn, not_kn, exists_kn, all_no, all_no_parts}
use Rattle.delta_rewrite.proofs.KnownBodies.{all_yes_parts, either_no_parts, either_yes_parts, exists_no_part, exists_not_yes, Free}
use Rattle.delta_rewrite.proofs.KnownBodies.{Least, copy_free, come_open, renamed_kept}

-- the truth of a body at which the condition doesn't become true (sign plus) or false (sign minus)
abbrev sunk : Bool → KnownTruth
sunk true = No
sunk false = Yes

-- the probe asks something False if the whole body has that truth
abbrev Sinks : Bool → Condition → Probe → Type 0
Sinks up c p = kn p.at (body c p.at) ≡ sunk up → kn p.at p.body ≡ No

-- a comparison of a term with its copy folds to no other truth than that of equal numbers
at_least_itself : (b : Bool) (n : ℤ) (a : Atom) → known (if b then constant (compare Ge n n) else Plain a) ≡ No → ⊥
at_least_itself true n a h =
    let y : compare Ge n n ≡ true = grind (arith, ints) in
    absurd (is_yes (sym (ap (λ b. known (constant b)) y) ∙ h))
  where
    is_yes : Yes ≡ No → ⊥
    is_yes e = absurd cc
at_least_itself false n a h = absurd cc

below_itself : (b : Bool) (n : ℤ) (a : Atom) → known (if b then constant (compare Lt n n) else Plain a) ≡ Yes → ⊥
below_itself true n a h =
    let y : compare Lt n n ≡ false = grind (arith, ints) in
    absurd (is_no (sym (ap (λ b. known (constant b)) y) ∙ h))
  where
    is_no : No ≡ Yes → ⊥
    is_no e = absurd cc
below_itself false n a h = absurd cc

at_least_sinks : (up : Bool) (e : Term) (p : Probe) → In p (probe_if up (copy_term e) Always) → Sinks up (NowAtLeast e) p
at_least_sinks true e p (inl z) h =
    let at = copy_term e in
    let here : kn at (body (NowAtLeast e) at) ≡ No = subst (λ (q : Probe). kn q.at (body (NowAtLeast e) q.at) ≡ No) z h in
    absurd (at_least_itself (same_base at.base e.base && is_there at at.base) e.plus (Times at Ge e) here)
at_least_sinks true e p (inr i) h = absurd i
at_least_sinks false e p i h = absurd i

before_sinks : (up : Bool) (e : Term) (p : Probe) → In p (probe_if (not up) (copy_term e) Always) → Sinks up (NowBefore e) p
before_sinks false e p (inl z) h =
    let at = copy_term e in
    let here : kn at (body (NowBefore e) at) ≡ Yes = subst (λ (q : Probe). kn q.at (body (NowBefore e) q.at) ≡ Yes) z h in
    absurd (below_itself (same_base at.base e.base && is_there at at.base) e.plus (Times at Lt e) here)
before_sinks false e p (inr i) h = absurd i
before_sinks true e p i h = absurd i

-- of two that are asked, one that is False is enough
left_no : (at : Term) (x y : Condition) → kn at x ≡ No → kn at (All x y) ≡ No
left_no at x y h = all_kn at x y ∙ ap (λ k. kall k (kn at y)) h

right_no : (at : Term) (x y : Condition) → kn at y ≡ No → kn at (All x y) ≡ No
right_no at x y h = all_kn at x y ∙ ap (kall (kn at x)) h ∙ all_no (kn at x)

not_no : (at : Term) (x : Condition) → kn at x ≡ Yes → kn at (Not x) ≡ No
not_no at x h = not_kn at x ∙ ap knot h

back : (k : KnownTruth) (up : Bool) → knot k ≡ sunk up → k ≡ sunk (not up)
back Yes true h = refl
back No true h = absurd cc
back Open true h = absurd cc
back Yes false h = absurd cc
back No false h = refl
back Open false h = absurd cc

renamed_no : (v : Var) (at : Term) → Free v at.base → (x : Condition) → kn at x ≡ No → kn at (renamed v (copy v) x) ≡ No
renamed_no v at free x h = subst (λ k. Least k (kn at (renamed v (copy v) x))) h (renamed_kept v (copy v) at free x)

some_row_no : (v : Var) (t : Table) (at : Term) → Free v at.base → (x : Condition) → kn at x ≡ No → kn at (some_row v t at x) ≡ No
some_row_no v t at free x h =
    elim (cases_Bool (is_driver v at)) [
      | inl y ↦ ap (kn at) (some_row_yes v t at x y) ∙ renamed_no v at free x h
      | inr y ↦
          ap (kn at) (some_row_not v t at x y) ∙ exists_kn at v t (All (Plain (Times (arrival_term v) Le at)) x)
          ∙ ap kexists (right_no at (Plain (Times (arrival_term v) Le at)) x h)
    ]

-- the body of an EXISTS is False only if its inner condition's is
inner_no : (v : Var) (t : Table) (x : Condition) (at : Term) → Free v at.base → kn at (body (Exists v t x) at) ≡ No
    → kn at (body x at) ≡ No
inner_no v t x at free h =
    let come = Plain (Times (arrival_term v) Le at) in
    let both = exists_no_part (kn at (All come (body x at))) (sym (exists_kn at v t (All come (body x at))) ∙ h) in
    elim (all_no_parts (kn at come) (kn at (body x at)) (sym (all_kn at come (body x at)) ∙ both)) [
      | inl n ↦ absurd (is_open (sym (come_open v at free) ∙ n))
      | inr n ↦ n
    ]
  where
    is_open : Open ≡ No → ⊥
    is_open e = absurd cc

-- a probe of a bound row's arrival, or of a mark of the inner condition
inside_no : (v : Var) (t : Table) (x : Condition) (p : Probe) → Free v p.at.base
    → In p (probe_if true (arrival_term (copy v)) (renamed v (copy v) (body x (arrival_term (copy v))))
    ++ map (λ p. asking p (some_row v t p.at p.body)) (delta x true))
    → ((q : Probe) → In q (delta x true) → Sinks true x q) → Sinks true (Exists v t x) p
inside_no v t x p free i below h =
    let at = arrival_term (copy v) in
    let own = renamed v (copy v) (body x at) in
    let n = inner_no v t x p.at free h in
    elim (append_in (probe_if true at own) (map (λ p. asking p (some_row v t p.at p.body)) (delta x true)) p i) [
      | inl j ↦
          let e = (one_probe true at own p j).1 in
          let here : kn at (body x at) ≡ No = subst (λ (z : Probe). kn z.at (body x z.at) ≡ No) e n in
          let free' : Free v at.base = subst (λ (z : Probe). Free v z.at.base) e free in
          subst (λ (z : Probe). kn z.at z.body ≡ No) (sym e) (renamed_no v at free' (body x at) here)
      | inr j ↦
          let q = map_in (λ p. asking p (some_row v t p.at p.body)) (delta x true) p j in
          let here : kn q.0.at (body x q.0.at) ≡ No = subst (λ (z : Probe). kn z.at (body x z.at) ≡ No) q.2 n in
          let free' : Free v q.0.at.base = subst (λ (z : Probe). Free v z.at.base) q.2 free in
          subst (λ (z : Probe). kn z.at z.body ≡ No) (sym q.2) (some_row_no v t q.0.at free' q.0.body (below q.0 q.1 here))
    ]

-- a probe asks something False if the whole body is False there (sign plus) or True (sign minus)
sinks : (c : Condition) (up : Bool) (scope : List ℕ) → Scoped scope c → (p : Probe) → In p (delta c up) → Sinks up c p
sinks Always up scope sc p i h = absurd i
sinks Never up scope sc p i h = absurd i
sinks (Plain a) up scope sc p i h = absurd i
sinks (NowAtLeast e) up scope sc p i h = at_least_sinks up e p i h
sinks (NowBefore e) up scope sc p i h = before_sinks up e p i h
sinks (All l r) true scope sc p i h =
    elim (append_in (map (λ p. asking p (All p.body (body r p.at))) (delta l true))
    (map (λ p. asking p (All (body l p.at) p.body)) (delta r true)) p i) [
      | inl j ↦
          let q = map_in (λ p. asking p (All p.body (body r p.at))) (delta l true) p j in
          let at = q.0.at in
          let whole : kn at (body (All l r) at) ≡ No = subst (λ (z : Probe). kn z.at (body (All l r) z.at) ≡ No) q.2 h in
          subst (λ (z : Probe). kn z.at z.body ≡ No) (sym q.2) (
          elim (all_no_parts _ _ (sym (all_kn at (body l at) (body r at)) ∙ whole)) [
            | inl n ↦ left_no at q.0.body (body r at) (sinks l true scope sc.0 q.0 q.1 n)
            | inr n ↦ right_no at q.0.body (body r at) n
          ])
      | inr j ↦
          let q = map_in (λ p. asking p (All (body l p.at) p.body)) (delta r true) p j in
          let at = q.0.at in
          let whole : kn at (body (All l r) at) ≡ No = subst (λ (z : Probe). kn z.at (body (All l r) z.at) ≡ No) q.2 h in
          subst (λ (z : Probe). kn z.at z.body ≡ No) (sym q.2) (
          elim (all_no_parts _ _ (sym (all_kn at (body l at) (body r at)) ∙ whole)) [
            | inl n ↦ left_no at (body l at) q.0.body n
            | inr n ↦ right_no at (body l at) q.0.body (sinks r true scope sc.1 q.0 q.1 n)
          ])
    ]
sinks (All l r) false scope sc p i h =
    let both = all_yes_parts _ _ (sym (all_kn p.at (body l p.at) (body r p.at)) ∙ h) in
    elim (append_in (delta l false) (delta r false) p i) [
      | inl j ↦ sinks l false scope sc.0 p j both.0
      | inr j ↦ sinks r false scope sc.1 p j both.1
    ]
sinks (Either l r) true scope sc p i h =
    let both = either_no_parts _ _ (sym (either_kn p.at (body l p.at) (body r p.at)) ∙ h) in
    elim (append_in (delta l true) (delta r true) p i) [
      | inl j ↦ sinks l true scope sc.0 p j both.0
      | inr j ↦ sinks r true scope sc.1 p j both.1
    ]
sinks (Either l r) false scope sc p i h =
    elim (append_in (map (λ p. asking p (All p.body (Not (body r p.at)))) (delta l false))
    (map (λ p. asking p (All (Not (body l p.at)) p.body)) (delta r false)) p i) [
      | inl j ↦
          let q = map_in (λ p. asking p (All p.body (Not (body r p.at)))) (delta l false) p j in
          let at = q.0.at in
          let whole : kn at (body (Either l r) at) ≡ Yes = subst (λ (z : Probe). kn z.at (body (Either l r) z.at) ≡ Yes) q.2 h in
          subst (λ (z : Probe). kn z.at z.body ≡ No) (sym q.2) (
          elim (either_yes_parts _ _ (sym (either_kn at (body l at) (body r at)) ∙ whole)) [
            | inl y ↦ left_no at q.0.body (Not (body r at)) (sinks l false scope sc.0 q.0 q.1 y)
            | inr y ↦ right_no at q.0.body (Not (body r at)) (not_no at (body r at) y)
          ])
      | inr j ↦
          let q = map_in (λ p. asking p (All (Not (body l p.at)) p.body)) (delta r false) p j in
          let at = q.0.at in
          let whole : kn at (body (Either l r) at) ≡ Yes = subst (λ (z : Probe). kn z.at (body (Either l r) z.at) ≡ Yes) q.2 h in
          subst (λ (z : Probe). kn z.at z.body ≡ No) (sym q.2) (
          elim (either_yes_parts _ _ (sym (either_kn at (body l at) (body r at)) ∙ whole)) [
            | inl y ↦ left_no at (Not (body l at)) q.0.body (not_no at (body l at) y)
            | inr y ↦ right_no at (Not (body l at)) q.0.body (sinks r false scope sc.1 q.0 q.1 y)
          ])
    ]
sinks (Not x) up scope sc p i h =
    sinks x (not up) scope sc p i (back (kn p.at (body x p.at)) up (sym (not_kn p.at (body x p.at)) ∙ h))
sinks (Exists v t x) true scope sc p i h =
    let step = step_of v t x in
    let at = arrival_term (copy v) in
    let o = map_in (under_probe step)
    (probe_if true at (renamed v (copy v) (body x at)) ++ map (λ p. asking p (some_row v t p.at p.body)) (delta x true)) p i in
    let f : Fine (mark_of p) = delta_fine (Exists v t x) true scope sc p i in
    let free : Free v p.at.base = subst (λ (z : Term). Free v z.base) (sym f.is_copy) (copy_free v f.term.base sc.0 sc.1) in
    let free' : Free v o.0.at.base = subst (λ (z : Probe). Free v z.at.base) o.2 free in
    let h' : kn o.0.at (body (Exists v t x) o.0.at) ≡ No = subst (λ (z : Probe). kn z.at (body (Exists v t x) z.at) ≡ No) o.2 h in
    subst (λ (z : Probe). kn z.at z.body ≡ No) (sym o.2)
    (inside_no v t x o.0 free' o.1 (λ q j. sinks x true (v.0 ∷ scope) sc.3 q j) h')
sinks (Exists v t x) false scope sc p i h =
    let x' = All (Plain (Times (arrival_term v) Le p.at)) (body x p.at) in
    absurd (exists_not_yes (kn p.at x') (sym (exists_kn p.at v t x') ∙ h))

-- a probe whose folded body is False isn't in the delta window
settled_no : (p : Probe) → kn p.at p.body ≡ No → can_find (fold_probe (settle_probe p)) ≡ false
settled_no p h =
    let n : fold p.at p.body ≡ Never = no_is (fold p.at p.body) h in
    ap (λ x. not (is_no (known (fold p.at (settled p.path x))))) n

module _ (c : Condition) (a : ℤ) (q : IsQuery c) where
  below_sinks : (p : Probe) → In p (below_first c a) → kn p.at (body c p.at) ≡ No → kn p.at p.body ≡ No
  below_sinks p i h =
      elim (whole_or_delta c a p i) [
        | inl w ↦
            let here : kn (copy_term w.0) (body c (copy_term w.0)) ≡ No = subst (λ (z : Probe). kn z.at (body c z.at) ≡ No) w.1 h in
            subst (λ (z : Probe). kn z.at z.body ≡ No) (sym w.1) here
        | inr j ↦ sinks c true (0 ∷ []) q p j h
      ]

  -- what the delta window keeps the window keeps
  still_found : (p : Probe) → In p (unsettled c a) → can_find (fold_probe (settle_probe p)) ≡ true
      → can_find (fold_probe (probe_of c (mark_of p))) ≡ true
  still_found p i y =
      elim (cases_Bool (can_find (fold_probe (probe_of c (mark_of p))))) [
        | inl t ↦ t
        | inr n ↦
            let k = map_in (under_probe (first_step c)) (below_first c a) p i in
            let whole : kn p.at (body c p.at) ≡ No = is_no_is (kn p.at (body c p.at)) (not-false _ n) in
            let here : kn k.0.at (body c k.0.at) ≡ No = subst (λ (z : Probe). kn z.at (body c z.at) ≡ No) k.2 whole in
            let own : kn p.at p.body ≡ No = subst (λ (z : Probe). kn z.at z.body ≡ No) (sym k.2) (below_sinks k.0 k.1 here) in
            absurd (false≢true (sym (settled_no p own) ∙ y))
      ]

pub no_other_mark : DeltaHasNoOtherMark
no_other_mark c a q p i =
    let f = filter_in can_find (map fold_probe (map settle_probe (unsettled c a))) p i in
    let k = map_in fold_probe (map settle_probe (unsettled c a)) p f.0 in
    let l = map_in settle_probe (unsettled c a) k.0 k.1 in
    let e = k.2 ∙ ap fold_probe l.2 in
    let mark = mark_of l.0 in
    let m = subst (λ ms. In mark ms) (unsettled_marks c a) (in_map mark_of (unsettled c a) l.0 l.1) in
    let other = fold_probe (probe_of c mark) in
    let y = still_found c a q l.0 l.1 (sym (ap can_find e) ∙ f.1) in (
      other,
      in_filter can_find (map fold_probe (unfolded c a)) other
          (in_map fold_probe (unfolded c a) (probe_of c mark) (in_map (probe_of c) (rising_from c a) mark m)) y,
      ap (λ (z : Probe). z.path) (sym e),
      ap (λ (z : Probe). z.at) (sym e),
    )
