-- What a delta probe's body names, and how deep its EXISTS nest.
use Rattle.std.proofs.Common.{◌≡◌, ℕ, suc, ◌≤◌, Bool, true, false, not, List, ◌∷◌, ◌++◌, refl, sym, ap, ◌∙◌, subst, inl, inr, arith}
use Rattle.std.specs.Prelude.{map}
use Rattle.std.proofs.lemmas.Bool.{cases_Bool}
use Rattle.tql_tree.specs.declared.table.Table.{Table}
use Rattle.tql_core.specs.declared.term.Var.{Var}
use Rattle.tql_core.specs.declared.term.Base.{Base}
use Rattle.tql_core.specs.declared.term.Base.TheVariants.{Arrival, Date, Fixed, ArrivalDay, DateDay}
use Rattle.tql_core.specs.declared.term.Term.{Term}
use Rattle.tql_core.specs.Condition.{Condition, Always, Never, Plain, NowAtLeast, NowBefore, All, Either, Not, Exists}
use Rattle.tql_core.specs.Scope.{BaseIn, Scoped}
use Rattle.tap_rows.specs.Kept.{In}
use Rattle.time_marks.specs.Found.{base_vars, NamesInScope, nested, higher}
use Rattle.time_marks.specs.Marks.{copied, copy, copy_term, arrival_term, step_of, body}
use Rattle.time_marks.specs.Probes.{Probe}
use Rattle.time_marks.proofs.Depth.{higher_left, higher_right}
use Rattle.time_marks.proofs.Lists.{map_in, append_in}
use Rattle.monotone_rewrite.proofs.Depths.{high_least, higher_both, nested_body}
use Rattle.monotone_rewrite.proofs.Folds.{body_named, wider}
use Rattle.delta_rewrite.specs.Delta.{renamed, is_driver, under_probe, asking, some_row, probe_if, delta}
use Rattle.delta_rewrite.proofs.MarksOf.{one_probe, some_row_yes, some_row_not}
use Rattle.delta_rewrite.proofs.Asks.{driver_is}
use Rattle.delta_rewrite.proofs.Renaming.{names_renamed, nested_renamed}

-- the base names its driver alone
pub base_inside : (b : Base) (outer : List ℕ) → ((k : ℕ) → In k (base_vars b) → In k outer) → BaseIn outer b
base_inside (Arrival v) outer h = h v.0 (inl refl)
base_inside (Date v) outer h = h v.0 (inl refl)
base_inside Fixed outer h = tt
base_inside (ArrivalDay v n) outer h = h v.0 (inl refl)
base_inside (DateDay v n) outer h = h v.0 (inl refl)

-- what a mark's driver is in
abbrev pub DriverIn : List ℕ → Probe → Type 0
DriverIn outer p = (k : ℕ) → In k (base_vars p.at.base) → In k outer

-- without the old variable
without : (v : ℕ) (outer : List ℕ) (k : ℕ) → In k (v ∷ outer) → (k ≡ v → ⊥) → In k outer
without v outer k (inl e) m = absurd (m e)
without v outer k (inr i) m = i

some_row_named : (v : Var) (t : Table) (p : Probe) (outer : List ℕ) → 1 ≤ v.0 → v.0 ≤ 5 → DriverIn outer p
    → NamesInScope (v.0 ∷ outer) p.body → NamesInScope outer (some_row v t p.at p.body)
some_row_named v t p outer lo hi u na =
    elim (cases_Bool (is_driver v p.at)) [
      | inl y ↦
          subst (NamesInScope outer) (sym (some_row_yes v t p.at p.body y))
          (names_renamed v (copy v) p.body (v.0 ∷ outer) outer (without v.0 outer) (u (copied v.0) (driver_is v p.at y)) na)
      | inr y ↦
          subst (NamesInScope outer) (sym (some_row_not v t p.at p.body y))
          (lo, hi, ((inl refl, base_inside p.at.base (v.0 ∷ outer) (λ k i. inr (u k i))), na))
    ]

-- a body names the variables in scope and the driver alone
pub delta_named : (c : Condition) (up : Bool) (scope outer : List ℕ) → Scoped scope c → ((k : ℕ) → In k scope → In k outer)
    → (p : Probe) → In p (delta c up) → DriverIn outer p → NamesInScope outer p.body
delta_named Always up scope outer sc h p i u = absurd i
delta_named Never up scope outer sc h p i u = absurd i
delta_named (Plain a) up scope outer sc h p i u = absurd i
delta_named (NowAtLeast e) up scope outer sc h p i u =
    subst (λ z. NamesInScope outer z.body) (sym (one_probe up (copy_term e) Always p i).1) tt
delta_named (NowBefore e) up scope outer sc h p i u =
    subst (λ z. NamesInScope outer z.body) (sym (one_probe (not up) (copy_term e) Always p i).1) tt
delta_named (All l r) true scope outer sc h p i u =
    elim (append_in (map (λ p. asking p (All p.body (body r p.at))) (delta l true))
    (map (λ p. asking p (All (body l p.at) p.body)) (delta r true)) p i) [
      | inl j ↦
          let q = map_in (λ p. asking p (All p.body (body r p.at))) (delta l true) p j in
          let w : DriverIn outer q.0 = subst (DriverIn outer) q.2 u in
          subst (λ z. NamesInScope outer z.body) (sym q.2)
          (delta_named l true scope outer sc.0 h q.0 q.1 w, body_named q.0.at r scope outer sc.1 h (base_inside q.0.at.base outer w))
      | inr j ↦
          let q = map_in (λ p. asking p (All (body l p.at) p.body)) (delta r true) p j in
          let w : DriverIn outer q.0 = subst (DriverIn outer) q.2 u in
          subst (λ z. NamesInScope outer z.body) (sym q.2)
          (body_named q.0.at l scope outer sc.0 h (base_inside q.0.at.base outer w), delta_named r true scope outer sc.1 h q.0 q.1 w)
    ]
delta_named (All l r) false scope outer sc h p i u =
    elim (append_in (delta l false) (delta r false) p i) [
      | inl j ↦ delta_named l false scope outer sc.0 h p j u
      | inr j ↦ delta_named r false scope outer sc.1 h p j u
    ]
delta_named (Either l r) true scope outer sc h p i u =
    elim (append_in (delta l true) (delta r true) p i) [
      | inl j ↦ delta_named l true scope outer sc.0 h p j u
      | inr j ↦ delta_named r true scope outer sc.1 h p j u
    ]
delta_named (Either l r) false scope outer sc h p i u =
    elim (append_in (map (λ p. asking p (All p.body (Not (body r p.at)))) (delta l false))
    (map (λ p. asking p (All (Not (body l p.at)) p.body)) (delta r false)) p i) [
      | inl j ↦
          let q = map_in (λ p. asking p (All p.body (Not (body r p.at)))) (delta l false) p j in
          let w : DriverIn outer q.0 = subst (DriverIn outer) q.2 u in
          subst (λ z. NamesInScope outer z.body) (sym q.2)
          (delta_named l false scope outer sc.0 h q.0 q.1 w, body_named q.0.at r scope outer sc.1 h (base_inside q.0.at.base outer w))
      | inr j ↦
          let q = map_in (λ p. asking p (All (Not (body l p.at)) p.body)) (delta r false) p j in
          let w : DriverIn outer q.0 = subst (DriverIn outer) q.2 u in
          subst (λ z. NamesInScope outer z.body) (sym q.2)
          (body_named q.0.at l scope outer sc.0 h (base_inside q.0.at.base outer w), delta_named r false scope outer sc.1 h q.0 q.1 w)
    ]
delta_named (Not x) up scope outer sc h p i u = delta_named x (not up) scope outer sc h p i u
delta_named (Exists v t x) true scope outer sc h p i u =
    let step = step_of v t x in
    let at = arrival_term (copy v) in
    let first = renamed v (copy v) (body x at) in
    let o = map_in (under_probe step) (probe_if true at first ++ map (λ p. asking p (some_row v t p.at p.body)) (delta x true)) p i in
    let w : DriverIn outer o.0 = subst (DriverIn outer) o.2 u in
    subst (λ z. NamesInScope outer z.body) (sym o.2) (
    elim (append_in (probe_if true at first) (map (λ p. asking p (some_row v t p.at p.body)) (delta x true)) o.0 o.1) [
      | inl j ↦
          let q = one_probe true at first o.0 j in
          let w' = subst (DriverIn outer) q.1 w in
          let c = w' (copied v.0) (inl refl) in
          subst (λ z. NamesInScope outer z.body) (sym q.1)
          (names_renamed v (copy v) (body x at) (v.0 ∷ outer) outer (without v.0 outer) c
          (body_named at x (v.0 ∷ scope) (v.0 ∷ outer) sc.3 (wider v.0 scope outer h) (inr c)))
      | inr j ↦
          let q = map_in (λ p. asking p (some_row v t p.at p.body)) (delta x true) o.0 j in
          let w' : DriverIn outer q.0 = subst (DriverIn outer) q.2 w in
          subst (λ z. NamesInScope outer z.body) (sym q.2)
          (some_row_named v t q.0 outer sc.0 sc.1 w'
          (delta_named x true (v.0 ∷ scope) (v.0 ∷ outer) sc.3 (wider v.0 scope outer h) q.0 q.1 (λ k m. inr (w' k m))))
    ])
delta_named (Exists v t x) false scope outer sc h p i u =
    let step = step_of v t x in
    let o = map_in (under_probe step) (map (λ p. asking p (Not (body (Exists v t x) p.at))) (delta x false)) p i in
    let q = map_in (λ p. asking p (Not (body (Exists v t x) p.at))) (delta x false) o.0 o.1 in
    let e = o.2 ∙ ap (under_probe step) q.2 in
    let w : DriverIn outer q.0 = subst (DriverIn outer) e u in
    subst (λ z. NamesInScope outer z.body) (sym e) (body_named q.0.at (Exists v t x) scope outer sc h (base_inside q.0.at.base outer w))

some_row_nested : (v : Var) (t : Table) (at : Term) (x : Condition) → nested (some_row v t at x) ≤ suc (nested x)
some_row_nested v t at x =
    elim (cases_Bool (is_driver v at)) [
      | inl y ↦ subst (λ z. nested z ≤ suc (nested x)) (sym (some_row_yes v t at x y)) (omega (arith, nested_renamed v (copy v) x))
      | inr y ↦
          subst (λ z. nested z ≤ suc (nested x)) (sym (some_row_not v t at x y)) (omega (
            arith,
            high_least 0 (nested x) (nested x)
                (omega arith) (omega arith),
          ))
    ]

-- a body isn't deeper than the condition
pub delta_nested : (c : Condition) (up : Bool) (p : Probe) → In p (delta c up) → nested p.body ≤ nested c
delta_nested Always up p i = absurd i
delta_nested Never up p i = absurd i
delta_nested (Plain a) up p i = absurd i
delta_nested (NowAtLeast e) up p i = subst (λ z. nested z.body ≤ 0) (sym (one_probe up (copy_term e) Always p i).1) (omega arith)
delta_nested (NowBefore e) up p i = subst (λ z. nested z.body ≤ 0) (sym (one_probe (not up) (copy_term e) Always p i).1) (omega arith)
delta_nested (All l r) true p i =
    elim (append_in (map (λ p. asking p (All p.body (body r p.at))) (delta l true))
    (map (λ p. asking p (All (body l p.at) p.body)) (delta r true)) p i) [
      | inl j ↦
          let q = map_in (λ p. asking p (All p.body (body r p.at))) (delta l true) p j in
          subst (λ z. nested z.body ≤ higher (nested l) (nested r)) (sym q.2)
          (higher_both _ _ _ _ (delta_nested l true q.0 q.1) (nested_body r q.0.at))
      | inr j ↦
          let q = map_in (λ p. asking p (All (body l p.at) p.body)) (delta r true) p j in
          subst (λ z. nested z.body ≤ higher (nested l) (nested r)) (sym q.2)
          (higher_both _ _ _ _ (nested_body l q.0.at) (delta_nested r true q.0 q.1))
    ]
delta_nested (All l r) false p i =
    elim (append_in (delta l false) (delta r false) p i) [
      | inl j ↦ omega (arith, delta_nested l false p j, higher_left (nested l) (nested r))
      | inr j ↦ omega (arith, delta_nested r false p j, higher_right (nested l) (nested r))
    ]
delta_nested (Either l r) true p i =
    elim (append_in (delta l true) (delta r true) p i) [
      | inl j ↦ omega (arith, delta_nested l true p j, higher_left (nested l) (nested r))
      | inr j ↦ omega (arith, delta_nested r true p j, higher_right (nested l) (nested r))
    ]
delta_nested (Either l r) false p i =
    elim (append_in (map (λ p. asking p (All p.body (Not (body r p.at)))) (delta l false))
    (map (λ p. asking p (All (Not (body l p.at)) p.body)) (delta r false)) p i) [
      | inl j ↦
          let q = map_in (λ p. asking p (All p.body (Not (body r p.at)))) (delta l false) p j in
          subst (λ z. nested z.body ≤ higher (nested l) (nested r)) (sym q.2)
          (higher_both _ _ _ _ (delta_nested l false q.0 q.1) (nested_body r q.0.at))
      | inr j ↦
          let q = map_in (λ p. asking p (All (Not (body l p.at)) p.body)) (delta r false) p j in
          subst (λ z. nested z.body ≤ higher (nested l) (nested r)) (sym q.2)
          (higher_both _ _ _ _ (nested_body l q.0.at) (delta_nested r false q.0 q.1))
    ]
delta_nested (Not x) up p i = delta_nested x (not up) p i
delta_nested (Exists v t x) true p i =
    let step = step_of v t x in
    let at = arrival_term (copy v) in
    let first = renamed v (copy v) (body x at) in
    let o = map_in (under_probe step) (probe_if true at first ++ map (λ p. asking p (some_row v t p.at p.body)) (delta x true)) p i in
    subst (λ z. nested z.body ≤ suc (nested x)) (sym o.2) (
    elim (append_in (probe_if true at first) (map (λ p. asking p (some_row v t p.at p.body)) (delta x true)) o.0 o.1) [
      | inl j ↦
          subst (λ z. nested z.body ≤ suc (nested x)) (sym (one_probe true at first o.0 j).1)
          (omega (arith, nested_renamed v (copy v) (body x at), nested_body x at))
      | inr j ↦
          let q = map_in (λ p. asking p (some_row v t p.at p.body)) (delta x true) o.0 j in
          subst (λ z. nested z.body ≤ suc (nested x)) (sym q.2)
          (omega (arith, some_row_nested v t q.0.at q.0.body, delta_nested x true q.0 q.1))
    ])
delta_nested (Exists v t x) false p i =
    let step = step_of v t x in
    let o = map_in (under_probe step) (map (λ p. asking p (Not (body (Exists v t x) p.at))) (delta x false)) p i in
    let q = map_in (λ p. asking p (Not (body (Exists v t x) p.at))) (delta x false) o.0 o.1 in
    subst (λ z. nested z.body ≤ suc (nested x)) (sym (o.2 ∙ ap (under_probe step) q.2)) (nested_body (Exists v t x) q.0.at)
