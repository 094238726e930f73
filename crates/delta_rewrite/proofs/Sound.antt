-- What a delta probe asks makes its condition true, or false by a mark of the other sign.
use Rattle.std.proofs.Common.{◌≡◌, ℕ, ℤ, Bool, true, false, not, Some, List, ◌∷◌, ◌++◌, refl, sym, ap, ◌∙◌, subst, inl, inr}
use Rattle.std.proofs.Common.{arith}
use Rattle.std.specs.Prelude.{map, int_le}
use Rattle.std.proofs.lemmas.Int.{ints}
use Rattle.std.proofs.lemmas.Bool.{cases_Bool, and_parts, and_left, and_right, or_left, or_right, or_from, not-true}
use Rattle.tap_base.specs.declared.numbers.Op.TheVariants.{Le}
use Rattle.tql_tree.specs.declared.table.Table.{Table}
use Rattle.tql_core.specs.declared.term.Var.{Var}
use Rattle.tql_core.specs.declared.term.Term.{Term}
use Rattle.tql_core.specs.declared.atom.Atom.TheVariants.{Times}
use Rattle.tql_core.specs.Condition.{Condition, Always, Never, Plain, NowAtLeast, NowBefore, All, Either, Not, Exists}
use Rattle.tql_core.specs.Row.{Row, arrival, rows_of}
use Rattle.tql_core.specs.Values.{Env, bind, lookup, value}
use Rattle.tql_core.specs.Holds.{truth}
use Rattle.tql_core.specs.Scope.{Scoped}
use Rattle.tap_rows.specs.declared.tables.Tables.{Tables}
use Rattle.tap_rows.specs.Results.{visible}
use Rattle.tap_rows.specs.Kept.{In}
use Rattle.tap_rows.proofs.Tests.{le_itself, lt_not}
use Rattle.time_marks.specs.Laws.{Same}
use Rattle.time_marks.specs.Marks.{copied, copy, copy_term, arrival_term, step_of, body}
use Rattle.time_marks.specs.Probes.{Probe}
use Rattle.time_marks.proofs.Lists.{any_in, map_in, append_in}
use Rattle.time_marks.proofs.Envs.{same_bind}
use Rattle.delta_rewrite.specs.Delta.{renamed, is_driver, under_probe, asking, some_row, probe_if, delta}
use Rattle.delta_rewrite.proofs.MarksOf.{one_probe, delta_fine, some_row_not}
use Rattle.delta_rewrite.proofs.Asks.{driver_is, driver_is_not, copy_value, visible_any, body_at, at_stays, came}
use Rattle.delta_rewrite.proofs.Asks.{Asks, asks_body, asks_below}
use Rattle.delta_rewrite.proofs.Driven.{driven_truth, first_truth}

not_back : (up b : Bool) → b ≡ not up → not b ≡ up
not_back true b e = ap not e
not_back false b e = ap not e

module _ (T : Tables) (n b : ℤ) where
  at_least : (e : Term) (up : Bool) (env : Env) → value e env ≡ Some b → up ≡ true → truth (visible T b) b (NowAtLeast e) env ≡ up
  at_least e up env v y = rw (v, y) (le_itself b)

  before : (e : Term) (up : Bool) (env : Env) → value e env ≡ Some b → not up ≡ true → truth (visible T b) b (NowBefore e) env ≡ up
  before e up env v y = rw (v, not-true up y) (lt_not b b (omega (arith, ints)))

  -- a side that stays as it is at the mark
  side : (c x : Condition) (up : Bool) (scope : List ℕ) (env final : Env) → Scoped scope c → Scoped scope x → Same scope env final
      → (p : Probe) → In p (delta x up) → value p.at final ≡ Some b → truth T n (body c p.at) final ≡ truth (visible T b) b c env
  side c x up scope env final sc sx h p i v =
      let f = delta_fine x up scope sx p i in
      body_at T n b p.at f.term f.is_copy c scope env final sc h v

  -- a row of the variable's copy that makes the inner condition true
  witness : (v : Var) (t : Table) (x : Condition) (env : Env) (r : Row) → In r (rows_of t T) → int_le (arrival r) b ≡ true
      → truth (visible T b) b x (bind v r env) ≡ true → truth (visible T b) b (Exists v t x) env ≡ true
  witness v t x env r i come y = visible_any t T b (λ row. truth (visible T b) b x (bind v row env)) r i come y

  -- what a probe asks gives its condition the truth of its mark's sign
  pub sound : (c : Condition) (up : Bool) (scope : List ℕ) (env final : Env) → Scoped scope c → Same scope env final
      → (p : Probe) → In p (delta c up) → Asks T n b scope env final p → truth (visible T b) b c env ≡ up
  sound Always up scope env final sc h p i a = absurd i
  sound Never up scope env final sc h p i a = absurd i
  sound (Plain q) up scope env final sc h p i a = absurd i
  sound (NowAtLeast e) up scope env final sc h p i a =
      let o = one_probe up (copy_term e) Always p i in
      let k = subst (Asks T n b scope env final) o.1 a in
      at_least e up env (sym (copy_value scope e env final sc k.outer) ∙ k.at) o.0
  sound (NowBefore e) up scope env final sc h p i a =
      let o = one_probe (not up) (copy_term e) Always p i in
      let k = subst (Asks T n b scope env final) o.1 a in
      before e up env (sym (copy_value scope e env final sc k.outer) ∙ k.at) o.0
  sound (All l r) true scope env final sc h p i a =
      elim (append_in (map (λ p. asking p (All p.body (body r p.at))) (delta l true))
      (map (λ p. asking p (All (body l p.at) p.body)) (delta r true)) p i) [
        | inl j ↦
            let q = map_in (λ p. asking p (All p.body (body r p.at))) (delta l true) p j in
            let k = subst (Asks T n b scope env final) q.2 a in
            let y = and_parts _ _ k.body in
            rw (sound l true scope env final sc.0 h q.0 q.1 (asks_body T n b scope env final q.0 (All q.0.body (body r q.0.at)) k y.0))
            (sym (side r l true scope env final sc.1 sc.0 h q.0 q.1 k.at) ∙ y.1)
        | inr j ↦
            let q = map_in (λ p. asking p (All (body l p.at) p.body)) (delta r true) p j in
            let k = subst (Asks T n b scope env final) q.2 a in
            let y = and_parts _ _ k.body in
            rw (sym (side l r true scope env final sc.0 sc.1 h q.0 q.1 k.at) ∙ y.0)
            (sound r true scope env final sc.1 h q.0 q.1 (asks_body T n b scope env final q.0 (All (body l q.0.at) q.0.body) k y.1))
      ]
  sound (All l r) false scope env final sc h p i a =
      elim (append_in (delta l false) (delta r false) p i) [
        | inl j ↦ and_left _ _ (sound l false scope env final sc.0 h p j a)
        | inr j ↦ and_right _ _ (sound r false scope env final sc.1 h p j a)
      ]
  sound (Either l r) true scope env final sc h p i a =
      elim (append_in (delta l true) (delta r true) p i) [
        | inl j ↦ or_left _ _ (sound l true scope env final sc.0 h p j a)
        | inr j ↦ or_right _ _ (sound r true scope env final sc.1 h p j a)
      ]
  sound (Either l r) false scope env final sc h p i a =
      elim (append_in (map (λ p. asking p (All p.body (Not (body r p.at)))) (delta l false))
      (map (λ p. asking p (All (Not (body l p.at)) p.body)) (delta r false)) p i) [
        | inl j ↦
            let q = map_in (λ p. asking p (All p.body (Not (body r p.at)))) (delta l false) p j in
            let k = subst (Asks T n b scope env final) q.2 a in
            let y = and_parts _ _ k.body in
            or_from _ _
            (sound l false scope env final sc.0 h q.0 q.1 (asks_body T n b scope env final q.0 (All q.0.body (Not (body r q.0.at))) k y.0))
            (sym (side r l false scope env final sc.1 sc.0 h q.0 q.1 k.at) ∙ not-true _ y.1)
        | inr j ↦
            let q = map_in (λ p. asking p (All (Not (body l p.at)) p.body)) (delta r false) p j in
            let k = subst (Asks T n b scope env final) q.2 a in
            let y = and_parts _ _ k.body in
            or_from _ _
            (sym (side l r false scope env final sc.0 sc.1 h q.0 q.1 k.at) ∙ not-true _ y.0)
            (sound r false scope env final sc.1 h q.0 q.1 (asks_body T n b scope env final q.0 (All (Not (body l q.0.at)) q.0.body) k y.1))
      ]
  sound (Not x) up scope env final sc h p i a =
      not_back up (truth (visible T b) b x env) (sound x (not up) scope env final sc h p i a)
  sound (Exists v t x) true scope env final sc h p i a =
      let step = step_of v t x in
      let at = arrival_term (copy v) in
      let first = renamed v (copy v) (body x at) in
      let o = map_in (under_probe step) (probe_if true at first ++ map (λ p. asking p (some_row v t p.at p.body)) (delta x true)) p i in
      let k = subst (Asks T n b scope env final) o.2 a in
      elim (append_in (probe_if true at first) (map (λ p. asking p (some_row v t p.at p.body)) (delta x true)) o.0 o.1) [
        | inl j ↦
            let q = one_probe true at first o.0 j in
            let m = subst (λ z. Asks T n b scope env final (under_probe step z)) q.1 k in
            let r = m.inner (copied v.0) (inl refl) step (inl refl) refl in
            witness v t x env r.0 r.1 r.3 (sym (first_truth T n scope v t x sc b r.0 env final h r.2 m.at) ∙ m.body)
        | inr j ↦
            let q = map_in (λ p. asking p (some_row v t p.at p.body)) (delta x true) o.0 j in
            let m = subst (λ z. Asks T n b scope env final (under_probe step z)) q.2 k in
            inner v t x scope env final sc h (λ s e f. sound x true s e f) q.0 q.1 m
      ]
    where
      inner : (v : Var) (t : Table) (x : Condition) (scope : List ℕ) (env final : Env) → Scoped scope (Exists v t x) → Same scope env final
          → ((scope : List ℕ) (env final : Env) → Scoped scope x → Same scope env final
          → (p : Probe) → In p (delta x true) → Asks T n b scope env final p → truth (visible T b) b x env ≡ true)
          → (p : Probe) → In p (delta x true)
          → Asks T n b scope env final (under_probe (step_of v t x) (asking p (some_row v t p.at p.body)))
          → truth (visible T b) b (Exists v t x) env ≡ true
      inner v t x scope env final sc h rest p i a =
          let step = step_of v t x in
          let f = delta_fine x true (v.0 ∷ scope) sc.3 p i in
          elim (cases_Bool (is_driver v p.at)) [
            | inl y ↦
                let k = driver_is v p.at y in
                let r = a.inner (copied v.0) k step (inl refl) refl in
                let z = sym (driven_truth T n scope v t x sc p i y r.0 final r.2) ∙ a.body in
                witness v t x env r.0 r.1 r.3
                (rest (v.0 ∷ scope) (bind v r.0 env) (bind v r.0 final) sc.3 (same_bind scope env final v r.0 h) p i
                (asks_below T n b scope env final v t x p f.term (some_row v t p.at p.body) r.0 sc.0 sc.1 sc.2 f.is_copy a
                (λ k i e. subst (λ j. lookup j final ≡ Some r.0) (sym e) r.2) z))
            | inr y ↦
                let c = All (Plain (Times (arrival_term v) Le p.at)) p.body in
                let s = subst (λ c. truth T n c final ≡ true) (some_row_not v t p.at p.body y) a.body in
                let r = any_in (λ row. truth T n c (bind v row final)) (rows_of t T) s in
                let z = and_parts _ _ r.2 in
                let here = at_stays p.at f.term f.is_copy v r.0 final sc.0 sc.1 ∙ a.at in
                witness v t x env r.0 r.1 (sym (came v r.0 p.at final b here) ∙ z.0)
                (rest (v.0 ∷ scope) (bind v r.0 env) (bind v r.0 final) sc.3 (same_bind scope env final v r.0 h) p i
                (asks_below T n b scope env final v t x p f.term (some_row v t p.at p.body) r.0 sc.0 sc.1 sc.2 f.is_copy a
                (λ k i e. absurd (driver_is_not v p.at y k i e)) z.1))
          ]
  sound (Exists v t x) false scope env final sc h p i a =
      let step = step_of v t x in
      let o = map_in (under_probe step) (map (λ p. asking p (Not (body (Exists v t x) p.at))) (delta x false)) p i in
      let q = map_in (λ p. asking p (Not (body (Exists v t x) p.at))) (delta x false) o.0 o.1 in
      let k = subst (Asks T n b scope env final) (o.2 ∙ ap (under_probe step) q.2) a in
      let f = delta_fine x false (v.0 ∷ scope) sc.3 q.0 q.1 in
      sym (body_at T n b q.0.at f.term f.is_copy (Exists v t x) scope env final sc h k.at) ∙ not-true _ k.body
