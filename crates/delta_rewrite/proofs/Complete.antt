-- Where the truth of a condition changes, a delta probe asks for what is true there.
use Rattle.std.proofs.Common.{◌≡◌, ℕ, ℤ, pos, Bool, true, false, not, Some, List, ◌∷◌, ◌++◌, refl, ap, ◌∙◌, inl, inr}
use Rattle.std.specs.Prelude.{◌&&◌, ◌||◌, ◌+ℤ◌, map, int_le}
use Rattle.std.proofs.lemmas.Bool.{cases_Bool, and_parts, and_from, and_cases, or_cases, or_parts, not_from_false, both_ways}
use Rattle.tql_core.specs.Condition.{Condition, Always, Never, Plain, NowAtLeast, NowBefore, All, Either, Not, Exists}
use Rattle.tql_core.specs.Row.{arrival}
use Rattle.tql_core.specs.Values.{Env, bind}
use Rattle.tql_core.specs.Holds.{truth}
use Rattle.tql_core.specs.Scope.{Scoped}
use Rattle.tap_rows.specs.declared.tables.Tables.{Tables}
use Rattle.tap_rows.specs.Results.{visible}
use Rattle.time_marks.specs.Laws.{Keeps}
use Rattle.time_marks.specs.Marks.{copy, arrival_term, body}
use Rattle.time_marks.specs.Probes.{Probe}
use Rattle.time_marks.proofs.Lists.{visible_in, visible_none}
use Rattle.time_marks.proofs.Seconds.{reached, still}
use Rattle.time_marks.proofs.Envs.{keeps_bind}
use Rattle.time_marks.proofs.Crossing.{crossing}
use Rattle.time_marks.proofs.Bodies.{arrival_value}
use Rattle.delta_rewrite.specs.Delta.{renamed, asking, some_row, probe_if, delta}
use Rattle.delta_rewrite.proofs.MarksOf.{delta_fine}
use Rattle.delta_rewrite.proofs.Asks.{value_driven, body_at}
use Rattle.delta_rewrite.proofs.CrossedProbes.{CrossedBy, crossed_left, crossed_right, crossed_here, crossed_asking, crossed_joined}
use Rattle.delta_rewrite.proofs.CrossedProbes.{crossed_after, leaf, asked_inside, asked_first}

second_false : (a b : Bool) → (a && b) ≡ false → a ≡ true → b ≡ false
second_false a b h e = elim (and_cases a b h) [ inl z ↦ absurd (both_ways a z e) | inr z ↦ z ]

second_true : (a b : Bool) → (a || b) ≡ true → a ≡ false → b ≡ true
second_true a b h e = elim (or_cases a b h) [ inl z ↦ absurd (both_ways a e z) | inr z ↦ z ]

not_changes : (up a : Bool) → not a ≡ up → a ≡ not up
not_changes up true h = ap not h
not_changes up false h = ap not h

module _ (T : Tables) (n u s : ℤ) (next : s ≡ u +ℤ pos 1) where
  -- the truth of a condition changes only if a delta probe of the change's sign has the value s and asks for what is true then
  pub crossing_by : (c : Condition) (up : Bool) (scope : List ℕ) (env penv : Env) → Scoped scope c → Keeps scope env penv
      → truth (visible T u) u c env ≡ not up → truth (visible T s) s c env ≡ up
      → CrossedBy T n s scope env penv scope env (delta c up)
  crossing_by Always up scope env penv sc h a b = absurd (crossing T u s next Always up scope env penv sc h a b).is_mark
  crossing_by Never up scope env penv sc h a b = absurd (crossing T u s next Never up scope env penv sc h a b).is_mark
  crossing_by (Plain p) up scope env penv sc h a b = absurd (crossing T u s next (Plain p) up scope env penv sc h a b).is_mark
  crossing_by (NowAtLeast e) up scope env penv sc h a b =
      leaf T n s scope env penv up e (crossing T u s next (NowAtLeast e) up scope env penv sc h a b)
  crossing_by (NowBefore e) up scope env penv sc h a b =
      leaf T n s scope env penv (not up) e (crossing T u s next (NowBefore e) up scope env penv sc h a b)
  crossing_by (All l r) true scope env penv sc h a b =
      let y = and_parts _ _ b in
      elim (cases_Bool (truth (visible T u) u l env)) [
        | inr z ↦
            crossed_left T n s scope env penv scope env (map (λ p. asking p (All p.body (body r p.at))) (delta l true))
            (map (λ p. asking p (All (body l p.at) p.body)) (delta r true))
            (crossed_joined T n s scope env penv l true (λ p. All p.body (body r p.at)) sc.0
            (crossing_by l true scope env penv sc.0 h z y.0)
            (λ p i e copy other same v t. and_from _ _ t (body_at T n s p.at e copy r scope env other sc.1 same v ∙ y.1)))
        | inl z ↦
            crossed_right T n s scope env penv scope env (map (λ p. asking p (All p.body (body r p.at))) (delta l true))
            (map (λ p. asking p (All (body l p.at) p.body)) (delta r true))
            (crossed_joined T n s scope env penv r true (λ p. All (body l p.at) p.body) sc.1
            (crossing_by r true scope env penv sc.1 h (second_false _ _ a z) y.1)
            (λ p i e copy other same v t. and_from _ _ (body_at T n s p.at e copy l scope env other sc.0 same v ∙ y.0) t))
      ]
  crossing_by (All l r) false scope env penv sc h a b =
      let y = and_parts _ _ a in
      elim (cases_Bool (truth (visible T s) s l env)) [
        | inr z ↦
            crossed_left T n s scope env penv scope env (delta l false) (delta r false) (crossing_by l false scope env penv sc.0 h y.0 z)
        | inl z ↦
            crossed_right T n s scope env penv scope env (delta l false) (delta r false)
            (crossing_by r false scope env penv sc.1 h y.1 (second_false _ _ b z))
      ]
  crossing_by (Either l r) true scope env penv sc h a b =
      let y = or_parts _ _ a in
      elim (cases_Bool (truth (visible T s) s l env)) [
        | inl z ↦
            crossed_left T n s scope env penv scope env (delta l true) (delta r true) (crossing_by l true scope env penv sc.0 h y.0 z)
        | inr z ↦
            crossed_right T n s scope env penv scope env (delta l true) (delta r true)
            (crossing_by r true scope env penv sc.1 h y.1 (second_true _ _ b z))
      ]
  crossing_by (Either l r) false scope env penv sc h a b =
      let y = or_parts _ _ b in
      elim (cases_Bool (truth (visible T u) u l env)) [
        | inl z ↦
            crossed_left T n s scope env penv scope env (map (λ p. asking p (All p.body (Not (body r p.at)))) (delta l false))
            (map (λ p. asking p (All (Not (body l p.at)) p.body)) (delta r false))
            (crossed_joined T n s scope env penv l false (λ p. All p.body (Not (body r p.at))) sc.0
            (crossing_by l false scope env penv sc.0 h z y.0)
            (λ p i e copy other same v t.
            and_from _ _ t (not_from_false _ (body_at T n s p.at e copy r scope env other sc.1 same v ∙ y.1))))
        | inr z ↦
            crossed_right T n s scope env penv scope env (map (λ p. asking p (All p.body (Not (body r p.at)))) (delta l false))
            (map (λ p. asking p (All (Not (body l p.at)) p.body)) (delta r false))
            (crossed_joined T n s scope env penv r false (λ p. All (Not (body l p.at)) p.body) sc.1
            (crossing_by r false scope env penv sc.1 h (second_true _ _ a z) y.1)
            (λ p i e copy other same v t.
            and_from _ _ (not_from_false _ (body_at T n s p.at e copy l scope env other sc.0 same v ∙ y.0)) t))
      ]
  crossing_by (Not x) up scope env penv sc h a b =
      crossing_by x (not up) scope env penv sc h (not_changes (not up) (truth (visible T u) u x env) a)
      (not_changes up (truth (visible T s) s x env) b)
  crossing_by (Exists v t x) true scope env penv sc h a b =
      let k = visible_in t T s (λ row. truth (visible T s) s x (bind v row env)) b in
      let r = k.0 in
      let h' = keeps_bind scope env penv v r sc.2 h in
      let at = arrival_term (copy v) in
      let first = probe_if true at (renamed v (copy v) (body x at)) in
      let rest = map (λ p. asking p (some_row v t p.at p.body)) (delta x true) in
      crossed_after T n s scope env penv v t x r scope env (first ++ rest) (visible T s) s sc.2 sc.3 k.1 k.2 k.3 (
      elim (cases_Bool (int_le (arrival r) u)) [
        | inl was ↦
            crossed_right T n s (v.0 ∷ scope) (bind v r env) (bind (copy v) r penv) scope env first rest
            (crossed_asking T n s (v.0 ∷ scope) (bind v r env) (bind (copy v) r penv) scope env (v.0 ∷ scope) (bind v r env) (delta x true)
            (λ p. some_row v t p.at p.body)
            (crossing_by x true (v.0 ∷ scope) (bind v r env) (bind (copy v) r penv) sc.3 h'
            (visible_none t T u (λ row. truth (visible T u) u x (bind v row env)) a r k.1 was) k.3)
            (asked_inside T n s scope env v t x r sc k.1 k.2))
        | inr new ↦
            let here = reached u s (arrival r) next new k.2 in
            crossed_left T n s (v.0 ∷ scope) (bind v r env) (bind (copy v) r penv) scope env first rest
            (crossed_here T n s (v.0 ∷ scope) (bind v r env) (bind (copy v) r penv) scope env true at (renamed v (copy v) (body x at)) refl
            (arrival_value (copy v) r penv ∙ ap Some here) h' (asked_first T n s scope env penv v t x r sc k.3 here))
      ])
  crossing_by (Exists v t x) false scope env penv sc h a b =
      let k = visible_in t T u (λ row. truth (visible T u) u x (bind v row env)) a in
      let r = k.0 in
      let come = still u s (arrival r) next k.2 in
      let ask : Probe → Condition = λ p. Not (body (Exists v t x) p.at) in
      crossed_after T n s scope env penv v t x r scope env (map (λ p. asking p (ask p)) (delta x false)) (visible T u) u sc.2 sc.3 k.1 come
      k.3
      (crossed_asking T n s (v.0 ∷ scope) (bind v r env) (bind (copy v) r penv) scope env (v.0 ∷ scope) (bind v r env) (delta x false) ask
      (crossing_by x false (v.0 ∷ scope) (bind v r env) (bind (copy v) r penv) sc.3 (keeps_bind scope env penv v r sc.2 h)
      k.3 (visible_none t T s (λ row. truth (visible T s) s x (bind v row env)) b r k.1 come))
      (λ p i final keeps reaches asks other same drive.
      let f = delta_fine x false (v.0 ∷ scope) sc.3 p i in
      not_from_false _ (body_at T n s p.at f.term f.is_copy (Exists v t x) scope env other sc same
      (value_driven p.at final other drive ∙ reaches) ∙ b)))
