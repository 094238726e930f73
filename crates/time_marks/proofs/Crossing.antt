-- Where the truth of a condition changes from one second to the next.
use Rattle.std.proofs.Common.{◌≡◌, ℕ, ℤ, pos, Bool, true, false, not, Option, Some, None, List, [], ◌∷◌, ◌++◌, refl, ap, ◌∙◌, inl, inr}
use Rattle.std.proofs.Common.{arith}
use Rattle.std.specs.Prelude.{◌⊎◌, ◌&&◌, ◌||◌, ◌+ℤ◌, map, int_le}
use Rattle.std.proofs.lemmas.Bool.{cases_Bool, both_ways, and_parts, and_from, true≢false, false≢true}
use Rattle.std.proofs.lemmas.Int.{ints}
use Rattle.tql_tree.specs.declared.table.Table.{Table}
use Rattle.tql_core.specs.declared.term.Var.{Var}
use Rattle.tql_core.specs.declared.term.Term.{Term}
use Rattle.tap_base.specs.declared.numbers.Op.TheVariants.{Le, Gt}
use Rattle.tql_core.specs.Condition.{Condition, Always, Never, Plain, NowAtLeast, NowBefore, All, Either, Not, Exists}
use Rattle.tql_core.specs.Row.{Row, arrival, rows_of}
use Rattle.tap_rows.specs.declared.tables.Tables.{Tables}
use Rattle.tap_rows.specs.Results.{visible}
use Rattle.tql_core.specs.Values.{Env, bind, on_row, plus_to, value, both, true_atom}
use Rattle.tql_core.specs.Holds.{truth}
use Rattle.tql_core.specs.Scope.{Scoped}
use Rattle.tql_core.proofs.Bound.{bind_same}
use Rattle.tap_rows.specs.Kept.{In}
use Rattle.time_marks.specs.declared.mark.Mark.{Mark}
use Rattle.time_marks.specs.Marks.{copy, copy_term, arrival_term, step_of, under_step, mark_if, marks}
use Rattle.time_marks.specs.Laws.{Keeps, Crossed}
use Rattle.time_marks.proofs.Lists.{in_map, in_left, in_right, visible_in, visible_none}
use Rattle.time_marks.proofs.Seconds.{reached, still, passed, not_back}
use Rattle.time_marks.proofs.Envs.{keeps_bind, keeps_unbind, value_copy, guards_hold}

no_change : (up b : Bool) → b ≡ not up → b ≡ up → ⊥
no_change true b h k = both_ways b h k
no_change false b h k = both_ways b k h

all_changes : (up a b a' b' : Bool) → (a && b) ≡ not up → (a' && b') ≡ up → ((a ≡ not up) × (a' ≡ up)) ⊎ ((b ≡ not up) × (b' ≡ up))
all_changes true true b a' b' h k = inr (h, (and_parts a' b' k).1)
all_changes true false b a' b' h k = inl (h, (and_parts a' b' k).0)
all_changes false a b true b' h k = inr ((and_parts a b h).1, k)
all_changes false a b false b' h k = inl ((and_parts a b h).0, k)

either_changes : (up a b a' b' : Bool) → (a || b) ≡ not up → (a' || b') ≡ up → ((a ≡ not up) × (a' ≡ up)) ⊎ ((b ≡ not up) × (b' ≡ up))
either_changes true false b true b' h k = inl (refl, refl)
either_changes true false b false b' h k = inr (h, k)
either_changes true true b a' b' h k = absurd (true≢false h)
either_changes false true b false b' h k = inl (refl, refl)
either_changes false false b false b' h k = inr (h, k)
either_changes false a b true b' h k = absurd (true≢false k)

not_changes : (up a : Bool) → not a ≡ up → a ≡ not up
not_changes up true h = ap not h
not_changes up false h = ap not h

at_least_changes : (u s : ℤ) → s ≡ u +ℤ pos 1 → (up : Bool) (o : Option ℤ) → both Le o (Some u) ≡ not up → both Le o (Some s) ≡ up
    → (up ≡ true) × (o ≡ Some s)
at_least_changes u s n true None h k = absurd (false≢true k)
at_least_changes u s n true (Some x) h k = (refl, ap Some (reached u s x n h k))
at_least_changes u s n false None h k = absurd (false≢true h)
at_least_changes u s n false (Some x) h k = absurd (both_ways _ k (still u s x n h))

before_changes : (u s : ℤ) → s ≡ u +ℤ pos 1 → (up : Bool) (o : Option ℤ) → both Gt o (Some u) ≡ not up → both Gt o (Some s) ≡ up
    → (not up ≡ true) × (o ≡ Some s)
before_changes u s n true None h k = absurd (false≢true k)
before_changes u s n true (Some x) h k = absurd (both_ways _ (not_back u s x n h) k)
before_changes u s n false None h k = absurd (false≢true h)
before_changes u s n false (Some x) h k = (refl, ap Some (passed u s x n h k))

pub plus_none : (x : ℤ) → x +ℤ pos 0 ≡ x
plus_none x = omega (arith, ints)

module _ (T : Tables) (s : ℤ) where
  pub crossed_left : (scope : List ℕ) (env penv : Env) (ms ns : List Mark) → Crossed T s scope env penv ms
      → Crossed T s scope env penv (ms ++ ns)
  crossed_left scope env penv ms ns c = record {
    mark = c.mark;
    is_mark = in_left ms ns c.mark c.is_mark;
    final = c.final;
    along = c.along;
    guards = c.guards;
    reaches = c.reaches;
    keeps = c.keeps;
  }

  pub crossed_right : (scope : List ℕ) (env penv : Env) (ms ns : List Mark) → Crossed T s scope env penv ns
      → Crossed T s scope env penv (ms ++ ns)
  crossed_right scope env penv ms ns c = record {
    mark = c.mark;
    is_mark = in_right ms ns c.mark c.is_mark;
    final = c.final;
    along = c.along;
    guards = c.guards;
    reaches = c.reaches;
    keeps = c.keeps;
  }

  -- a mark with no path
  pub crossed_here : (scope : List ℕ) (env penv : Env) (up : Bool) (e : Term) → up ≡ true → value e penv ≡ Some s → Keeps scope env penv
      → Crossed T s scope env penv (mark_if up e)
  crossed_here scope env penv true e y v h =
      record { mark = record { path = []; at = e }; is_mark = inl refl; final = penv; along = refl; guards = refl; reaches = v; keeps = h }
  crossed_here scope env penv false e y v h = absurd (false≢true y)

  -- one more step before the path
  pub crossed_after : (scope : List ℕ) (env penv : Env) (v : Var) (t : Table) (x : Condition) (r : Row) (ms : List Mark) (T' : Tables)
      (s' : ℤ) → (In v.0 scope → ⊥) → Scoped (v.0 ∷ scope) x → In r (rows_of t T) → int_le (arrival r) s ≡ true
      → truth T' s' x (bind v r env) ≡ true → Crossed T s (v.0 ∷ scope) (bind v r env) (bind (copy v) r penv) ms
      → Crossed T s scope env penv (map (under_step (step_of v t x)) ms)
  crossed_after scope env penv v t x r ms T' s' new sc i come y c =
      record {
        mark = under_step (step_of v t x) c.mark;
        is_mark = in_map (under_step (step_of v t x)) ms c.mark c.is_mark;
        final = c.final;
        along = (r, i, come, c.along);
        guards = and_from _ _ (guards_hold (v.0 ∷ scope) (bind v r env) c.final c.keeps T' s' x sc y) c.guards;
        reaches = c.reaches;
        keeps = keeps_unbind scope env c.final v r new c.keeps;
      }

module _ (T : Tables) (u s : ℤ) (next : s ≡ u +ℤ pos 1) where
  -- the truth of a condition changes only if a mark of the change's sign has the value s
  pub crossing : (c : Condition) (up : Bool) (scope : List ℕ) (env penv : Env) → Scoped scope c → Keeps scope env penv
      → truth (visible T u) u c env ≡ not up → truth (visible T s) s c env ≡ up → Crossed T s scope env penv (marks c up)
  crossing Always up scope env penv sc h a b = absurd (no_change up true a b)
  crossing Never up scope env penv sc h a b = absurd (no_change up false a b)
  crossing (Plain p) up scope env penv sc h a b = absurd (no_change up (true_atom p env) a b)
  crossing (NowAtLeast e) up scope env penv sc h a b =
      let k = at_least_changes u s next up (value e env) a b in
      crossed_here T s scope env penv up (copy_term e) k.0 (value_copy scope env penv h e sc ∙ k.1) h
  crossing (NowBefore e) up scope env penv sc h a b =
      let k = before_changes u s next up (value e env) a b in
      crossed_here T s scope env penv (not up) (copy_term e) k.0 (value_copy scope env penv h e sc ∙ k.1) h
  crossing (All l r) up scope env penv sc h a b =
      elim (all_changes up (truth (visible T u) u l env) (truth (visible T u) u r env) (truth (visible T s) s l env)
      (truth (visible T s) s r env) a b) [
        | inl k ↦ crossed_left T s scope env penv (marks l up) (marks r up) (crossing l up scope env penv sc.0 h k.0 k.1)
        | inr k ↦ crossed_right T s scope env penv (marks l up) (marks r up) (crossing r up scope env penv sc.1 h k.0 k.1)
      ]
  crossing (Either l r) up scope env penv sc h a b =
      elim (either_changes up (truth (visible T u) u l env) (truth (visible T u) u r env) (truth (visible T s) s l env)
      (truth (visible T s) s r env) a b) [
        | inl k ↦ crossed_left T s scope env penv (marks l up) (marks r up) (crossing l up scope env penv sc.0 h k.0 k.1)
        | inr k ↦ crossed_right T s scope env penv (marks l up) (marks r up) (crossing r up scope env penv sc.1 h k.0 k.1)
      ]
  crossing (Not x) up scope env penv sc h a b =
      crossing x (not up) scope env penv sc h (not_changes (not up) (truth (visible T u) u x env) a)
      (not_changes up (truth (visible T s) s x env) b)
  crossing (Exists v t x) true scope env penv sc h a b =
      let k = visible_in t T s (λ row. truth (visible T s) s x (bind v row env)) b in
      let r = k.0 in
      let h' = keeps_bind scope env penv v r sc.2 h in
      crossed_after T s scope env penv v t x r _ (visible T s) s sc.2 sc.3 k.1 k.2 k.3 (
      elim (cases_Bool (int_le (arrival r) u)) [
        | inl was ↦
            crossed_right T s (v.0 ∷ scope) (bind v r env) (bind (copy v) r penv) (mark_if true (arrival_term (copy v))) (marks x true)
            (crossing x true (v.0 ∷ scope) (bind v r env) (bind (copy v) r penv) sc.3 h'
            (visible_none t T u (λ row. truth (visible T u) u x (bind v row env)) a r k.1 was) k.3)
        | inr new ↦
            crossed_left T s (v.0 ∷ scope) (bind v r env) (bind (copy v) r penv) (mark_if true (arrival_term (copy v))) (marks x true)
            (crossed_here T s (v.0 ∷ scope) (bind v r env) (bind (copy v) r penv) true (arrival_term (copy v)) refl
            (ap (λ o. plus_to (on_row o (λ row. Some (arrival row))) (pos 0)) (bind_same (copy v) r penv)
            ∙ ap Some (plus_none (arrival r) ∙ reached u s (arrival r) next new k.2)) h')
      ])
  crossing (Exists v t x) false scope env penv sc h a b =
      let k = visible_in t T u (λ row. truth (visible T u) u x (bind v row env)) a in
      let r = k.0 in
      let come = still u s (arrival r) next k.2 in
      crossed_after T s scope env penv v t x r (marks x false) (visible T u) u sc.2 sc.3 k.1 come k.3
      (crossing x false (v.0 ∷ scope) (bind v r env) (bind (copy v) r penv) sc.3 (keeps_bind scope env penv v r sc.2 h)
      k.3 (visible_none t T s (λ row. truth (visible T s) s x (bind v row env)) b r k.1 come))
