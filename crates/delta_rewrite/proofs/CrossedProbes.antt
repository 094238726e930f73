-- Delta probes that have a second, and what they ask then.
use Rattle.std.proofs.Common.{◌≡◌, ℕ, ℤ, Bool, true, false, Some, List, [], ◌∷◌, ◌++◌, refl, sym, ap, ◌∙◌, subst, inl, inr}
use Rattle.std.specs.Prelude.{map, int_le}
use Rattle.std.proofs.lemmas.Bool.{cases_Bool, and_from}
use Rattle.tap_base.specs.declared.numbers.Op.TheVariants.{Le}
use Rattle.tql_tree.specs.declared.table.Table.{Table}
use Rattle.tql_core.specs.declared.term.Var.{Var}
use Rattle.tql_core.specs.declared.term.Term.{Term}
use Rattle.tql_core.specs.declared.atom.Atom.TheVariants.{Times}
use Rattle.tql_core.specs.Condition.{Condition, Always, Plain, All, Exists}
use Rattle.tql_core.specs.Row.{Row, arrival, rows_of}
use Rattle.tql_core.specs.Values.{Env, bind, lookup, value}
use Rattle.tql_core.specs.Holds.{truth}
use Rattle.tql_core.specs.Scope.{Scoped}
use Rattle.tql_core.proofs.Bound.{bind_same, bind_other}
use Rattle.tap_rows.specs.declared.tables.Tables.{Tables}
use Rattle.tap_rows.specs.Results.{visible}
use Rattle.tap_rows.specs.Kept.{In}
use Rattle.time_marks.specs.declared.mark.Mark.{Mark}
use Rattle.time_marks.specs.Found.{base_vars}
use Rattle.time_marks.specs.Laws.{Keeps, Same, Along, Crossed}
use Rattle.time_marks.specs.Marks.{copied, copy, copy_term, arrival_term, step_of, mark_if, body}
use Rattle.time_marks.specs.Probes.{Probe, guards_true}
use Rattle.time_marks.proofs.Lists.{in_any, in_map, in_left, in_right}
use Rattle.time_marks.proofs.Envs.{keeps_unbind, same_bind, guards_hold}
use Rattle.time_marks.proofs.Bodies.{arrival_value}
use Rattle.delta_rewrite.specs.Delta.{renamed, is_driver, under_probe, asking, some_row, probe_if, delta}
use Rattle.delta_rewrite.proofs.MarksOf.{if_one, delta_fine, some_row_not}
use Rattle.delta_rewrite.proofs.Driven.{driven_truth, first_truth}
use Rattle.delta_rewrite.proofs.Asks.{driver_apart, value_driven, driver_is, at_stays, came}

-- both have one row for the driver
abbrev pub Drive : Term → Env → Env → Type 0
Drive at final other = (k : ℕ) → In k (base_vars at.base) → lookup k other ≡ lookup k final

-- one of the probes has the second s, for some rows of its path that arrived by s and make its guards true; and its body is true for
-- every environment that has the same row for the driver, and for the variables asked of what `given` has
pub record CrossedBy (T : Tables) (n s : ℤ) (scope : List ℕ) (env penv : Env) (asked : List ℕ) (given : Env) (ps : List Probe)
    : Type 0 where
  pub probe : Probe
  pub is_probe : In probe ps
  pub final : Env
  pub along : Along T s probe.path penv final
  pub guards : guards_true probe.path final ≡ true
  pub reaches : value probe.at final ≡ Some s
  pub keeps : Keeps scope env final
  pub asks : (other : Env) → Same asked given other → Drive probe.at final other → truth T n probe.body other ≡ true

module _ (T : Tables) (n s : ℤ) where
  pub crossed_left : (scope : List ℕ) (env penv : Env) (asked : List ℕ) (given : Env) (ps qs : List Probe)
      → CrossedBy T n s scope env penv asked given ps → CrossedBy T n s scope env penv asked given (ps ++ qs)
  crossed_left scope env penv asked given ps qs c = record {
    probe = c.probe;
    is_probe = in_left ps qs c.probe c.is_probe;
    final = c.final;
    along = c.along;
    guards = c.guards;
    reaches = c.reaches;
    keeps = c.keeps;
    asks = c.asks;
  }

  pub crossed_right : (scope : List ℕ) (env penv : Env) (asked : List ℕ) (given : Env) (ps qs : List Probe)
      → CrossedBy T n s scope env penv asked given qs → CrossedBy T n s scope env penv asked given (ps ++ qs)
  crossed_right scope env penv asked given ps qs c = record {
    probe = c.probe;
    is_probe = in_right ps qs c.probe c.is_probe;
    final = c.final;
    along = c.along;
    guards = c.guards;
    reaches = c.reaches;
    keeps = c.keeps;
    asks = c.asks;
  }

  -- a probe with no path
  pub crossed_here : (scope : List ℕ) (env penv : Env) (asked : List ℕ) (given : Env) (up : Bool) (at : Term) (y : Condition) → up ≡ true
      → value at penv ≡ Some s → Keeps scope env penv
      → ((other : Env) → Same asked given other → Drive at penv other → truth T n y other ≡ true)
      → CrossedBy T n s scope env penv asked given (probe_if up at y)
  crossed_here scope env penv asked given up at y e v h asks = record {
    probe = record { path = []; at = at; body = y };
    is_probe = if_one up at y e;
    final = penv;
    along = refl;
    guards = refl;
    reaches = v;
    keeps = h;
    asks = asks;
  }

  -- the same probes with other bodies, asked of other variables
  pub crossed_asking : (scope : List ℕ) (env penv : Env) (asked : List ℕ) (given : Env) (wider : List ℕ) (outer : Env) (ps : List Probe)
      (f : Probe → Condition) → CrossedBy T n s scope env penv wider outer ps
      → ((p : Probe) → In p ps → (final : Env) → Keeps scope env final → value p.at final ≡ Some s
      → ((other : Env) → Same wider outer other → Drive p.at final other → truth T n p.body other ≡ true)
      → (other : Env) → Same asked given other → Drive p.at final other → truth T n (f p) other ≡ true)
      → CrossedBy T n s scope env penv asked given (map (λ p. asking p (f p)) ps)
  crossed_asking scope env penv asked given wider outer ps f c h = record {
    probe = asking c.probe (f c.probe);
    is_probe = in_map (λ p. asking p (f p)) ps c.probe c.is_probe;
    final = c.final;
    along = c.along;
    guards = c.guards;
    reaches = c.reaches;
    keeps = c.keeps;
    asks = h c.probe c.is_probe c.final c.keeps c.reaches c.asks;
  }

  -- the same with another truth joined to the body
  pub crossed_joined : (scope : List ℕ) (env penv : Env) (x : Condition) (up : Bool) (f : Probe → Condition) → Scoped scope x
      → CrossedBy T n s scope env penv scope env (delta x up)
      → ((p : Probe) → In p (delta x up) → (e : Term) → p.at ≡ copy_term e → (other : Env) → Same scope env other
      → value p.at other ≡ Some s → truth T n p.body other ≡ true → truth T n (f p) other ≡ true)
      → CrossedBy T n s scope env penv scope env (map (λ p. asking p (f p)) (delta x up))
  crossed_joined scope env penv x up f sc c h =
      crossed_asking scope env penv scope env scope env (delta x up) f c (λ p i final k v asks other same drive.
      let g = delta_fine x up scope sc p i in
      h p i g.term g.is_copy other same (value_driven p.at final other drive ∙ v) (asks other same drive))

  -- one more step before the path
  pub crossed_after : (scope : List ℕ) (env penv : Env) (v : Var) (t : Table) (x : Condition) (r : Row) (asked : List ℕ) (given : Env)
      (ps : List Probe) (T' : Tables) (s' : ℤ) → (In v.0 scope → ⊥) → Scoped (v.0 ∷ scope) x → In r (rows_of t T)
      → int_le (arrival r) s ≡ true → truth T' s' x (bind v r env) ≡ true
      → CrossedBy T n s (v.0 ∷ scope) (bind v r env) (bind (copy v) r penv) asked given ps
      → CrossedBy T n s scope env penv asked given (map (under_probe (step_of v t x)) ps)
  crossed_after scope env penv v t x r asked given ps T' s' new sc i come y c = record {
    probe = under_probe (step_of v t x) c.probe;
    is_probe = in_map (under_probe (step_of v t x)) ps c.probe c.is_probe;
    final = c.final;
    along = (r, i, come, c.along);
    guards = and_from _ _ (guards_hold (v.0 ∷ scope) (bind v r env) c.final c.keeps T' s' x sc y) c.guards;
    reaches = c.reaches;
    keeps = keeps_unbind scope env c.final v r new c.keeps;
    asks = c.asks;
  }

  -- the driver of a leaf
  pub leaf : (scope : List ℕ) (env penv : Env) (up : Bool) (e : Term) → Crossed T s scope env penv (mark_if up (copy_term e))
      → CrossedBy T n s scope env penv scope env (probe_if up (copy_term e) Always)
  leaf scope env penv true e c = record {
    probe = record { path = c.mark.path; at = c.mark.at; body = Always };
    is_probe = one c.mark c.is_mark;
    final = c.final;
    along = c.along;
    guards = c.guards;
    reaches = c.reaches;
    keeps = c.keeps;
    asks = λ other same drive. refl;
  }
    where
      one : (m : Mark) → In m (mark_if true (copy_term e))
          → In (record { path = m.path; at = m.at; body = Always }) (probe_if true (copy_term e) Always)
      one m (inl z) = inl (ap (λ (k : Mark). record { path = k.path; at = k.at; body = Always }) z)
      one m (inr i) = absurd i
  leaf scope env penv false e c = absurd c.is_mark

  -- the copy's row makes the inner condition true, or the row itself does
  pub asked_inside : (scope : List ℕ) (env : Env) (v : Var) (t : Table) (x : Condition) (r : Row) → Scoped scope (Exists v t x)
      → In r (rows_of t T) → int_le (arrival r) s ≡ true → (p : Probe) → In p (delta x true) → (final : Env)
      → Keeps (v.0 ∷ scope) (bind v r env) final → value p.at final ≡ Some s
      → ((other : Env) → Same (v.0 ∷ scope) (bind v r env) other → Drive p.at final other → truth T n p.body other ≡ true)
      → (other : Env) → Same scope env other → Drive p.at final other → truth T n (some_row v t p.at p.body) other ≡ true
  asked_inside scope env v t x r sc i come p j final keeps reaches asks other same drive =
      let f = delta_fine x true (v.0 ∷ scope) sc.3 p j in
      let below : Drive p.at final (bind v r other) = λ k m.
      bind_other k v r other (driver_apart p.at f.term f.is_copy v.0 sc.0 sc.1 k m) ∙ drive k m in
      let y = asks (bind v r other) (same_bind scope env other v r same) below in
      elim (cases_Bool (is_driver v p.at)) [
        | inl h ↦
            let row : lookup (copied v.0) other ≡ Some r =
            drive (copied v.0) (driver_is v p.at h) ∙ keeps v.0 (inl refl) ∙ bind_same v r env in
            driven_truth T n scope v t x sc p j h r other row ∙ y
        | inr h ↦
            let at = at_stays p.at f.term f.is_copy v r other sc.0 sc.1 ∙ value_driven p.at final other drive ∙ reaches in
            subst (λ c. truth T n c other ≡ true) (sym (some_row_not v t p.at p.body h))
            (in_any (λ row. truth T n (All (Plain (Times (arrival_term v) Le p.at)) p.body) (bind v row other)) (rows_of t T) r i
            (and_from _ _ (came v r p.at other s at ∙ come) y))
      ]

  -- a row that comes at the mark and makes the inner condition true
  pub asked_first : (scope : List ℕ) (env penv : Env) (v : Var) (t : Table) (x : Condition) (r : Row) → Scoped scope (Exists v t x)
      → truth (visible T s) s x (bind v r env) ≡ true → arrival r ≡ s → (other : Env) → Same scope env other
      → Drive (arrival_term (copy v)) (bind (copy v) r penv) other
      → truth T n (renamed v (copy v) (body x (arrival_term (copy v)))) other ≡ true
  asked_first scope env penv v t x r sc y here other same drive =
      let at = arrival_term (copy v) in
      let row : lookup (copied v.0) other ≡ Some r = drive (copied v.0) (inl refl) ∙ bind_same (copy v) r penv in
      let reaches = value_driven at (bind (copy v) r penv) other drive ∙ arrival_value (copy v) r penv ∙ ap Some here in
      first_truth T n scope v t x sc s r env other same row reaches ∙ y
