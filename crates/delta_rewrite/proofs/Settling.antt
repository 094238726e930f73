-- Guards of the path that are worked into a body keep what the probe finds.
use Rattle.std.proofs.Common.{◌≡◌, ℕ, suc, ◌<◌, ◌≤◌, ℤ, pos, true, not, List, [], ◌∷◌, refl, sym, ap, ◌∙◌, subst, inl, inr, arith}
use Rattle.std.specs.Prelude.{◌⊎◌}
use Rattle.std.specs.List.{list_any}
use Rattle.std.proofs.lemmas.Bool.{cases_Bool}
use Rattle.tql_core.specs.contracts.atom.AtomPartialEq.TheImpl as atom
use Rattle.tql_core.specs.declared.atom.Atom.{Atom}
use Rattle.tql_core.specs.declared.term.Term.{Term}
use Rattle.tql_core.specs.declared.term.Var.{Var}
use Rattle.tql_core.specs.Condition.{Condition, Always, Never, Plain, NowAtLeast, NowBefore, All, Either, Not, Exists}
use Rattle.tql_core.specs.Exact.{atom_is}
use Rattle.tql_core.specs.Row.{Row, rows_of}
use Rattle.tql_core.specs.Values.{Env, bind, true_atom}
use Rattle.tql_core.specs.Holds.{truth}
use Rattle.tql_core.specs.Scope.{AtomIn}
use Rattle.tql_core.proofs.Bound.{bind_other}
use Rattle.tap_rows.specs.declared.rows.Doc.{Doc}
use Rattle.tap_rows.specs.declared.tables.Tables.{Tables}
use Rattle.tap_rows.specs.Kept.{In}
use Rattle.time_marks.specs.declared.mark.Step.{Step}
use Rattle.time_marks.specs.Marks.{copy_term}
use Rattle.time_marks.specs.Found.{vars_of, base_vars, NamesInScope, nested, IsProbe}
use Rattle.time_marks.specs.Probes.{Probe, finds}
use Rattle.time_marks.proofs.Lists.{any_in, any_same}
use Rattle.time_marks.proofs.Envs.{atom_same}
use Rattle.monotone_rewrite.specs.Query.{fold_probe}
use Rattle.monotone_rewrite.proofs.Scopes.{folded_probe}
use Rattle.monotone_rewrite.proofs.Windows.{other_body, fold_finds}
use Rattle.delta_rewrite.specs.Delta.{asking, is_guard, settled, settle_probe}

guard_in : (path : List Step) (a : Atom) → is_guard path a ≡ true → (step : Step) × In step path × In a step.guards
guard_in path a h =
    let s = any_in (λ (step : Step). list_any (λ guard. atom.ghosts.eq a guard) step.guards) path h in
    let g = any_in (λ guard. atom.ghosts.eq a guard) s.0.guards s.2 in
    (s.0, s.1, subst (λ z. In z s.0.guards) (sym (atom_is a g.0 g.2)) g.1)

module _ (T : Tables) (n : ℤ) (path : List Step) (fit : (a : Atom) → is_guard path a ≡ true → AtomIn (vars_of path) a)
    (apart : (k : ℕ) → In k (vars_of path) → (k ≡ 0) ⊎ (5 < k)) where
  -- the path's guards are true
  abbrev AreTrue : Env → Type 0
  AreTrue env = (a : Atom) → is_guard path a ≡ true → true_atom a env ≡ true

  other_var : (v k : ℕ) → 1 ≤ v → v ≤ 5 → (k ≡ 0) ⊎ (5 < k) → k ≡ v → ⊥
  other_var v k lo hi (inl e) z = omega arith
  other_var v k lo hi (inr h) z = omega arith

  still_true : (v : Var) (r : Row) (env : Env) → 1 ≤ v.0 → v.0 ≤ 5 → AreTrue env → AreTrue (bind v r env)
  still_true v r env lo hi h a g =
      atom_same (vars_of path) env (bind v r env) (λ k i. bind_other k v r env (other_var v.0 k lo hi (apart k i))) a (fit a g) ∙ h a g

  pub settled_truth : (x : Condition) (scope : List ℕ) (env : Env) → NamesInScope scope x → AreTrue env
      → truth T n (settled path x) env ≡ truth T n x env
  settled_truth Always scope env na h = refl
  settled_truth Never scope env na h = refl
  settled_truth (Plain a) scope env na h =
      elim (cases_Bool (is_guard path a)) [
        | inl y ↦ rw y (sym (h a y))
        | inr y ↦ rw y
      ]
  settled_truth (NowAtLeast e) scope env na h = refl
  settled_truth (NowBefore e) scope env na h = refl
  settled_truth (All l r) scope env na h = rw (settled_truth l scope env na.0 h, settled_truth r scope env na.1 h)
  settled_truth (Either l r) scope env na h = rw (settled_truth l scope env na.0 h, settled_truth r scope env na.1 h)
  settled_truth (Not x) scope env na h = ap not (settled_truth x scope env na h)
  settled_truth (Exists v t x) scope env na h =
      any_same _ _ (rows_of t T) (λ r. settled_truth x (v.0 ∷ scope) (bind v r env) na.2 (still_true v r env na.0 na.1 h))

settled_named : (path : List Step) (x : Condition) (scope : List ℕ) → NamesInScope scope x → NamesInScope scope (settled path x)
settled_named path Always scope na = tt
settled_named path Never scope na = tt
settled_named path (Plain a) scope na =
    elim (cases_Bool (is_guard path a)) [
      | inl y ↦ rw y tt
      | inr y ↦ rw y na
    ]
settled_named path (NowAtLeast e) scope na = absurd na
settled_named path (NowBefore e) scope na = absurd na
settled_named path (All l r) scope na = (settled_named path l scope na.0, settled_named path r scope na.1)
settled_named path (Either l r) scope na = (settled_named path l scope na.0, settled_named path r scope na.1)
settled_named path (Not x) scope na = settled_named path x scope na
settled_named path (Exists v t x) scope na = (na.0, na.1, settled_named path x (v.0 ∷ scope) na.2)

settled_nested : (path : List Step) (x : Condition) → nested (settled path x) ≡ nested x
settled_nested path Always = refl
settled_nested path Never = refl
settled_nested path (Plain a) =
    elim (cases_Bool (is_guard path a)) [
      | inl y ↦ rw y
      | inr y ↦ rw y
    ]
settled_nested path (NowAtLeast e) = refl
settled_nested path (NowBefore e) = refl
settled_nested path (All l r) = rw (settled_nested path l, settled_nested path r)
settled_nested path (Either l r) = rw (settled_nested path l, settled_nested path r)
settled_nested path (Not x) = settled_nested path x
settled_nested path (Exists v t x) = ap suc (settled_nested path x)

-- without guards nothing is settled
pub settled_none : (x : Condition) → settled [] x ≡ x
settled_none Always = refl
settled_none Never = refl
settled_none (Plain a) = refl
settled_none (NowAtLeast e) = refl
settled_none (NowBefore e) = refl
settled_none (All l r) = rw (settled_none l, settled_none r)
settled_none (Either l r) = rw (settled_none l, settled_none r)
settled_none (Not x) = ap Not (settled_none x)
settled_none (Exists v t x) = ap (Exists v t) (settled_none x)

-- true guards keep scopes
guarded_probe : (p : Probe) → IsProbe p → IsProbe (asking p (settled p.path p.body))
guarded_probe p k = record {
  asked = k.asked;
  room = omega (arith, k.room, settled_nested p.path p.body);
  once = k.once;
  apart = k.apart;
  guards = k.guards;
  at = k.at;
  body = settled_named p.path p.body (0 ∷ base_vars p.at.base) k.body;
}

-- a probe finds the same with its guards true
guarded_finds : (T : Tables) (d : Doc) (b : ℤ) (p : Probe) → IsProbe p
    → finds T d b (asking p (settled p.path p.body)) ≡ finds T d b p
guarded_finds T d b p k =
    other_body T d b p (settled p.path p.body) k (guarded_probe p k) (λ env w.
    settled_truth T (pos 0) p.path (λ a g. let i = guard_in p.path a g in k.guards i.0 i.1 a i.2) k.apart p.body
    (0 ∷ base_vars p.at.base) env k.body (λ a g. let i = guard_in p.path a g in w.guards i.0 i.1 a i.2))

-- settling keeps scopes
pub settled_probe : (p : Probe) → IsProbe p → IsProbe (settle_probe p)
settled_probe p k = guarded_probe (fold_probe p) (folded_probe p k)

-- a probe finds the same after settling
pub settle_finds : (T : Tables) (d : Doc) (b : ℤ) (p : Probe) → IsProbe p → (e : Term) → p.at ≡ copy_term e
    → finds T d b (settle_probe p) ≡ finds T d b p
settle_finds T d b p k e is_copy = guarded_finds T d b (fold_probe p) (folded_probe p k) ∙ fold_finds T d b p k e is_copy
