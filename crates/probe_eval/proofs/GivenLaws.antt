-- Which accesses some guards give, and the one by which rows are walked if they give no other.
use Rattle.std.proofs.Common.{◌≡◌, ◌∙◌, ◌<◌, ◌+◌, ◌++◌, ℕ, Option, Some, None, List, [], ◌∷◌, refl, sym, ap, subst, length, arith}
use Rattle.std.specs.Prelude.{Bool, unwrap_or}
use Rattle.std.specs.List.{flat_map}
use Rattle.std.proofs.lemmas.List.{length-append}
use Rattle.tap_rows.specs.declared.tables.Tables.{Tables}
use Rattle.tap_rows.proofs.Tests.{some_same, none_some}
use Rattle.tql_tree.specs.declared.table.Table.{Table}
use Rattle.tql_core.specs.declared.term.Var.{Var}
use Rattle.tql_core.specs.declared.atom.Atom.{Atom}
use Rattle.tql_core.specs.Values.{Env}
use Rattle.time_marks.specs.declared.mark.Step.{Step}
use Rattle.access_plan.specs.declared.access.Access.{Access}
use Rattle.access_plan.specs.declared.access_ref.AccessRef.{AccessRef}
use Rattle.access_plan.specs.declared.reach.Reach.{Reach}
use Rattle.access_plan.specs.Accesses.{accesses_by, is_held}
use Rattle.access_plan.specs.Views.{access_at}
use Rattle.probe_eval.specs.declared.given.Given.{Given}
use Rattle.probe_eval.specs.declared.given.Given.TheVariants as G
use Rattle.probe_eval.specs.Given.{IsGiven}
use Rattle.probe_eval.specs.Nexts.{only_access, IsSole}
use Rattle.probe_eval.specs.StepRows.{step_accesses}
use Rattle.probe_eval.specs.Work.{shortest}
use Rattle.probe_eval.proofs.ShortestLaws.{shortest_found}

pub given_none : (g : Given) (xs : List Access) → g ≡ G.None → IsGiven g xs → xs ≡ []
given_none g xs e h = subst (λ z. IsGiven z xs) e h

pub given_several : (g : Given) (xs : List Access) → g ≡ G.Several → IsGiven g xs → 1 < length xs
given_several g xs e h = subst (λ z. IsGiven z xs) e h

-- an access and one more are several
pub one_and_one : (xs : List Access) (a b : Access) → xs ≡ b ∷ [] → 1 < length (a ∷ xs)
one_and_one xs a b e = let n : length xs ≡ 1 = ap length e in omega (arith, n)

-- an access and several more are so
pub one_and_more : (xs : List Access) (a : Access) → 1 < length xs → 1 < length (a ∷ xs)
one_and_more xs a h = omega (arith, h)

-- several and some more are so
pub several_and : (xs ys : List Access) → 1 < length xs → 1 < length (xs ++ ys)
several_and xs ys h = let n : length (xs ++ ys) ≡ length xs + length ys = length-append xs ys in omega (arith, h, n)

pub given_one : (g : Given) (xs : List Access) (access : AccessRef) → g ≡ G.One access → IsGiven g xs → xs ≡ access_at access ∷ []
given_one g xs access e h = subst (λ z. IsGiven z xs) e h

-- no guards give none
pub no_guards : (known : ℕ → Bool) (v : Var) (t : Table) (guards : List Atom) → length guards ≡ 0 → accesses_by known v t guards ≡ []
no_guards known v t [] e = refl
no_guards known v t (a ∷ guards) e = absurd (omega (arith, e))

pub no_steps : (path : List Step) (env : Env) (v : Var) (t : Table) → length path ≡ 0 → step_accesses path env v t ≡ []
no_steps [] env v t e = refl
no_steps (step ∷ path) env v t e = absurd (omega (arith, e))

-- the access by which rows are walked
module _ (path : List Step) (env : Env) (r : Reach) where
  pub sole_none : step_accesses path env r.var r.table ≡ [] → IsSole path env r (Some r.access)
  sole_none n = sym (ap (λ xs. only_access xs r.access) n)

  pub sole_one : (x : Access) → step_accesses path env r.var r.table ≡ x ∷ [] → IsSole path env r (Some x)
  sole_one x n = sym (ap (λ xs. only_access xs r.access) n)

  pub sole_several : 1 < length (step_accesses path env r.var r.table) → IsSole path env r None
  sole_several n = go (step_accesses path env r.var r.table) n
    where
      go : (xs : List Access) → 1 < length xs → None ≡ only_access xs r.access
      go [] h = absurd (omega (arith, h))
      go (x ∷ []) h = absurd (omega (arith, h))
      go (x ∷ y ∷ xs) h = refl

  -- the one access is the shortest
  pub sole_walked : (sole : Option Access) (a : Access) → IsSole path env r sole → sole ≡ Some a → (T : Tables) (e : Env)
      → unwrap_or (shortest T e (step_accesses path env r.var r.table)) r.access ≡ a
  sole_walked sole a h i T e = go (step_accesses path env r.var r.table) (sym h ∙ i)
    where
      go : (xs : List Access) → only_access xs r.access ≡ Some a → unwrap_or (shortest T e xs) r.access ≡ a
      go [] n = some_same n
      go (x ∷ []) n = sym (ap (λ o. unwrap_or o r.access) (shortest_found T e (x ∷ []))) ∙ some_same n
      go (x ∷ y ∷ xs) n = absurd (none_some n)

-- guards give the same beside rows of the same variables
accesses_held : (path : List Step) (env other : Env) (v : Var) (t : Table) → is_held env ≡ is_held other
    → step_accesses path env v t ≡ step_accesses path other v t
accesses_held path env other v t h = ap (λ known. flat_map (λ (step : Step). accesses_by known v t step.guards) path) h

pub sole_held : (path : List Step) (env other : Env) (r : Reach) (sole : Option Access) → is_held env ≡ is_held other
    → IsSole path env r sole → IsSole path other r sole
sole_held path env other r sole h s = s ∙ ap (λ xs. only_access xs r.access) (accesses_held path env other r.var r.table h)
