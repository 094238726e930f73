-- The form is true where the condition is.
use Rattle.std.proofs.Common.{◌≡◌, ℤ, true, false, Bool, refl, sym, ap, ◌∙◌}
use Rattle.std.specs.Prelude.{◌&&◌, ◌||◌, not, nat_le, if◌then◌else◌}
use Rattle.std.proofs.lemmas.Bool.{or_from}
use Rattle.tql_tree.specs.declared.table.Table.{Table}
use Rattle.tql_core.specs.declared.term.Var.{Var}
use Rattle.tql_core.specs.Condition.{Condition, Always, Never, Plain, NowAtLeast, NowBefore, All, Either, Not, Exists}
use Rattle.tql_core.specs.Row.{Row, rows_of}
use Rattle.tap_rows.specs.declared.tables.Tables.{Tables}
use Rattle.tap_rows.proofs.Tests.{and_end}
use Rattle.tql_core.specs.Values.{Env, bind}
use Rattle.tql_core.specs.Holds.{truth}
use Rattle.query_form.specs.declared.place.Place.{Place}
use Rattle.query_form.specs.declared.place.Place.TheVariants.{Before, Inside, After}
use Rattle.query_form.specs.Form.{names, has_exists, has_key, may_split, conjoined, place_of, same_place, only_if, conjuncts, beside}
use Rattle.query_form.specs.Form.{narrowed, cross_right, cross, distributed, exists_each, split, formed, node_count}
use Rattle.query_form.specs.Laws.{FormsAreEquivalent}
use Rattle.query_form.proofs.Bools.{shuffled, over_right, over_left, any_same, any_or, any_pulled}
use Rattle.query_form.proofs.Unnamed.{agree_bound, truth_kept}

conjoined_names : (v : Var) (l r : Condition) → names v l ≡ false → names v r ≡ false → names v (conjoined l r) ≡ false
conjoined_names v Always r e f = f
conjoined_names v l Always e f = e
conjoined_names v l r e f = or_from (names v l) (names v r) e f

-- a part that stands beside the EXISTS doesn't name its variable
part_apart : (v : Var) (p : Place) (x : Condition) → same_place p Inside ≡ false → names v (only_if (same_place p (place_of v x)) x) ≡ false
part_apart v p x apart = go (names v x) refl
  where
    only_false : (b : Bool) → names v x ≡ false → names v (only_if b x) ≡ false
    only_false true e = e
    only_false false e = refl

    go : (named : Bool) → names v x ≡ named → names v
        (only_if (same_place p (if named then Inside else (if has_exists x then After else Before))) x) ≡ false
    go true e = ap (λ b. names v (only_if b x)) apart
    go false e = only_false (same_place p (if has_exists x then After else Before)) e

pub conjuncts_apart : (v : Var) (p : Place) (x : Condition) → same_place p Inside ≡ false → names v (conjuncts v p x) ≡ false
conjuncts_apart v p (All l r) apart = conjoined_names v (conjuncts v p l) (conjuncts v p r) (conjuncts_apart v p l apart)
    (conjuncts_apart v p r apart)
conjuncts_apart v p x apart = part_apart v p x apart

module _ (T : Tables) (s : ℤ) where
  conjoined_true : (l r : Condition) (env : Env) → truth T s (conjoined l r) env ≡ (truth T s l env && truth T s r env)
  conjoined_true Always r env = refl
  conjoined_true l Always env = sym (and_end (truth T s l env))
  conjoined_true l r env = refl

  chosen : (b : Bool) (x y : Condition) (z : Bool) (env : Env) → truth T s x env ≡ z → truth T s y env ≡ z
      → truth T s (if b then x else y) env ≡ z
  chosen true x y z env e f = e
  chosen false x y z env e f = f

  -- the truth of the parts of each place
  parts : Var → Condition → Env → Bool
  parts v x env = truth T s (conjuncts v Before x) env && (truth T s (conjuncts v Inside x) env && truth T s (conjuncts v After x) env)

  part_true : (p : Place) (x : Condition) (env : Env)
      → (truth T s (only_if (same_place Before p) x) env
      && (truth T s (only_if (same_place Inside p) x) env && truth T s (only_if (same_place After p) x) env)) ≡ truth T s x env
  part_true Before x env = and_end (truth T s x env)
  part_true Inside x env = and_end (truth T s x env)
  part_true After x env = refl

  conjuncts_true : (v : Var) (x : Condition) (env : Env)
      → (truth T s (conjuncts v Before x) env && (truth T s (conjuncts v Inside x) env && truth T s (conjuncts v After x) env))
      ≡ truth T s x env
  conjuncts_true v (All l r) env =
      rw (
        conjoined_true (conjuncts v Before l) (conjuncts v Before r) env,
        conjoined_true (conjuncts v Inside l) (conjuncts v Inside r)
            env,
        conjoined_true (conjuncts v After l) (conjuncts v After r) env,
      )
      (shuffled (truth T s (conjuncts v Before l) env) (truth T s (conjuncts v Before r) env) (truth T s (conjuncts v Inside l) env)
      (truth T s (conjuncts v Inside r) env)
      (truth T s (conjuncts v After l) env) (truth T s (conjuncts v After r) env)
      ∙ ap (λ b. b && (truth T s (conjuncts v Before r) env
      && (truth T s (conjuncts v Inside r) env && truth T s (conjuncts v After r) env))) (conjuncts_true v l env)
      ∙ ap (λ b. truth T s l env && b) (conjuncts_true v r env))
  conjuncts_true v x env = part_true (place_of v x) x env

  -- what doesn't name the variable may stand outside its EXISTS
  pulled_true : (v : Var) (t : Table) (x : Condition) (env : Env)
      → (truth T s (conjuncts v Before x) env && (truth T s (Exists v t (conjuncts v Inside x)) env && truth T s (conjuncts v After x) env))
      ≡ truth T s (Exists v t x) env
  pulled_true v t x env =
      sym (any_pulled (truth T s (conjuncts v Before x) env) (truth T s (conjuncts v After x) env)
      (λ row. truth T s (conjuncts v Inside x) (bind v row env)) (rows_of t T))
      ∙ any_same (λ row. truth T s (conjuncts v Before x) env
      && (truth T s (conjuncts v Inside x) (bind v row env) && truth T s (conjuncts v After x) env))
      (λ row. truth T s x (bind v row env)) (rows_of t T) at_row
    where
      at_row : (row : Row) → (truth T s (conjuncts v Before x) env
          && (truth T s (conjuncts v Inside x) (bind v row env) && truth T s (conjuncts v After x) env)) ≡ truth T s x (bind v row env)
      at_row row =
          ap (λ b. b && (truth T s (conjuncts v Inside x) (bind v row env) && truth T s (conjuncts v After x) env))
          (sym (truth_kept T s v (conjuncts v Before x) env (bind v row env) (agree_bound v row env) (conjuncts_apart v Before x refl)))
          ∙ ap (λ b. truth T s (conjuncts v Before x) (bind v row env) && (truth T s (conjuncts v Inside x) (bind v row env) && b))
          (sym (truth_kept T s v (conjuncts v After x) env (bind v row env) (agree_bound v row env) (conjuncts_apart v After x refl)))
          ∙ conjuncts_true v x (bind v row env)

  beside_true : (v : Var) (t : Table) (x made : Condition) (env : Env) → truth T s made env
      ≡ truth T s (Exists v t (conjuncts v Inside x)) env
      → truth T s (beside v x made) env ≡ truth T s (Exists v t x) env
  beside_true v t x made env e =
      conjoined_true (conjuncts v Before x) (conjoined made (conjuncts v After x)) env
      ∙ ap (λ b. truth T s (conjuncts v Before x) env && b)
      (conjoined_true made (conjuncts v After x) env ∙ ap (λ b. b && truth T s (conjuncts v After x) env) e)
      ∙ pulled_true v t x env

  narrowed_true : (v : Var) (t : Table) (x : Condition) (env : Env) → truth T s (narrowed v t x) env ≡ truth T s (Exists v t x) env
  narrowed_true v t x env = beside_true v t x (Exists v t (conjuncts v Inside x)) env refl

  cross_right_true : (v : Var) (l r : Condition) (env : Env) → truth T s (cross_right v l r) env ≡ (truth T s l env && truth T s r env)
  cross_right_true v l (Either a b) env =
      chosen (has_key v a && has_key v b) (Either (cross_right v l a) (cross_right v l b)) (All l (Either a b))
      (truth T s l env && (truth T s a env || truth T s b env)) env
      (rw (cross_right_true v l a env, cross_right_true v l b env) (over_right (truth T s l env) (truth T s a env) (truth T s b env))) refl
  cross_right_true v l r env = refl

  cross_true : (v : Var) (l r : Condition) (env : Env) → truth T s (cross v l r) env ≡ (truth T s l env && truth T s r env)
  cross_true v (Either a b) r env =
      chosen (has_key v a && has_key v b) (Either (cross v a r) (cross v b r)) (cross_right v (Either a b) r)
      ((truth T s a env || truth T s b env) && truth T s r env) env
      (rw (cross_true v a r env, cross_true v b r env) (over_left (truth T s a env) (truth T s b env) (truth T s r env)))
      (cross_right_true v (Either a b) r env)
  cross_true v l r env = cross_right_true v l r env

  distributed_true : (v : Var) (x : Condition) (env : Env) → truth T s (distributed v x) env ≡ truth T s x env
  distributed_true v (All l r) env = cross_true v (distributed v l) (distributed v r) env
      ∙ rw (distributed_true v l env, distributed_true v r env) refl
  distributed_true v (Either l r) env = rw (distributed_true v l env, distributed_true v r env) refl
  distributed_true v x env = refl

  exists_each_true : (v : Var) (t : Table) (x : Condition) (env : Env) → truth T s (exists_each v t x) env ≡ truth T s (Exists v t x) env
  exists_each_true v t (Either l r) env =
      chosen (has_key v l && has_key v r) (Either (exists_each v t l) (exists_each v t r)) (narrowed v t (Either l r))
      (truth T s (Exists v t (Either l r)) env) env
      (rw (exists_each_true v t l env, exists_each_true v t r env)
      (any_or (λ row. truth T s l (bind v row env)) (λ row. truth T s r (bind v row env)) (rows_of t T)))
      (narrowed_true v t (Either l r) env)
  exists_each_true v t x env = narrowed_true v t x env

  split_true : (v : Var) (t : Table) (x : Condition) (env : Env) → truth T s (split v t x) env ≡ truth T s (Exists v t x) env
  split_true v t x env =
      chosen (may_split v t x) (exists_each v t (distributed v x)) (Exists v t x) (truth T s (Exists v t x) env) env
      (exists_each_true v t (distributed v x) env
      ∙ any_same (λ row. truth T s (distributed v x) (bind v row env)) (λ row. truth T s x (bind v row env)) (rows_of t T)
      (λ row. distributed_true v x (bind v row env)))
      refl

  formed_true : (c : Condition) (env : Env) → truth T s (formed c) env ≡ truth T s c env
  formed_true Always env = refl
  formed_true Never env = refl
  formed_true (Plain a) env = refl
  formed_true (NowAtLeast e) env = refl
  formed_true (NowBefore e) env = refl
  formed_true (All l r) env = rw (formed_true l env, formed_true r env) refl
  formed_true (Either l r) env = rw (formed_true l env, formed_true r env) refl
  formed_true (Not x) env = ap not (formed_true x env)
  formed_true (Exists v t x) env =
      beside_true v t (formed x) (split v t (conjuncts v Inside (formed x))) env (split_true v t (conjuncts v Inside (formed x)) env)
      ∙ any_same (λ row. truth T s (formed x) (bind v row env)) (λ row. truth T s x (bind v row env)) (rows_of t T)
      (λ row. formed_true x (bind v row env))

pub forms_are_equivalent : FormsAreEquivalent
forms_are_equivalent c T s env = chosen T s (nat_le (node_count (formed c)) 128) (formed c) c (truth T s c env) env (formed_true T s c env)
    refl
