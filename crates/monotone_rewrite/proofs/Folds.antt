-- Folding keeps what a probe finds.
use Rattle.std.proofs.Common.{◌≡◌, ℕ, ℤ, pos, Bool, true, false, not, Some, List, [], ◌∷◌, refl, sym, ap, ◌∙◌, subst, inl, inr, arith}
use Rattle.std.specs.Prelude.{◌&&◌, ◌||◌, ◌+ℤ◌, int_lt, nat_eq}
use Rattle.std.specs.List.{list_any}
use Rattle.std.specs.Ordering.{int_eq}
use Rattle.std.proofs.lemmas.Bool.{cases_Bool, cases_eq, and_parts, false≢true, eqb-true}
use Rattle.std.proofs.lemmas.Bool.Decides.{Decides-int_eq}
use Rattle.std.proofs.lemmas.Int.{ints}
use Rattle.tql_tree.specs.declared.table.Table.{Table}
use Rattle.tql_core.specs.declared.term.Var.{Var}
use Rattle.tql_core.specs.declared.term.Base.{Base}
use Rattle.tql_core.specs.declared.term.Base.TheVariants.{Arrival, Date, Fixed, ArrivalDay, DateDay}
use Rattle.tql_core.specs.declared.term.Term.{Term}
use Rattle.tap_base.specs.declared.numbers.Op.{Op}
use Rattle.tap_base.specs.declared.numbers.Op.TheVariants.{Eq, Ne, Lt, Le, Gt, Ge}
use Rattle.tql_core.specs.declared.atom.NumExpr.{NumExpr}
use Rattle.tql_core.specs.declared.atom.NumExpr.TheVariants.{Literal, Field}
use Rattle.tql_core.specs.declared.atom.Atom.{Atom}
use Rattle.tql_core.specs.declared.atom.Atom.TheVariants.{Numbers, Texts, Times, Has}
use Rattle.tql_core.specs.declared.atom.TextExpr.{TextExpr}
use Rattle.tql_core.specs.declared.atom.TextExpr.TheVariants as X
use Rattle.tql_core.specs.Condition.{Condition, Always, Never, Plain, NowAtLeast, NowBefore, All, Either, Not, Exists}
use Rattle.tql_core.specs.Row.{Row, arrival, rows_of}
use Rattle.tap_rows.specs.declared.tables.Tables.{Tables}
use Rattle.tql_core.specs.Values.{Env, bind, lookup, on_row, base_value, plus_to, value, both, compare}
use Rattle.tql_core.specs.Holds.{truth}
use Rattle.tql_core.specs.Scope.{BaseIn, NumIn, TextIn, AtomIn, Scoped}
use Rattle.tql_core.proofs.Bound.{bind_same, bind_other}
use Rattle.tap_rows.specs.Kept.{In}
use Rattle.time_marks.specs.Marks.{copy_base, copy_term, body}
use Rattle.monotone_rewrite.specs.Folding.{KnownTruth, Yes, No, Open, known, is_no, constant, same_base, is_there, fold_atom, fold_all}
use Rattle.monotone_rewrite.specs.Folding.{fold_either, fold_not, fold_exists, fold}
use Rattle.time_marks.specs.Found.{NamesInScope}
use Rattle.time_marks.proofs.Lists.{any_same}
use Rattle.time_marks.proofs.Envs.{base_stays}

yes_is : (c : Condition) → known c ≡ Yes → c ≡ Always
yes_is Always e = refl
yes_is Never e = absurd cc
yes_is _ e = absurd cc

pub no_is : (c : Condition) → known c ≡ No → c ≡ Never
no_is Always e = absurd cc
no_is Never e = refl
no_is _ e = absurd cc

pub is_no_is : (k : KnownTruth) → is_no k ≡ true → k ≡ No
is_no_is No e = refl
is_no_is _ e = absurd (false≢true e)

moved_lt : (z a b : ℤ) → int_lt (z +ℤ a) (z +ℤ b) ≡ int_lt a b
moved_lt z a b = grind (arith, ints)

moved_eq : (z a b : ℤ) → int_eq (z +ℤ a) (z +ℤ b) ≡ int_eq a b
moved_eq z a b = rw (moved_lt z a b, moved_lt z b a)

-- moving both sides changes no comparison
moved : (op : Op) (z a b : ℤ) → compare op (z +ℤ a) (z +ℤ b) ≡ compare op a b
moved Eq z a b = moved_eq z a b
moved Ne z a b = ap not (moved_eq z a b)
moved Lt z a b = moved_lt z a b
moved Le z a b = grind (arith, ints)
moved Gt z a b = moved_lt z b a
moved Ge z a b = grind (arith, ints)

pub same_base_is : (a b : Base) → same_base a b ≡ true → a ≡ b
same_base_is (Arrival v) (Arrival w) h = ap (λ k. Arrival (record { 0 = k })) (eqb-true v.0 w.0 h)
same_base_is (Date v) (Date w) h = ap (λ k. Date (record { 0 = k })) (eqb-true v.0 w.0 h)
same_base_is Fixed Fixed h = refl
same_base_is (ArrivalDay v n) (ArrivalDay w k) h =
    let p = and_parts (nat_eq v.0 w.0) (int_eq n k) h in
    ap (λ j. ArrivalDay (record { 0 = j }) n) (eqb-true v.0 w.0 p.0) ∙ ap (λ j. ArrivalDay w j) ((Decides-int_eq n k).0 p.1)
same_base_is (DateDay v n) (DateDay w k) h =
    let p = and_parts (nat_eq v.0 w.0) (int_eq n k) h in
    ap (λ j. DateDay (record { 0 = j }) n) (eqb-true v.0 w.0 p.0) ∙ ap (λ j. DateDay w j) ((Decides-int_eq n k).0 p.1)
same_base_is _ _ h = absurd (false≢true h)

abbrev pub Bounds : List ℕ → Env → Type 0
Bounds scope env = (k : ℕ) → In k scope → (r : Row) × (lookup k env ≡ Some r)

bounds_bind : (scope : List ℕ) (env : Env) (v : Var) (r : Row) → Bounds scope env → Bounds (v.0 ∷ scope) (bind v r env)
bounds_bind scope env v r h k (inl e) = (r, subst (λ j. lookup j (bind v r env) ≡ Some r) (sym e) (bind_same v r env))
bounds_bind scope env v r h k (inr i) =
    elim (cases_eq k v.0) [
      | inl e ↦ (r, subst (λ j. lookup j (bind v r env) ≡ Some r) (sym e) (bind_same v r env))
      | inr n ↦ let b = h k i in (b.0, bind_other k v r env n ∙ b.1)
    ]

pub base_within : (scope outer : List ℕ) → ((k : ℕ) → In k scope → In k outer) → (b : Base) → BaseIn scope b → BaseIn outer b
base_within scope outer h (Arrival v) i = h v.0 i
base_within scope outer h (Date v) i = h v.0 i
base_within scope outer h Fixed i = tt
base_within scope outer h (ArrivalDay v n) i = h v.0 i
base_within scope outer h (DateDay v n) i = h v.0 i

text_within : (scope outer : List ℕ) → ((k : ℕ) → In k scope → In k outer) → (x : TextExpr) → TextIn scope x → TextIn outer x
text_within scope outer h (X.Literal t) i = tt
text_within scope outer h (X.Field v f) i = h v.0 i

pub atom_within : (scope outer : List ℕ) → ((k : ℕ) → In k scope → In k outer) → (a : Atom) → AtomIn scope a → AtomIn outer a
atom_within scope outer h (Numbers x op y) i = (number_within x i.0, number_within y i.1)
  where
    number_within : (x : NumExpr) → NumIn scope x → NumIn outer x
    number_within (Literal n) i = tt
    number_within (Field v f) i = h v.0 i
atom_within scope outer h (Texts x op y) i = (text_within scope outer h x i.0, text_within scope outer h y i.1)
atom_within scope outer h (Has v f y) i = (h v.0 i.0, text_within scope outer h y i.1)
atom_within scope outer h (Times x op y) i = (base_within scope outer h x.base i.0, base_within scope outer h y.base i.1)

pub wider : (v : ℕ) (scope outer : List ℕ) → ((k : ℕ) → In k scope → In k outer) → (k : ℕ) → In k (v ∷ scope) → In k (v ∷ outer)
wider v scope outer h k (inl e) = inl e
wider v scope outer h k (inr i) = inr (h k i)

base_wider : (v : ℕ) (scope : List ℕ) (b : Base) → BaseIn scope b → BaseIn (v ∷ scope) b
base_wider v scope (Arrival w) i = inr i
base_wider v scope (Date w) i = inr i
base_wider v scope Fixed i = tt
base_wider v scope (ArrivalDay w n) i = inr i
base_wider v scope (DateDay w n) i = inr i

pub body_named : (at : Term) (c : Condition) (scope outer : List ℕ) → Scoped scope c → ((k : ℕ) → In k scope → In k outer)
    → BaseIn outer at.base → NamesInScope outer (body c at)
body_named at Always scope outer sc h b = tt
body_named at Never scope outer sc h b = tt
body_named at (Plain a) scope outer sc h b = atom_within scope outer h a sc
body_named at (NowAtLeast e) scope outer sc h b = (b, base_within scope outer h e.base sc)
body_named at (NowBefore e) scope outer sc h b = (b, base_within scope outer h e.base sc)
body_named at (All l r) scope outer sc h b = (body_named at l scope outer sc.0 h b, body_named at r scope outer sc.1 h b)
body_named at (Either l r) scope outer sc h b = (body_named at l scope outer sc.0 h b, body_named at r scope outer sc.1 h b)
body_named at (Not x) scope outer sc h b = body_named at x scope outer sc h b
body_named at (Exists v t x) scope outer sc h b =
    let b' = base_wider v.0 outer at.base b in
    (sc.0, sc.1, ((inl refl, b'), body_named at x (v.0 ∷ scope) (v.0 ∷ outer) sc.3 (wider v.0 scope outer h) b'))

module _ (T : Tables) (n : ℤ) (e : Term) where
  -- the base of at is present
  abbrev Present : Env → Type 0
  Present env = (z : ℤ) × (base_value (copy_base e.base) env ≡ Some z)

  there : (scope : List ℕ) (env : Env) → Bounds scope env → Present env → (b : Base) → BaseIn scope b → is_there (copy_term e) b ≡ true
      → (z : ℤ) × (base_value b env ≡ Some z)
  there scope env h p (Arrival v) i y = let k = h v.0 i in (arrival k.0, ap (λ o. on_row o (λ r. Some (arrival r))) k.1)
  there scope env h p (Date v) i y = let q = same_base_is (Date v) (copy_base e.base) y in (p.0, ap (λ b. base_value b env) q ∙ p.1)
  there scope env h p Fixed i y = (pos 0, refl)
  there scope env h p (ArrivalDay v n) i y =
      let q = same_base_is (ArrivalDay v n) (copy_base e.base) y in
      (p.0, ap (λ b. base_value b env) q ∙ p.1)
  there scope env h p (DateDay v n) i y =
      let q = same_base_is (DateDay v n) (copy_base e.base) y in
      (p.0, ap (λ b. base_value b env) q ∙ p.1)

  constant_truth : (b : Bool) (env : Env) → truth T n (constant b) env ≡ b
  constant_truth true env = refl
  constant_truth false env = refl

  fold_times : (x y : Term) (op : Op) (scope : List ℕ) (env : Env) → BaseIn scope x.base → Bounds scope env → Present env
      → truth T n (fold_atom (copy_term e) (Times x op y)) env ≡ both op (value x env) (value y env)
  fold_times x y op scope env i h p =
      elim (cases_Bool (same_base x.base y.base && is_there (copy_term e) x.base)) [
        | inl t ↦
            let w = and_parts (same_base x.base y.base) (is_there (copy_term e) x.base) t in
            let same = same_base_is x.base y.base w.0 in
            let z = there scope env h p x.base i w.1 in
            let vx : value x env ≡ Some (z.0 +ℤ x.plus) = ap (λ o. plus_to o x.plus) z.1 in
            let vy : value y env ≡ Some (z.0 +ℤ y.plus) = ap (λ b. plus_to (base_value b env) y.plus) (sym same)
            ∙ ap (λ o. plus_to o y.plus) z.1 in
            rw (t, vx, vy) (constant_truth (compare op x.plus y.plus) env ∙ sym (moved op z.0 x.plus y.plus))
        | inr f ↦ rw f
      ]

  all_truth : (k k' : KnownTruth) (l r : Condition) (env : Env) → known l ≡ k → known r ≡ k'
      → truth T n (fold_all k k' l r) env ≡ (truth T n l env && truth T n r env)
  all_truth No k' l r env a b = rw (no_is l a)
  all_truth Yes k' l r env a b = rw (yes_is l a)
  all_truth Open No l r env a b = rw (no_is r b) (sym (and_false (truth T n l env)))
    where
      and_false : (x : Bool) → (x && false) ≡ false
      and_false true = refl
      and_false false = refl
  all_truth Open Yes l r env a b = rw (yes_is r b) (sym (and_true (truth T n l env)))
    where
      and_true : (x : Bool) → (x && true) ≡ x
      and_true true = refl
      and_true false = refl
  all_truth Open Open l r env a b = refl

  either_truth : (k k' : KnownTruth) (l r : Condition) (env : Env) → known l ≡ k → known r ≡ k'
      → truth T n (fold_either k k' l r) env ≡ (truth T n l env || truth T n r env)
  either_truth Yes k' l r env a b = rw (yes_is l a)
  either_truth No k' l r env a b = rw (no_is l a)
  either_truth Open Yes l r env a b = rw (yes_is r b) (sym (or_true (truth T n l env)))
    where
      or_true : (x : Bool) → (x || true) ≡ true
      or_true true = refl
      or_true false = refl
  either_truth Open No l r env a b = rw (no_is r b) (sym (or_false (truth T n l env)))
    where
      or_false : (x : Bool) → (x || false) ≡ x
      or_false true = refl
      or_false false = refl
  either_truth Open Open l r env a b = refl

  not_truth : (k : KnownTruth) (x : Condition) (env : Env) → known x ≡ k → truth T n (fold_not k x) env ≡ not (truth T n x env)
  not_truth Yes x env a = rw (yes_is x a)
  not_truth No x env a = rw (no_is x a)
  not_truth Open x env a = refl

  any_false : {A : Type 0} (xs : List A) → list_any (λ (x : A). false) xs ≡ false
  any_false [] = refl
  any_false (x ∷ xs) = any_false xs

  exists_truth : (k : KnownTruth) (v : Var) (t : Table) (x : Condition) (env : Env) → known x ≡ k
      → truth T n (fold_exists k v t x) env ≡ truth T n (Exists v t x) env
  exists_truth Yes v t x env a = refl
  exists_truth Open v t x env a = refl
  exists_truth No v t x env a = rw (no_is x a) (sym (any_false (rows_of t T)))

  -- folding keeps the truth of a body if at is present
  pub fold_truth : (x : Condition) (scope : List ℕ) (env : Env) → NamesInScope scope x → Bounds scope env → Present env
      → truth T n (fold (copy_term e) x) env ≡ truth T n x env
  fold_truth Always scope env na h p = refl
  fold_truth Never scope env na h p = refl
  fold_truth (Plain (Numbers x op y)) scope env na h p = refl
  fold_truth (Plain (Texts x op y)) scope env na h p = refl
  fold_truth (Plain (Has v f y)) scope env na h p = refl
  fold_truth (Plain (Times x op y)) scope env na h p = fold_times x y op scope env na.0 h p
  fold_truth (NowAtLeast y) scope env na h p = absurd na
  fold_truth (NowBefore y) scope env na h p = absurd na
  fold_truth (All l r) scope env na h p = all_truth _ _ (fold (copy_term e) l) (fold (copy_term e) r) env refl refl
      ∙ rw (fold_truth l scope env na.0 h p, fold_truth r scope env na.1 h p)
  fold_truth (Either l r) scope env na h p = either_truth _ _ (fold (copy_term e) l) (fold (copy_term e) r) env refl refl
      ∙ rw (fold_truth l scope env na.0 h p, fold_truth r scope env na.1 h p)
  fold_truth (Not x) scope env na h p = not_truth _ (fold (copy_term e) x) env refl ∙ ap not (fold_truth x scope env na h p)
  fold_truth (Exists v t x) scope env na h p =
      exists_truth _ v t (fold (copy_term e) x) env refl
      ∙ any_same _ _ (rows_of t T) (λ r.
      fold_truth x (v.0 ∷ scope) (bind v r env) na.2 (bounds_bind scope env v r h) (p.0, base_stays e.base v r env na.0 na.1 ∙ p.1))
