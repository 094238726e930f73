-- The form of a query is a query.
use Rattle.std.proofs.Common.{◌≡◌, ℕ, ◌≤◌, true, false, Bool, List, [], ◌∷◌, refl, inl, inr}
use Rattle.std.specs.Prelude.{◌&&◌, nat_le, nat_eq, if◌then◌else◌}
use Rattle.std.proofs.lemmas.Bool.{eqb-false, or_parts}
use Rattle.tap_rows.specs.Kept.{In}
use Rattle.tql_tree.specs.declared.table.Table.{Table}
use Rattle.tql_core.specs.declared.term.Var.{Var}
use Rattle.tql_core.specs.declared.term.Base.{Base}
use Rattle.tql_core.specs.declared.term.Base.TheVariants.{Arrival, Date, Fixed, ArrivalDay, DateDay}
use Rattle.tql_core.specs.declared.atom.NumExpr.{NumExpr}
use Rattle.tql_core.specs.declared.atom.NumExpr.TheVariants.{Literal, Field}
use Rattle.tql_core.specs.declared.atom.Atom.{Atom}
use Rattle.tql_core.specs.declared.atom.Atom.TheVariants.{Numbers, Texts, Times, Has}
use Rattle.tql_core.specs.declared.atom.TextExpr.{TextExpr}
use Rattle.tql_core.specs.declared.atom.TextExpr.TheVariants as X
use Rattle.tql_core.specs.Condition.{Condition, Always, Never, Plain, NowAtLeast, NowBefore, All, Either, Not, Exists}
use Rattle.tql_core.specs.Scope.{BaseIn, NumIn, TextIn, AtomIn, Scoped}
use Rattle.query_form.specs.declared.place.Place.{Place}
use Rattle.query_form.specs.declared.place.Place.TheVariants.{Before, Inside, After}
use Rattle.query_form.specs.Form.{base_names, number_names, text_names, atom_names, names, has_key, may_split, conjoined, place_of}
use Rattle.query_form.specs.Form.{same_place, only_if, conjuncts, beside, narrowed, cross_right, cross, distributed, exists_each, split}
use Rattle.query_form.specs.Form.{formed, node_count}
use Rattle.query_form.specs.Laws.{FormsAreQueries}
use Rattle.query_form.proofs.Equivalent.{conjuncts_apart}

-- the second scope has all variables of the first but one, and no others
record Loses (v : Var) (big small : List ℕ) : Type 0 where
  pub others : (k : ℕ) → In k big → (k ≡ v.0 → ⊥) → In k small
  pub among : (k : ℕ) → In k small → In k big

loses_first : (v : Var) (scope : List ℕ) → Loses v (v.0 ∷ scope) scope
loses_first v scope = record { others = others; among = λ k i. inr i }
  where
    others : (k : ℕ) → In k (v.0 ∷ scope) → (k ≡ v.0 → ⊥) → In k scope
    others k (inl e) n = absurd (n e)
    others k (inr i) n = i

loses_under : (v : Var) (w : ℕ) (big small : List ℕ) → Loses v big small → Loses v (w ∷ big) (w ∷ small)
loses_under v w big small l = record { others = others; among = among }
  where
    others : (k : ℕ) → In k (w ∷ big) → (k ≡ v.0 → ⊥) → In k (w ∷ small)
    others k (inl e) n = inl e
    others k (inr i) n = inr (l.others k i n)

    among : (k : ℕ) → In k (w ∷ small) → In k (w ∷ big)
    among k (inl e) = inl e
    among k (inr i) = inr (l.among k i)

module _ (v : Var) (big small : List ℕ) (l : Loses v big small) where
  var_left : (w : Var) → In w.0 big → nat_eq w.0 v.0 ≡ false → In w.0 small
  var_left w i e = l.others w.0 i (eqb-false w.0 v.0 e)

  base_left : (b : Base) → BaseIn big b → base_names v b ≡ false → BaseIn small b
  base_left (Arrival w) i e = var_left w i e
  base_left (Date w) i e = var_left w i e
  base_left Fixed i e = tt
  base_left (ArrivalDay w n) i e = var_left w i e
  base_left (DateDay w n) i e = var_left w i e

  number_left : (x : NumExpr) → NumIn big x → number_names v x ≡ false → NumIn small x
  number_left (Literal n) i e = tt
  number_left (Field w f) i e = var_left w i e

  text_left : (x : TextExpr) → TextIn big x → text_names v x ≡ false → TextIn small x
  text_left (X.Literal t) i e = tt
  text_left (X.Field w f) i e = var_left w i e

  atom_left : (a : Atom) → AtomIn big a → atom_names v a ≡ false → AtomIn small a
  atom_left (Numbers x op y) i e =
      let p = or_parts (number_names v x) (number_names v y) e in
      (number_left x i.0 p.0, number_left y i.1 p.1)
  atom_left (Texts x op y) i e = let p = or_parts (text_names v x) (text_names v y) e in (text_left x i.0 p.0, text_left y i.1 p.1)
  atom_left (Times x op y) i e =
      let p = or_parts (base_names v x.base) (base_names v y.base) e in
      (base_left x.base i.0 p.0, base_left y.base i.1 p.1)
  atom_left (Has w f y) i e = let p = or_parts (nat_eq w.0 v.0) (text_names v y) e in (var_left w i.0 p.0, text_left y i.1 p.1)

-- a condition that doesn't name a variable is scoped without it
left : (v : Var) (big small : List ℕ) → Loses v big small → (x : Condition) → Scoped big x → names v x ≡ false → Scoped small x
left v big small l Always i e = tt
left v big small l Never i e = tt
left v big small l (Plain a) i e = atom_left v big small l a i e
left v big small l (NowAtLeast t) i e = base_left v big small l t.base i e
left v big small l (NowBefore t) i e = base_left v big small l t.base i e
left v big small l (All x y) i e =
    let p = or_parts (names v x) (names v y) e in
    (left v big small l x i.0 p.0, left v big small l y i.1 p.1)
left v big small l (Either x y) i e =
    let p = or_parts (names v x) (names v y) e in
    (left v big small l x i.0 p.0, left v big small l y i.1 p.1)
left v big small l (Not x) i e = left v big small l x i e
left v big small l (Exists w t x) (low, high, new, inner) e =
    (low, high, (λ i. new (l.among w.0 i)), left v (w.0 ∷ big) (w.0 ∷ small) (loses_under v w.0 big small l) x inner e)

-- an EXISTS may bind the variable here
record Binds (v : Var) (scope : List ℕ) : Type 0 where
  pub low : 1 ≤ v.0
  pub high : v.0 ≤ 5
  pub new : In v.0 scope → ⊥

module _ (scope : List ℕ) where
  chosen_in : (b : Bool) (x y : Condition) → Scoped scope x → Scoped scope y → Scoped scope (if b then x else y)
  chosen_in true x y i j = i
  chosen_in false x y i j = j

  conjoined_in : (l r : Condition) → Scoped scope l → Scoped scope r → Scoped scope (conjoined l r)
  conjoined_in Always r i j = j
  conjoined_in l Always i j = i
  conjoined_in l r i j = (i, j)

  only_in : (b : Bool) (x : Condition) → Scoped scope x → Scoped scope (only_if b x)
  only_in true x i = i
  only_in false x i = tt

  pub conjuncts_in : (v : Var) (p : Place) (x : Condition) → Scoped scope x → Scoped scope (conjuncts v p x)
  conjuncts_in v p (All l r) i = conjoined_in (conjuncts v p l) (conjuncts v p r) (conjuncts_in v p l i.0) (conjuncts_in v p r i.1)
  conjuncts_in v p x i = only_in (same_place p (place_of v x)) x i

  cross_right_in : (v : Var) (l r : Condition) → Scoped scope l → Scoped scope r → Scoped scope (cross_right v l r)
  cross_right_in v l (Either a b) i j =
      chosen_in (has_key v a && has_key v b) (Either (cross_right v l a) (cross_right v l b)) (All l (Either a b))
      (cross_right_in v l a i j.0, cross_right_in v l b i j.1) (i, j)
  cross_right_in v l r i j = (i, j)

  cross_in : (v : Var) (l r : Condition) → Scoped scope l → Scoped scope r → Scoped scope (cross v l r)
  cross_in v (Either a b) r i j =
      chosen_in (has_key v a && has_key v b) (Either (cross v a r) (cross v b r)) (cross_right v (Either a b) r)
      (cross_in v a r i.0 j, cross_in v b r i.1 j)
      (cross_right_in v (Either a b) r i j)
  cross_in v l r i j = cross_right_in v l r i j

  pub distributed_in : (v : Var) (x : Condition) → Scoped scope x → Scoped scope (distributed v x)
  distributed_in v (All l r) i = cross_in v (distributed v l) (distributed v r) (distributed_in v l i.0) (distributed_in v r i.1)
  distributed_in v (Either l r) i = (distributed_in v l i.0, distributed_in v r i.1)
  distributed_in v x i = i

module _ (scope : List ℕ) (v : Var) (t : Table) (b : Binds v scope) where
  apart_in : (p : Place) (x : Condition) → same_place p Inside ≡ false → Scoped (v.0 ∷ scope) x → Scoped scope (conjuncts v p x)
  apart_in p x apart i = left v (v.0 ∷ scope) scope (loses_first v scope) (conjuncts v p x) (conjuncts_in (v.0 ∷ scope) v p x i)
      (conjuncts_apart v p x apart)

  beside_in : (x made : Condition) → Scoped (v.0 ∷ scope) x → Scoped scope made → Scoped scope (beside v x made)
  beside_in x made i j =
      conjoined_in scope (conjuncts v Before x) (conjoined made (conjuncts v After x)) (apart_in Before x refl i)
      (conjoined_in scope made (conjuncts v After x) j (apart_in After x refl i))

  exists_in : (x : Condition) → Scoped (v.0 ∷ scope) x → Scoped scope (Exists v t x)
  exists_in x i = (b.low, b.high, b.new, i)

  narrowed_in : (x : Condition) → Scoped (v.0 ∷ scope) x → Scoped scope (narrowed v t x)
  narrowed_in x i = beside_in x (Exists v t (conjuncts v Inside x)) i
      (exists_in (conjuncts v Inside x) (conjuncts_in (v.0 ∷ scope) v Inside x i))

  exists_each_in : (x : Condition) → Scoped (v.0 ∷ scope) x → Scoped scope (exists_each v t x)
  exists_each_in (Either l r) i =
      chosen_in scope (has_key v l && has_key v r) (Either (exists_each v t l) (exists_each v t r)) (narrowed v t (Either l r))
      (exists_each_in l i.0, exists_each_in r i.1)
      (narrowed_in (Either l r) i)
  exists_each_in x i = narrowed_in x i

  split_in : (x : Condition) → Scoped (v.0 ∷ scope) x → Scoped scope (split v t x)
  split_in x i =
      chosen_in scope (may_split v t x) (exists_each v t (distributed v x)) (Exists v t x)
      (exists_each_in (distributed v x) (distributed_in (v.0 ∷ scope) v x i)) (exists_in x i)

pub formed_in : (scope : List ℕ) (c : Condition) → Scoped scope c → Scoped scope (formed c)
formed_in scope Always i = i
formed_in scope Never i = i
formed_in scope (Plain a) i = i
formed_in scope (NowAtLeast e) i = i
formed_in scope (NowBefore e) i = i
formed_in scope (All l r) i = (formed_in scope l i.0, formed_in scope r i.1)
formed_in scope (Either l r) i = (formed_in scope l i.0, formed_in scope r i.1)
formed_in scope (Not x) i = formed_in scope x i
formed_in scope (Exists v t x) (low, high, new, inner) =
    let b : Binds v scope = record { low = low; high = high; new = new } in
    let i = formed_in (v.0 ∷ scope) x inner in
    beside_in scope v t b (formed x) (split v t (conjuncts v Inside (formed x))) i
    (split_in scope v t b (conjuncts v Inside (formed x)) (conjuncts_in (v.0 ∷ scope) v Inside (formed x) i))

pub forms_are_queries : FormsAreQueries
forms_are_queries c i = chosen_in (0 ∷ []) (nat_le (node_count (formed c)) 128) (formed c) c (formed_in (0 ∷ []) c i) i
