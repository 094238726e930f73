-- The times of a form are those of its condition.
use Rattle.std.proofs.Common.{◌≡◌, true, false, Bool, refl}
use Rattle.std.specs.Prelude.{◌&&◌, nat_le, if◌then◌else◌}
use Rattle.std.proofs.lemmas.Bool.{and_parts, and_from}
use Rattle.tql_tree.specs.declared.table.Table.{Table}
use Rattle.tql_core.specs.declared.term.Var.{Var}
use Rattle.tql_core.specs.Condition.{Condition, Always, Never, Plain, NowAtLeast, NowBefore, All, Either, Not, Exists}
use Rattle.tql_core.specs.Bounds.{are_bounded}
use Rattle.query_form.specs.declared.place.Place.{Place}
use Rattle.query_form.specs.declared.place.Place.TheVariants.{Before, Inside, After}
use Rattle.query_form.specs.Form.{has_key, may_split, conjoined, place_of, same_place, only_if, conjuncts, beside, narrowed, cross_right}
use Rattle.query_form.specs.Form.{cross, distributed, exists_each, split, formed, node_count}
use Rattle.query_form.specs.Laws.{FormsAreBounded}

abbrev Fits : Condition → Type 0
Fits x = are_bounded x ≡ true

chosen_fits : (b : Bool) (x y : Condition) → Fits x → Fits y → Fits (if b then x else y)
chosen_fits true x y i j = i
chosen_fits false x y i j = j

both : (l r : Condition) → Fits l → Fits r → (are_bounded l && are_bounded r) ≡ true
both l r i j = and_from (are_bounded l) (are_bounded r) i j

each : (l r : Condition) → (are_bounded l && are_bounded r) ≡ true → Fits l × Fits r
each l r i = and_parts (are_bounded l) (are_bounded r) i

conjoined_fits : (l r : Condition) → Fits l → Fits r → Fits (conjoined l r)
conjoined_fits Always r i j = j
conjoined_fits l Always i j = i
conjoined_fits l r i j = both l r i j

only_fits : (b : Bool) (x : Condition) → Fits x → Fits (only_if b x)
only_fits true x i = i
only_fits false x i = refl

conjuncts_fits : (v : Var) (p : Place) (x : Condition) → Fits x → Fits (conjuncts v p x)
conjuncts_fits v p (All l r) i =
    let e = each l r i in
    conjoined_fits (conjuncts v p l) (conjuncts v p r) (conjuncts_fits v p l e.0) (conjuncts_fits v p r e.1)
conjuncts_fits v p x i = only_fits (same_place p (place_of v x)) x i

cross_right_fits : (v : Var) (l r : Condition) → Fits l → Fits r → Fits (cross_right v l r)
cross_right_fits v l (Either a b) i j =
    let e = each a b j in
    chosen_fits (has_key v a && has_key v b) (Either (cross_right v l a) (cross_right v l b)) (All l (Either a b))
    (both (cross_right v l a) (cross_right v l b) (cross_right_fits v l a i e.0) (cross_right_fits v l b i e.1)) (both l (Either a b) i j)
cross_right_fits v l r i j = both l r i j

cross_fits : (v : Var) (l r : Condition) → Fits l → Fits r → Fits (cross v l r)
cross_fits v (Either a b) r i j =
    let e = each a b i in
    chosen_fits (has_key v a && has_key v b) (Either (cross v a r) (cross v b r)) (cross_right v (Either a b) r)
    (both (cross v a r) (cross v b r) (cross_fits v a r e.0 j) (cross_fits v b r e.1 j)) (cross_right_fits v (Either a b) r i j)
cross_fits v l r i j = cross_right_fits v l r i j

distributed_fits : (v : Var) (x : Condition) → Fits x → Fits (distributed v x)
distributed_fits v (All l r) i =
    let e = each l r i in
    cross_fits v (distributed v l) (distributed v r) (distributed_fits v l e.0) (distributed_fits v r e.1)
distributed_fits v (Either l r) i =
    let e = each l r i in
    both (distributed v l) (distributed v r) (distributed_fits v l e.0) (distributed_fits v r e.1)
distributed_fits v x i = i

beside_fits : (v : Var) (x made : Condition) → Fits x → Fits made → Fits (beside v x made)
beside_fits v x made i j =
    conjoined_fits (conjuncts v Before x) (conjoined made (conjuncts v After x)) (conjuncts_fits v Before x i)
    (conjoined_fits made (conjuncts v After x) j (conjuncts_fits v After x i))

narrowed_fits : (v : Var) (t : Table) (x : Condition) → Fits x → Fits (narrowed v t x)
narrowed_fits v t x i = beside_fits v x (Exists v t (conjuncts v Inside x)) i (conjuncts_fits v Inside x i)

exists_each_fits : (v : Var) (t : Table) (x : Condition) → Fits x → Fits (exists_each v t x)
exists_each_fits v t (Either l r) i =
    let e = each l r i in
    chosen_fits (has_key v l && has_key v r) (Either (exists_each v t l) (exists_each v t r)) (narrowed v t (Either l r))
    (both (exists_each v t l) (exists_each v t r) (exists_each_fits v t l e.0) (exists_each_fits v t r e.1))
    (narrowed_fits v t (Either l r) i)
exists_each_fits v t x i = narrowed_fits v t x i

split_fits : (v : Var) (t : Table) (x : Condition) → Fits x → Fits (split v t x)
split_fits v t x i = chosen_fits (may_split v t x) (exists_each v t (distributed v x)) (Exists v t x)
    (exists_each_fits v t (distributed v x) (distributed_fits v x i)) i

formed_fits : (c : Condition) → Fits c → Fits (formed c)
formed_fits Always i = i
formed_fits Never i = i
formed_fits (Plain a) i = i
formed_fits (NowAtLeast e) i = i
formed_fits (NowBefore e) i = i
formed_fits (All l r) i = let e = each l r i in both (formed l) (formed r) (formed_fits l e.0) (formed_fits r e.1)
formed_fits (Either l r) i = let e = each l r i in both (formed l) (formed r) (formed_fits l e.0) (formed_fits r e.1)
formed_fits (Not x) i = formed_fits x i
formed_fits (Exists v t x) i =
    let j = formed_fits x i in
    beside_fits v (formed x) (split v t (conjuncts v Inside (formed x))) j
    (split_fits v t (conjuncts v Inside (formed x)) (conjuncts_fits v Inside (formed x) j))

pub forms_are_bounded : FormsAreBounded
forms_are_bounded c i = chosen_fits (nat_le (node_count (formed c)) 128) (formed c) c (formed_fits c i) i
