-- Conditions in a pool: they are unchanged as it grows, and no two numbers have equal ones.
use Rattle.std.proofs.Common.{◌≡◌, ℕ, zero, suc, ◌<◌, Bool, true, List, [], ◌∷◌, ◌++◌, length, Option, Some, None, refl, sym, ap, ◌∙◌}
use Rattle.std.proofs.Common.{subst, arith, length-append}
use Rattle.std.specs.Prelude.{◌&&◌, slice_get, nat_lt}
use Rattle.std.proofs.lemmas.Bool.{and_parts}
use Rattle.std.proofs.lemmas.Option.{slice_get_within}
use Rattle.node_pool.specs.Pools.{are_below, IsPool, Extends}
use Rattle.node_pool.specs.declared.node.NodeId.{NodeId}
use Rattle.tql_core.specs.Condition.{Condition, Not, Exists}
use Rattle.tql_core.specs.declared.tnode.TNode.{TNode}
use Rattle.tql_core.specs.declared.tnode.TNode.TheVariants as N
use Rattle.tql_core.specs.Trees.{kids_of, node_tree, tree, tree_at, IsTreeAt, KeepsTrees, NodesSayTheirParts, TreesStay}
use Rattle.tql_core.specs.Trees.{EqualTreesHaveOneNumber}

is_below : (k n : ℕ) → nat_lt k n ≡ true → k < n
is_below k n h = grind arith

first_below : (k n : ℕ) (rest : Bool) → (nat_lt k n && rest) ≡ true → k < n
first_below k n rest h = is_below k n (and_parts _ _ h).0

second_below : (j k n : ℕ) (rest : Bool) → (nat_lt j n && (nat_lt k n && rest)) ≡ true → k < n
second_below j k n rest h = first_below k n rest (and_parts _ _ h).1

node_same : (n : ℕ) (node : TNode) (f g : ℕ → Condition) → are_below n (kids_of node) ≡ true → ((k : ℕ) → k < n → f k ≡ g k)
    → node_tree (Some node) f ≡ node_tree (Some node) g
node_same n N.True f g b h = refl
node_same n N.False f g b h = refl
node_same n (N.Plain a) f g b h = refl
node_same n (N.All l r) f g b h = rw (h l.0 (first_below l.0 n _ b), h r.0 (second_below l.0 r.0 n _ b))
node_same n (N.Either l r) f g b h = rw (h l.0 (first_below l.0 n _ b), h r.0 (second_below l.0 r.0 n _ b))
node_same n (N.Not x) f g b h = ap Not (h x.0 (first_below x.0 n _ b))
node_same n (N.Exists v t x) f g b h = ap (Exists v t) (h x.0 (first_below x.0 n _ b))

deeper : (nodes : List TNode) → IsPool kids_of nodes → (n m id : ℕ) → id < n → id < m → tree nodes n id ≡ tree nodes m id
deeper nodes p zero m id a b = absurd (omega arith)
deeper nodes p (suc n) zero id a b = absurd (omega arith)
deeper nodes p (suc n) (suc m) id a b = go (λ k h. deeper nodes p n m k (omega arith) (omega arith)) (slice_get nodes id) refl
  where
    go : ((k : ℕ) → k < id → tree nodes n k ≡ tree nodes m k) → (o : Option TNode) → slice_get nodes id ≡ o
        → node_tree (slice_get nodes id) (tree nodes n) ≡ node_tree (slice_get nodes id) (tree nodes m)
    go ih None e = rw e
    go ih (Some node) e = rw e (node_same id node (tree nodes n) (tree nodes m) (p.behind id node e) ih)

get_front : (old more : List TNode) (k : ℕ) → k < length old → slice_get (old ++ more) k ≡ slice_get old k
get_front [] more k h = absurd (omega arith)
get_front (x ∷ old) more zero h = refl
get_front (x ∷ old) more (suc k) h = get_front old more k (omega arith)

-- a node's condition is made of those of its parts
pub at_node : NodesSayTheirParts
at_node nodes id node p e =
    rw e (node_same id node (tree nodes id) (tree_at nodes) (p.behind id node e) (λ k h. deeper nodes p id (suc k) k h (omega arith)))

tree_kept : (old more : List TNode) → IsPool kids_of old → (n id : ℕ) → id < length old → tree (old ++ more) n id ≡ tree old n id
tree_kept old more p zero id h = refl
tree_kept old more p (suc n) id h = go (λ k l. tree_kept old more p n k (omega arith)) (slice_get old id) refl
  where
    go : ((k : ℕ) → k < id → tree (old ++ more) n k ≡ tree old n k) → (o : Option TNode) → slice_get old id ≡ o
        → node_tree (slice_get (old ++ more) id) (tree (old ++ more) n) ≡ node_tree (slice_get old id) (tree old n)
    go ih None e = rw (get_front old more id h, e)
    go ih (Some node) e = rw (get_front old more id h, e) (node_same id node (tree (old ++ more) n) (tree old n) (p.behind id node e) ih)

-- conditions stay as the pool grows
pub tree_extends : TreesStay
tree_extends old new id p x h = subst (λ ns. tree_at ns id ≡ tree_at old id) (sym x.is) (tree_kept old x.more p (suc id) id h)

there : (nodes : List TNode) (i : ℕ) → i < length nodes → (node : TNode) × (slice_get nodes i ≡ Some node)
there [] i h = absurd (omega arith)
there (x ∷ nodes) zero h = (x, refl)
there (x ∷ nodes) (suc i) h = there nodes i (omega arith)

id_is : (a b : NodeId) → (a.0 ≡ b.0) → a ≡ b
id_is a b e = ap (λ k. record { 0 = k }) e

-- nodes with equal conditions are equal, if parts with equal conditions have one number
same_node : (f : ℕ → Condition) (n m : ℕ) (x y : TNode) → are_below n (kids_of x) ≡ true → are_below m (kids_of y) ≡ true
    → ((k l : ℕ) → k < n → l < m → f k ≡ f l → k ≡ l) → node_tree (Some x) f ≡ node_tree (Some y) f → x ≡ y
same_node f n m N.True N.True a b h e = refl
same_node f n m N.False N.False a b h e = refl
same_node f n m (N.Plain x) (N.Plain y) a b h e = let i : x ≡ y = cc in ap N.Plain i
same_node f n m (N.All l r) (N.All l' r') a b h e =
    let u : f l.0 ≡ f l'.0 = cc in
    let v : f r.0 ≡ f r'.0 = cc in
    let i = id_is l l' (h l.0 l'.0 (first_below l.0 n _ a) (first_below l'.0 m _ b) u) in
    let j = id_is r r' (h r.0 r'.0 (second_below l.0 r.0 n _ a) (second_below l'.0 r'.0 m _ b) v) in
    cc
same_node f n m (N.Either l r) (N.Either l' r') a b h e =
    let u : f l.0 ≡ f l'.0 = cc in
    let v : f r.0 ≡ f r'.0 = cc in
    let i = id_is l l' (h l.0 l'.0 (first_below l.0 n _ a) (first_below l'.0 m _ b) u) in
    let j = id_is r r' (h r.0 r'.0 (second_below l.0 r.0 n _ a) (second_below l'.0 r'.0 m _ b) v) in
    cc
same_node f n m (N.Not x) (N.Not y) a b h e =
    let u : f x.0 ≡ f y.0 = cc in
    ap N.Not (id_is x y (h x.0 y.0 (first_below x.0 n _ a) (first_below y.0 m _ b) u))
same_node f n m (N.Exists v t x) (N.Exists w s y) a b h e =
    let u : f x.0 ≡ f y.0 = cc in
    let i : v ≡ w = cc in
    let j : t ≡ s = cc in
    let k = id_is x y (h x.0 y.0 (first_below x.0 n _ a) (first_below y.0 m _ b) u) in
    cc
same_node f n m _ _ a b h e = absurd cc

one_number : (nodes : List TNode) → IsPool kids_of nodes → (n i j : ℕ) → i < n → i < length nodes → j < length nodes
    → tree_at nodes i ≡ tree_at nodes j → i ≡ j
one_number nodes p zero i j a b c e = absurd (omega arith)
one_number nodes p (suc n) i j a b c e =
    let x = there nodes i b in
    let y = there nodes j c in
    let same = same_node (tree_at nodes) i j x.0 y.0 (p.behind i x.0 x.1) (p.behind j y.0 y.1)
    (λ k l u v q. one_number nodes p n k l (omega arith) (omega arith) (omega arith) q)
    (sym (at_node nodes i x.0 p x.1) ∙ e ∙ at_node nodes j y.0 p y.1) in
    p.once i j y.0 (subst (λ node. slice_get nodes i ≡ Some node) same x.1) y.1

-- two numbers of a pool are equal if and only if their conditions are
pub equal_trees : EqualTreesHaveOneNumber
equal_trees nodes i j p a b = ((λ e. ap (tree_at nodes) e), one_number nodes p (suc i) i j (omega arith) a b)

-- the conditions of a pool are unchanged when it has grown
pub keeps_trees : (old new : List TNode) → IsPool kids_of old → Extends old new → KeepsTrees old new
keeps_trees old new p x id c t = record {
  within = longer t.within;
  is = tree_extends old new id p x t.within ∙ t.is;
} where
  longer : id < length old → id < length new
  longer h = subst (λ ns. id < length ns) (sym x.is) (omega (arith, length-append old x.more))

-- a new node's condition is made of those of its parts
pub node_added : (old new : List TNode) (id : ℕ) (node : TNode) → IsPool kids_of old → IsPool kids_of new → Extends old new
    → are_below (length old) (kids_of node) ≡ true → slice_get new id ≡ Some node → IsTreeAt new id (node_tree (Some node) (tree_at old))
node_added old new id node p q x b e = record {
  within = slice_get_within new id node e;
  is = at_node new id node q e ∙ node_same (length old) node (tree_at new) (tree_at old) b (λ k h. tree_extends old new k p x h);
}
