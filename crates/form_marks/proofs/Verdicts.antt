-- What folding knows of a condition's body it knows of the body of its form.
use Rattle.std.proofs.Common.{◌≡◌, Bool, true, false, refl, sym, ap, ◌∙◌}
use Rattle.std.specs.Prelude.{◌&&◌, nat_le, if◌then◌else◌}
use Rattle.tap_base.specs.declared.numbers.Op.TheVariants.{Le}
use Rattle.tql_tree.specs.declared.table.Table.{Table}
use Rattle.tql_core.specs.declared.term.Var.{Var}
use Rattle.tql_core.specs.declared.term.Term.{Term}
use Rattle.tql_core.specs.declared.atom.Atom.TheVariants.{Times}
use Rattle.tql_core.specs.Condition.{Condition, Always, Never, Plain, NowAtLeast, NowBefore, All, Either, Not, Exists}
use Rattle.time_marks.specs.Marks.{arrival_term, body}
use Rattle.monotone_rewrite.specs.Folding.{KnownTruth, Yes, No, Open, known, fold}
use Rattle.query_form.specs.declared.place.Place.{Place}
use Rattle.query_form.specs.declared.place.Place.TheVariants.{Before, Inside, After}
use Rattle.query_form.specs.Form.{has_key, may_split, conjoined, place_of, same_place, only_if, conjuncts, beside, narrowed, cross_right}
use Rattle.query_form.specs.Form.{cross, distributed, exists_each, split, formed, node_count, form_of}
use Rattle.delta_rewrite.proofs.KnownBodies as bodies
use Rattle.delta_rewrite.proofs.KnownBodies.{kall, keither, kexists, knot, all_no}

all_yes : (k : KnownTruth) → kall k Yes ≡ k
all_yes Yes = refl
all_yes No = refl
all_yes Open = refl

swapped : (a b : KnownTruth) → kall a b ≡ kall b a
swapped No b = sym (all_no b)
swapped Yes b = sym (all_yes b)
swapped Open No = refl
swapped Open Yes = refl
swapped Open Open = refl

grouped : (a b c : KnownTruth) → kall (kall a b) c ≡ kall a (kall b c)
grouped No b c = refl
grouped Yes b c = refl
grouped Open No c = refl
grouped Open Yes c = refl
grouped Open Open No = refl
grouped Open Open Yes = refl
grouped Open Open Open = refl

crossed : (a b c d : KnownTruth) → kall (kall a b) (kall c d) ≡ kall (kall a c) (kall b d)
crossed a b c d =
    grouped a b (kall c d)
    ∙ ap (kall a) (sym (grouped b c d) ∙ ap (λ k. kall k d) (swapped b c) ∙ grouped c b d)
    ∙ sym (grouped a c (kall b d))

shuffled : (a b c d e f : KnownTruth) → kall (kall a b) (kall (kall c d) (kall e f)) ≡ kall (kall a (kall c e)) (kall b (kall d f))
shuffled a b c d e f = ap (kall (kall a b)) (crossed c d e f) ∙ crossed a b (kall c e) (kall d f)

over_right : (l a b : KnownTruth) → keither (kall l a) (kall l b) ≡ kall l (keither a b)
over_right No a b = refl
over_right Yes a b = refl
over_right Open Yes Yes = refl
over_right Open Yes No = refl
over_right Open Yes Open = refl
over_right Open No Yes = refl
over_right Open No No = refl
over_right Open No Open = refl
over_right Open Open Yes = refl
over_right Open Open No = refl
over_right Open Open Open = refl

over_left : (a b r : KnownTruth) → keither (kall a r) (kall b r) ≡ kall (keither a b) r
over_left a b r = ap (λ k. keither k (kall b r)) (swapped a r) ∙ ap (keither (kall r a)) (swapped b r) ∙ over_right r a b
    ∙ swapped r (keither a b)

exists_either : (a b : KnownTruth) → keither (kexists a) (kexists b) ≡ kexists (keither a b)
exists_either Yes Yes = refl
exists_either Yes No = refl
exists_either Yes Open = refl
exists_either No b = refl
exists_either Open Yes = refl
exists_either Open No = refl
exists_either Open Open = refl

exists_all : (b x : KnownTruth) → kexists (kall b x) ≡ kall b (kexists x)
exists_all No x = refl
exists_all Yes x = refl
exists_all Open Yes = refl
exists_all Open No = refl
exists_all Open Open = refl

-- what doesn't change from row to row may be known outside
pulled : (a b x h : KnownTruth) → kexists (kall a (kall b (kall x h))) ≡ kall b (kall (kexists (kall a x)) h)
pulled a b x h =
    ap kexists (sym (grouped a b (kall x h)) ∙ ap (λ k. kall k (kall x h)) (swapped a b) ∙ grouped b a (kall x h))
    ∙ exists_all b (kall a (kall x h))
    ∙ ap (kall b) (ap kexists (sym (grouped a x h) ∙ swapped (kall a x) h) ∙ exists_all h (kall a x) ∙ swapped h (kexists (kall a x)))

module _ (at : Term) where
  -- what is known of a condition's body
  abbrev kn : Condition → KnownTruth
  kn c = bodies.kn at (body c at)

  -- what is known of a row's arrival
  abbrev come : Var → KnownTruth
  come v = bodies.kn at (Plain (Times (arrival_term v) Le at))

  all_kn : (l r : Condition) → kn (All l r) ≡ kall (kn l) (kn r)
  all_kn l r = bodies.all_kn at (body l at) (body r at)

  either_kn : (l r : Condition) → kn (Either l r) ≡ keither (kn l) (kn r)
  either_kn l r = bodies.either_kn at (body l at) (body r at)

  not_kn : (x : Condition) → kn (Not x) ≡ knot (kn x)
  not_kn x = bodies.not_kn at (body x at)

  exists_kn : (v : Var) (t : Table) (x : Condition) → kn (Exists v t x) ≡ kexists (kall (come v) (kn x))
  exists_kn v t x =
      bodies.exists_kn at v t (All (Plain (Times (arrival_term v) Le at)) (body x at))
      ∙ ap kexists (bodies.all_kn at (Plain (Times (arrival_term v) Le at)) (body x at))

  conjoined_kn : (l r : Condition) → kn (conjoined l r) ≡ kall (kn l) (kn r)
  conjoined_kn Always r = refl
  conjoined_kn l Always = sym (all_yes (kn l))
  conjoined_kn l r = all_kn l r

  chosen : (b : Bool) (x y : Condition) (k : KnownTruth) → kn x ≡ k → kn y ≡ k → kn (if b then x else y) ≡ k
  chosen true x y k e f = e
  chosen false x y k e f = f

  part_kn : (p : Place) (x : Condition) → kall (kn (only_if (same_place Before p) x))
      (kall (kn (only_if (same_place Inside p) x)) (kn (only_if (same_place After p) x))) ≡ kn x
  part_kn Before x = all_yes (kn x)
  part_kn Inside x = all_yes (kn x)
  part_kn After x = refl

  conjuncts_kn : (v : Var) (x : Condition) → kall (kn (conjuncts v Before x)) (kall (kn (conjuncts v Inside x)) (kn (conjuncts v After x)))
      ≡ kn x
  conjuncts_kn v (All l r) =
      rw (
        conjoined_kn (conjuncts v Before l) (conjuncts v Before r),
        conjoined_kn (conjuncts v Inside l) (conjuncts v Inside r),
        conjoined_kn (conjuncts v After l) (conjuncts v After r),
        all_kn l r,
      )
      (shuffled (kn (conjuncts v Before l)) (kn (conjuncts v Before r)) (kn (conjuncts v Inside l)) (kn (conjuncts v Inside r))
      (kn (conjuncts v After l)) (kn (conjuncts v After r))
      ∙ ap (λ k. kall k (kall (kn (conjuncts v Before r)) (kall (kn (conjuncts v Inside r)) (kn (conjuncts v After r))))) (conjuncts_kn v l)
      ∙ ap (kall (kn l)) (conjuncts_kn v r))
  conjuncts_kn v x = part_kn (place_of v x) x

  beside_kn : (v : Var) (t : Table) (x made : Condition) → kn made ≡ kn (Exists v t (conjuncts v Inside x)) → kn (beside v x made)
      ≡ kn (Exists v t x)
  beside_kn v t x made e =
      conjoined_kn (conjuncts v Before x) (conjoined made (conjuncts v After x))
      ∙ ap (kall (kn (conjuncts v Before x))) (conjoined_kn made (conjuncts v After x)
      ∙ ap (λ k. kall k (kn (conjuncts v After x))) (e ∙ exists_kn v t (conjuncts v Inside x)))
      ∙ sym (pulled (come v) (kn (conjuncts v Before x)) (kn (conjuncts v Inside x)) (kn (conjuncts v After x)))
      ∙ ap (λ k. kexists (kall (come v) k)) (conjuncts_kn v x)
      ∙ sym (exists_kn v t x)

  narrowed_kn : (v : Var) (t : Table) (x : Condition) → kn (narrowed v t x) ≡ kn (Exists v t x)
  narrowed_kn v t x = beside_kn v t x (Exists v t (conjuncts v Inside x)) refl

  cross_right_kn : (v : Var) (l r : Condition) → kn (cross_right v l r) ≡ kall (kn l) (kn r)
  cross_right_kn v l (Either a b) =
      chosen (has_key v a && has_key v b) (Either (cross_right v l a) (cross_right v l b)) (All l (Either a b))
      (kall (kn l) (kn (Either a b)))
      (either_kn (cross_right v l a) (cross_right v l b)
      ∙ rw (cross_right_kn v l a, cross_right_kn v l b, either_kn a b) (over_right (kn l) (kn a) (kn b))) (all_kn l (Either a b))
  cross_right_kn v l r = all_kn l r

  cross_kn : (v : Var) (l r : Condition) → kn (cross v l r) ≡ kall (kn l) (kn r)
  cross_kn v (Either a b) r =
      chosen (has_key v a && has_key v b) (Either (cross v a r) (cross v b r)) (cross_right v (Either a b) r)
      (kall (kn (Either a b)) (kn r))
      (either_kn (cross v a r) (cross v b r) ∙ rw (cross_kn v a r, cross_kn v b r, either_kn a b) (over_left (kn a) (kn b) (kn r)))
      (cross_right_kn v (Either a b) r)
  cross_kn v l r = cross_right_kn v l r

  distributed_kn : (v : Var) (x : Condition) → kn (distributed v x) ≡ kn x
  distributed_kn v (All l r) = cross_kn v (distributed v l) (distributed v r)
      ∙ rw (distributed_kn v l, distributed_kn v r) (sym (all_kn l r))
  distributed_kn v (Either l r) = either_kn (distributed v l) (distributed v r)
      ∙ rw (distributed_kn v l, distributed_kn v r) (sym (either_kn l r))
  distributed_kn v x = refl

  both_ways : (v : Var) (t : Table) (l r : Condition) → keither (kn (Exists v t l)) (kn (Exists v t r)) ≡ kn (Exists v t (Either l r))
  both_ways v t l r =
      ap (λ k. keither k (kn (Exists v t r))) (exists_kn v t l) ∙ ap (keither (kexists (kall (come v) (kn l)))) (exists_kn v t r)
      ∙ exists_either (kall (come v) (kn l)) (kall (come v) (kn r))
      ∙ ap kexists (over_right (come v) (kn l) (kn r) ∙ ap (kall (come v)) (sym (either_kn l r)))
      ∙ sym (exists_kn v t (Either l r))

  exists_each_kn : (v : Var) (t : Table) (x : Condition) → kn (exists_each v t x) ≡ kn (Exists v t x)
  exists_each_kn v t (Either l r) =
      chosen (has_key v l && has_key v r) (Either (exists_each v t l) (exists_each v t r)) (narrowed v t (Either l r))
      (kn (Exists v t (Either l r)))
      (either_kn (exists_each v t l) (exists_each v t r) ∙ ap (λ k. keither k (kn (exists_each v t r))) (exists_each_kn v t l)
      ∙ ap (keither (kn (Exists v t l))) (exists_each_kn v t r) ∙ both_ways v t l r)
      (narrowed_kn v t (Either l r))
  exists_each_kn v t x = narrowed_kn v t x

  within : (v : Var) (t : Table) (x y : Condition) → kn x ≡ kn y → kn (Exists v t x) ≡ kn (Exists v t y)
  within v t x y e = exists_kn v t x ∙ ap (λ k. kexists (kall (come v) k)) e ∙ sym (exists_kn v t y)

  split_kn : (v : Var) (t : Table) (x : Condition) → kn (split v t x) ≡ kn (Exists v t x)
  split_kn v t x =
      chosen (may_split v t x) (exists_each v t (distributed v x)) (Exists v t x) (kn (Exists v t x))
      (exists_each_kn v t (distributed v x) ∙ within v t (distributed v x) x (distributed_kn v x)) refl

  formed_kn : (c : Condition) → kn (formed c) ≡ kn c
  formed_kn Always = refl
  formed_kn Never = refl
  formed_kn (Plain a) = refl
  formed_kn (NowAtLeast e) = refl
  formed_kn (NowBefore e) = refl
  formed_kn (All l r) = all_kn (formed l) (formed r) ∙ rw (formed_kn l, formed_kn r) (sym (all_kn l r))
  formed_kn (Either l r) = either_kn (formed l) (formed r) ∙ rw (formed_kn l, formed_kn r) (sym (either_kn l r))
  formed_kn (Not x) = not_kn (formed x) ∙ ap knot (formed_kn x) ∙ sym (not_kn x)
  formed_kn (Exists v t x) = beside_kn v t (formed x) (split v t (conjuncts v Inside (formed x)))
      (split_kn v t (conjuncts v Inside (formed x))) ∙ within v t (formed x) x (formed_kn x)

  pub form_known : (c : Condition) → known (fold at (body (form_of c) at)) ≡ known (fold at (body c at))
  form_known c = chosen (nat_le (node_count (formed c)) 128) (formed c) c (kn c) (formed_kn c) refl
