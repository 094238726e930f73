-- The documents that guards leave of a list in order.
use Rattle.std.proofs.Common.{◌≡◌, ◌∙◌, ℤ, pos, Bool, true, false, not, ◌&&◌, ◌||◌, Option, Some, None, List, [], ◌∷◌, ◌++◌, refl, sym, ap}
use Rattle.std.proofs.Common.{inl, inr, filter, drop, length, arith}
use Rattle.std.specs.Prelude.{◌+ℤ◌}
use Rattle.std.specs.List.{list_all}
use Rattle.std.proofs.lemmas.Int.{ints}
use Rattle.std.proofs.lemmas.Bool.{cases_Bool, and_parts, false≢true, eq-eqb}
use Rattle.tap_base.specs.declared.numbers.Op.{Op}
use Rattle.tap_base.specs.declared.numbers.Op.TheVariants.{Eq, Ne, Lt, Le, Gt, Ge}
use Rattle.tap_rows.specs.declared.rows.Doc.{Doc}
use Rattle.tap_rows.specs.Kept.{In}
use Rattle.tql_core.specs.declared.term.Var.{Var}
use Rattle.tql_core.specs.declared.term.Term.{Term}
use Rattle.tql_core.specs.declared.atom.NumField.TheVariants.{Id}
use Rattle.tql_core.specs.declared.atom.NumExpr.{NumExpr}
use Rattle.tql_core.specs.declared.atom.NumExpr.TheVariants.{Field}
use Rattle.tql_core.specs.declared.atom.Atom.{Atom}
use Rattle.tql_core.specs.declared.atom.Atom.TheVariants.{Numbers, Times, Texts, Has}
use Rattle.tql_core.specs.Condition.{Condition, All}
use Rattle.tql_core.specs.Exact.{term_is}
use Rattle.tql_core.specs.Row.{Row, OfDoc, arrival}
use Rattle.tql_core.specs.Values.{Env, bind, on_row, plus_to, field, value, number, compare, both, true_atom}
use Rattle.tql_core.proofs.Bound.{bind_same, bind_other}
use Rattle.time_marks.specs.Marks.{arrival_term, guards_of}
use Rattle.row_index.specs.declared.cut.Limit.{Limit}
use Rattle.row_index.specs.declared.cut.Limit.TheVariants.{Below, UpTo, From, Above}
use Rattle.row_index.specs.declared.cut.Order.{Order}
use Rattle.row_index.specs.declared.cut.Order.TheVariants.{Arrival, Number}
use Rattle.row_index.specs.declared.cut.ListCut.{ListCut}
use Rattle.row_index.specs.Cuts.{passes, keeps, rank}
use Rattle.row_index.specs.Orders.{IsRisingBy}
use Rattle.access_plan.specs.Accesses.{is_other}
use Rattle.access_plan.specs.Laws.{AreSame}
use Rattle.access_plan.proofs.Fields.{number_is as same_number}
use Rattle.probe_eval.specs.declared.cuts.CutTest.{CutTest}
use Rattle.probe_eval.specs.declared.cuts.CutTest.TheVariants as K
use Rattle.probe_eval.specs.Cuts.{passes_test, cut_limit, is_half, is_half_guard, turned_op, is_own_time, is_own_number, is_cut}
use Rattle.probe_eval.specs.Cuts.{passes_cut, passes_cuts}
use Rattle.probe_eval.specs.Open.{base_known, number_known}
use Rattle.probe_eval.specs.SingleLists.{IsSorted}
use Rattle.probe_eval.proofs.OpenLaws.{value_is, number_is}
use Rattle.probe_eval.proofs.Costs.{filter_same, filter_all, filter_both}

others_same : (v : Var) (row : Row) (env : Env) → AreSame (is_other v) env (bind v row env)
others_same v row env k h = bind_other k v row env (λ e. false≢true (sym (ap not (eq-eqb v.0 k (sym e))) ∙ h))

-- what passes a limit is what a comparison is true of
limit_passes : (op : Op) (limit : Limit) (x bound : ℤ) → cut_limit op ≡ Some limit → passes limit bound x ≡ compare op x bound
limit_passes Eq limit x bound e = absurd cc
limit_passes Ne limit x bound e = absurd cc
limit_passes Lt limit x bound e = ap (λ l. passes l bound x) (sym (same e))
  where
    same : Some Below ≡ Some limit → Below ≡ limit
    same e = cc
limit_passes Le limit x bound e = ap (λ l. passes l bound x) (sym (same e))
  where
    same : Some UpTo ≡ Some limit → UpTo ≡ limit
    same e = cc
limit_passes Gt limit x bound e = ap (λ l. passes l bound x) (sym (same e))
  where
    same : Some Above ≡ Some limit → Above ≡ limit
    same e = cc
limit_passes Ge limit x bound e = ap (λ l. passes l bound x) (sym (same e))
  where
    same : Some From ≡ Some limit → From ≡ limit
    same e = cc

limit_half : (op : Op) (limit : Limit) → cut_limit op ≡ Some limit → is_half op ≡ true
limit_half Eq limit e = absurd cc
limit_half Ne limit e = absurd cc
limit_half Lt limit e = refl
limit_half Le limit e = refl
limit_half Gt limit e = refl
limit_half Ge limit e = refl

no_limit : (op : Op) → cut_limit op ≡ None → is_half op ≡ false
no_limit Eq e = refl
no_limit Ne e = refl
no_limit Lt e = absurd cc
no_limit Le e = absurd cc
no_limit Gt e = absurd cc
no_limit Ge e = absurd cc

-- a comparison without a limit leaves all
pub all_kept : (op : Op) (x other : Option ℤ) → cut_limit op ≡ None → true ≡ (not (is_half op) || both op x other)
all_kept op x other e = rw (no_limit op e) refl

-- one with an absent side none
pub none_kept : (op : Op) (limit : Limit) (x : Option ℤ) → cut_limit op ≡ Some limit → false ≡ (not (is_half op) || both op x None)
none_kept op limit None e = rw (limit_half op limit e) refl
none_kept op limit (Some x) e = rw (limit_half op limit e) refl

-- one with a bound those that pass it
pub some_kept : (op : Op) (limit : Limit) (x bound : ℤ) (other : Option ℤ) → cut_limit op ≡ Some limit → other ≡ Some bound
    → passes limit bound x ≡ (not (is_half op) || both op (Some x) other)
some_kept op limit x bound other e o =
    limit_passes op limit x bound e ∙ sym (ap (λ b. not b || compare op x bound) (limit_half op limit e))
    ∙ ap (λ z. not (is_half op) || both op (Some x) z) (sym o)

-- the same with the sides exchanged
half_turned : (op : Op) → is_half (turned_op op) ≡ is_half op
half_turned Eq = refl
half_turned Ne = refl
half_turned Lt = refl
half_turned Le = refl
half_turned Gt = refl
half_turned Ge = refl

both_turned : (op : Op) (x y : Option ℤ) → is_half op ≡ true → both (turned_op op) x y ≡ both op y x
both_turned Eq x y h = absurd (false≢true h)
both_turned Ne x y h = absurd (false≢true h)
both_turned Lt None None h = refl
both_turned Lt None (Some y) h = refl
both_turned Lt (Some x) None h = refl
both_turned Lt (Some x) (Some y) h = refl
both_turned Le None None h = refl
both_turned Le None (Some y) h = refl
both_turned Le (Some x) None h = refl
both_turned Le (Some x) (Some y) h = refl
both_turned Gt None None h = refl
both_turned Gt None (Some y) h = refl
both_turned Gt (Some x) None h = refl
both_turned Gt (Some x) (Some y) h = refl
both_turned Ge None None h = refl
both_turned Ge None (Some y) h = refl
both_turned Ge (Some x) None h = refl
both_turned Ge (Some x) (Some y) h = refl

turned_kept : (op : Op) (x y : Option ℤ) → (not (is_half (turned_op op)) || both (turned_op op) x y) ≡ (not (is_half op) || both op y x)
turned_kept op x y = elim (cases_Bool (is_half op)) [
  | inl h ↦ ap (λ b. not b || both (turned_op op) x y) (half_turned op) ∙ rw h (both_turned op x y h)
  | inr h ↦ ap (λ b. not b || both (turned_op op) x y) (half_turned op) ∙ rw h refl
]

-- whether a guard cuts, by which of its sides is the row's
by_first : (half first second t : Bool) → first ≡ true → (not half || t) ≡ (not (half && (first || second)) || t)
by_first true first second t h = rw h refl
by_first false first second t h = refl

by_second : (half first second t : Bool) → second ≡ true → (not half || t) ≡ (not (half && (first || second)) || t)
by_second true true second t h = refl
by_second true false second t h = rw h refl
by_second false first second t h = refl

by_none : (half first second t : Bool) → first ≡ false → second ≡ false → true ≡ (not (half && (first || second)) || t)
by_none true first second t h k = rw (h, k) refl
by_none false first second t h k = refl

module _ (v : Var) (env : Env) (d : Doc) where
  plus_none : (x : ℤ) → x +ℤ pos 0 ≡ x
  plus_none x = omega (arith, ints)

  own_time : (e : Term) → is_own_time v e ≡ true → value e (bind v (OfDoc d) env) ≡ Some (rank Arrival d)
  own_time e h =
      ap (λ z. value z (bind v (OfDoc d) env)) (term_is e (arrival_term v) h)
      ∙ ap (λ o. plus_to (on_row o (λ r. Some (arrival r))) (pos 0)) (bind_same v (OfDoc d) env)
      ∙ ap Some (plus_none d.arrival)

  own_number : (e : NumExpr) → is_own_number v e ≡ true → number e (bind v (OfDoc d) env) ≡ Some (rank Number d)
  own_number e h =
      ap (λ z. number z (bind v (OfDoc d) env)) (same_number e (Field v Id) h)
      ∙ ap (λ o. on_row o (field Id)) (bind_same v (OfDoc d) env)

  time_beside : (e : Term) → base_known (is_other v) e.base ≡ true → value e (bind v (OfDoc d) env) ≡ value e env
  time_beside e h = value_is (is_other v) env (bind v (OfDoc d) env) (others_same v (OfDoc d) env) e h

  number_beside : (e : NumExpr) → number_known (is_other v) e ≡ true → number e (bind v (OfDoc d) env) ≡ number e env
  number_beside e h = number_is (is_other v) env (bind v (OfDoc d) env) (others_same v (OfDoc d) env) e h

  module _ (op : Op) where
    pub first_time : (x y : Term) (k : Bool) (other : Option ℤ) → (is_own_time v x && base_known (is_other v) y.base) ≡ true → other
        ≡ value y env → k ≡ (not (is_half op) || both op (Some (rank Arrival d)) other) → k ≡ passes_cut v env (Times x op y) (OfDoc d)
    first_time x y k other h w e =
        let p = and_parts (is_own_time v x) (base_known (is_other v) y.base) h in
        e ∙ ap (λ z. not (is_half op) || both op (Some (rank Arrival d)) z) w
        ∙ sym (ap (λ z. not (is_half op) || z) (ap (λ z. both op z (value y (bind v (OfDoc d) env))) (own_time x p.0)
        ∙ ap (both op (Some (rank Arrival d))) (time_beside y p.1)))
        ∙ by_first (is_half op) (is_own_time v x && base_known (is_other v) y.base) (is_own_time v y && base_known (is_other v) x.base)
        (true_atom (Times x op y) (bind v (OfDoc d) env)) h

    pub second_time : (x y : Term) (k : Bool) (other : Option ℤ) (turned : Op) → (is_own_time v y && base_known (is_other v) x.base) ≡ true
        → other ≡ value x env → turned ≡ turned_op op → k ≡ (not (is_half turned) || both turned (Some (rank Arrival d)) other)
        → k ≡ passes_cut v env (Times x op y) (OfDoc d)
    second_time x y k other turned h w q e =
        let p = and_parts (is_own_time v y) (base_known (is_other v) x.base) h in
        e ∙ ap (λ z. not (is_half z) || both z (Some (rank Arrival d)) other) q
        ∙ ap (λ z. not (is_half (turned_op op)) || both (turned_op op) (Some (rank Arrival d)) z) w
        ∙ turned_kept op (Some (rank Arrival d)) (value x env)
        ∙ sym (ap (λ z. not (is_half op) || z)
        (ap (λ z. both op z (value y (bind v (OfDoc d) env))) (time_beside x p.1) ∙ ap (both op (value x env)) (own_time y p.0)))
        ∙ by_second (is_half op) (is_own_time v x && base_known (is_other v) y.base) (is_own_time v y && base_known (is_other v) x.base)
        (true_atom (Times x op y) (bind v (OfDoc d) env)) h

    pub no_time : (x y : Term) → (is_own_time v x && base_known (is_other v) y.base) ≡ false
        → (is_own_time v y && base_known (is_other v) x.base) ≡ false → true ≡ passes_cut v env (Times x op y) (OfDoc d)
    no_time x y a b = by_none (is_half op) _ _ (true_atom (Times x op y) (bind v (OfDoc d) env)) a b

    pub first_number : (x y : NumExpr) (k : Bool) (other : Option ℤ) → (is_own_number v x && number_known (is_other v) y) ≡ true → other
        ≡ number y env → k ≡ (not (is_half op) || both op (Some (rank Number d)) other) → k ≡ passes_cut v env (Numbers x op y) (OfDoc d)
    first_number x y k other h w e =
        let p = and_parts (is_own_number v x) (number_known (is_other v) y) h in
        e ∙ ap (λ z. not (is_half op) || both op (Some (rank Number d)) z) w
        ∙ sym (ap (λ z. not (is_half op) || z) (ap (λ z. both op z (number y (bind v (OfDoc d) env))) (own_number x p.0)
        ∙ ap (both op (Some (rank Number d))) (number_beside y p.1)))
        ∙ by_first (is_half op) (is_own_number v x && number_known (is_other v) y) (is_own_number v y && number_known (is_other v) x)
        (true_atom (Numbers x op y) (bind v (OfDoc d) env)) h

    pub second_number : (x y : NumExpr) (k : Bool) (other : Option ℤ) (turned : Op)
        → (is_own_number v y && number_known (is_other v) x) ≡ true
        → other ≡ number x env → turned ≡ turned_op op → k ≡ (not (is_half turned) || both turned (Some (rank Number d)) other)
        → k ≡ passes_cut v env (Numbers x op y) (OfDoc d)
    second_number x y k other turned h w q e =
        let p = and_parts (is_own_number v y) (number_known (is_other v) x) h in
        e ∙ ap (λ z. not (is_half z) || both z (Some (rank Number d)) other) q
        ∙ ap (λ z. not (is_half (turned_op op)) || both (turned_op op) (Some (rank Number d)) z) w
        ∙ turned_kept op (Some (rank Number d)) (number x env)
        ∙ sym (ap (λ z. not (is_half op) || z) (ap (λ z. both op z (number y (bind v (OfDoc d) env))) (number_beside x p.1)
        ∙ ap (both op (number x env)) (own_number y p.0)))
        ∙ by_second (is_half op) (is_own_number v x && number_known (is_other v) y) (is_own_number v y && number_known (is_other v) x)
        (true_atom (Numbers x op y) (bind v (OfDoc d) env)) h

    pub no_number : (x y : NumExpr) → (is_own_number v x && number_known (is_other v) y) ≡ false
        → (is_own_number v y && number_known (is_other v) x) ≡ false → true ≡ passes_cut v env (Numbers x op y) (OfDoc d)
    no_number x y a b = by_none (is_half op) _ _ (true_atom (Numbers x op y) (bind v (OfDoc d) env)) a b

-- no other guard cuts a list
half_cuts : (v : Var) (a : Atom) → is_half_guard a ≡ false → is_cut v a ≡ false
half_cuts v (Times x op y) h = rw h refl
half_cuts v (Numbers x op y) h = rw h refl
half_cuts v (Texts x op y) h = refl
half_cuts v (Has w f y) h = refl

pub half_passes : (v : Var) (env : Env) (a : Atom) (row : Row) → is_half_guard a ≡ false → passes_cut v env a row ≡ true
half_passes v env a row h = ap (λ b. not b || true_atom a (bind v row env)) (half_cuts v a h)

pub none_by_half : (v : Var) (env : Env) (a : Atom) (docs : List Doc) → is_half_guard a ≡ false
    → docs ≡ filter (λ d. passes_cut v env a (OfDoc d)) docs
none_by_half v env a docs h =
    sym (filter_all (λ d. passes_cut v env a (OfDoc d)) docs (λ d i. half_passes v env a (OfDoc d) h))

-- a list of none is left as it is
pub none_of_none : {A : Type 0} (p : A → Bool) (xs : List A) → length xs ≡ 0 → xs ≡ filter p xs
none_of_none p [] e = refl
none_of_none p (x ∷ xs) e = absurd (omega (arith, e))

-- documents in order are in each order
pub sorted_by : (order : Order) (docs : List Doc) → IsSorted docs → IsRisingBy (rank order) docs
sorted_by Arrival docs s = s.arrivals
sorted_by Number docs s = s.numbers

pub none_left : {A : Type 0} (xs : List A) → drop (length xs) xs ≡ filter (λ x. false) xs
none_left [] = refl
none_left (x ∷ xs) = none_left xs

-- the documents that pass a test
pub kept_whole : (by : CutTest) (docs : List Doc) → by ≡ K.All → docs ≡ filter (passes_test by) docs
kept_whole by docs e = sym (ap (λ k. filter (passes_test k) docs) e ∙ filter_all (λ d. true) docs (λ d i. refl))

pub kept_cut : (by : CutTest) (cut : ListCut) (docs left : List Doc) → by ≡ K.By cut → left ≡ filter (keeps cut) docs
    → left ≡ filter (passes_test by) docs
kept_cut by cut docs left e h = h ∙ sym (ap (λ k. filter (passes_test k) docs) e)

pub kept_none : (by : CutTest) (docs left : List Doc) → by ≡ K.None → left ≡ drop (length docs) docs → left ≡ filter (passes_test by) docs
kept_none by docs left e h = h ∙ none_left docs ∙ sym (ap (λ k. filter (passes_test k) docs) e)

-- a list with the same test
pub kept_as : {A : Type 0} (p q : A → Bool) (xs ys : List A) → ((x : A) → p x ≡ q x) → ys ≡ filter p xs → ys ≡ filter q xs
kept_as p q xs ys h e = e ∙ filter_same p q xs h

all_append : {A : Type 0} (p : A → Bool) (xs ys : List A) → list_all p (xs ++ ys) ≡ (list_all p xs && list_all p ys)
all_append p [] ys = refl
all_append p (x ∷ xs) ys = ap (λ b. p x && b) (all_append p xs ys) ∙ three (p x) (list_all p xs) (list_all p ys)
  where
    three : (a b c : Bool) → (a && (b && c)) ≡ (a && b && c)
    three true b c = refl
    three false b c = refl

-- the guards of a conjunction leave what those of both parts leave
pub both_cut : (v : Var) (env : Env) (x l r : Condition) (docs some left : List Doc) → x ≡ All l r
    → some ≡ filter (λ d. passes_cuts v env (guards_of l) (OfDoc d)) docs
    → left ≡ filter (λ d. passes_cuts v env (guards_of r) (OfDoc d)) some
    → left ≡ filter (λ d. passes_cuts v env (guards_of x) (OfDoc d)) docs
both_cut v env x l r docs some left is s e =
    e ∙ ap (filter (λ d. passes_cuts v env (guards_of r) (OfDoc d))) s
    ∙ filter_both (λ d. passes_cuts v env (guards_of l) (OfDoc d)) (λ d. passes_cuts v env (guards_of r) (OfDoc d)) docs
    ∙ filter_same _ _ docs (λ d. sym (all_append (λ a. passes_cut v env a (OfDoc d)) (guards_of l) (guards_of r)))
    ∙ ap (λ c. filter (λ d. passes_cuts v env (guards_of c) (OfDoc d)) docs) (sym is)

pub one_cut : (v : Var) (env : Env) (x : Condition) (a : Atom) (docs left : List Doc) → guards_of x ≡ a ∷ []
    → left ≡ filter (λ d. passes_cut v env a (OfDoc d)) docs → left ≡ filter (λ d. passes_cuts v env (guards_of x) (OfDoc d)) docs
one_cut v env x a docs left is e =
    e ∙ filter_same _ _ docs (λ d. and_true (passes_cut v env a (OfDoc d)))
    ∙ ap (λ g. filter (λ d. passes_cuts v env g (OfDoc d)) docs) (sym is)
  where
    and_true : (b : Bool) → b ≡ (b && true)
    and_true true = refl
    and_true false = refl

pub none_cut : (v : Var) (env : Env) (x : Condition) (docs : List Doc) → guards_of x ≡ []
    → docs ≡ filter (λ d. passes_cuts v env (guards_of x) (OfDoc d)) docs
none_cut v env x docs is = sym (ap (λ g. filter (λ d. passes_cuts v env g (OfDoc d)) docs) is ∙ filter_all (λ d. true) docs (λ d i. refl))

-- guards that are true let a row pass
pub true_passes : (v : Var) (env : Env) (guards : List Atom) (row : Row) → ((a : Atom) → In a guards → true_atom a (bind v row env) ≡ true)
    → passes_cuts v env guards row ≡ true
true_passes v env [] row h = refl
true_passes v env (a ∷ guards) row h = both_true (passes_cut v env a row) (passes_cuts v env guards row)
    (or_second (not (is_cut v a)) (true_atom a (bind v row env)) (h a (inl refl))) (true_passes v env guards row (λ b i. h b (inr i)))
  where
    or_second : (a b : Bool) → b ≡ true → (a || b) ≡ true
    or_second true b h = refl
    or_second false b h = h

    both_true : (a b : Bool) → a ≡ true → b ≡ true → (a && b) ≡ true
    both_true a b h k = rw (h, k) refl
