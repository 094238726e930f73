-- What is due costs no more than the marked rows, if nothing else is looked at.
use Rattle.std.proofs.Common.{◌≡◌, ◌∙◌, ℕ, suc, ◌+◌, ◌≤◌, Bool, true, false, List, [], ◌∷◌, map, Option, Some, None, length, refl, sym, ap}
use Rattle.std.proofs.Common.{subst, inl, inr, arith}
use Rattle.std.specs.Prelude.{◌⊎◌, filter, option_to_list, if◌then◌else◌}
use Rattle.std.proofs.lemmas.Bool.{cases_Bool}
use Rattle.tap_rows.specs.declared.tables.Tables.{Tables}
use Rattle.tap_rows.specs.declared.results.Entry.{Entry}
use Rattle.tap_rows.specs.Kept.{In}
use Rattle.tql_core.specs.declared.term.Var.{Var}
use Rattle.tql_core.specs.declared.term.Base.{Base}
use Rattle.tql_core.specs.declared.term.Base.TheVariants as B
use Rattle.tql_core.specs.declared.term.Term.{Term}
use Rattle.tql_core.specs.Condition.{Condition, Always, Never, Plain, NowAtLeast, NowBefore, All, Either, Not, Exists}
use Rattle.tql_core.specs.Holds.{asked_of}
use Rattle.tql_core.specs.Row.{OfDoc, rows_of}
use Rattle.tql_core.specs.Values.{Env, bind, value}
use Rattle.time_marks.specs.declared.window.Window.{Window}
use Rattle.time_marks.specs.declared.ranged_query.RangedQuery.{RangedQuery}
use Rattle.time_marks.specs.Marks.{document_var}
use Rattle.time_marks.specs.Probes.{Probe}
use Rattle.time_marks.specs.Found.{vars_of, IsProbe}
use Rattle.time_marks.specs.Seeks.{seek_of, lies_in}
use Rattle.time_marks.specs.Views.{ranged_probes, probe_in}
use Rattle.access_plan.specs.Orders.{driven}
use Rattle.access_plan.specs.Laws.{numbers_of}
use Rattle.probe_eval.specs.Drivers.{seek_var}
use Rattle.probe_eval.specs.Runs.{query_cost, rows_due, HasValidProbes}
use Rattle.probe_eval.specs.Tables.{table_in}
use Rattle.probe_eval.specs.Work.{total, work}
use Rattle.probe_eval.proofs.Finding.{driven_is, driven_in}
use Rattle.probe_eval.proofs.Nesting.{asked_table}
use Rattle.probe_eval.proofs.QueryCosts.{query_due}
use Rattle.wake_plan.specs.Marked.{marked, marked_by, marked_ahead, HasNoExists, IsPlain}

no_work : (T : Tables) (x : Condition) (env : Env) → HasNoExists x → work T x env ≡ 0
no_work T Always env h = refl
no_work T Never env h = refl
no_work T (Plain a) env h = refl
no_work T (NowAtLeast e) env h = refl
no_work T (NowBefore e) env h = refl
no_work T (All l r) env h = let a = no_work T l env h.0 in let b = no_work T r env h.1 in omega (arith, a, b)
no_work T (Either l r) env h = let a = no_work T l env h.0 in let b = no_work T r env h.1 in omega (arith, a, b)
no_work T (Not x) env h = no_work T x env h
no_work T (Exists v t x) env h = absurd h

module _ {A : Type 0} where
  total_ones : (f : A → ℕ) (xs : List A) → ((x : A) → f x ≡ 0) → total (λ x. 1 + f x) xs ≡ length xs
  total_ones f [] h = refl
  total_ones f (x ∷ xs) h =
      let a = h x in
      let b = total_ones f xs h in
      go (f x) (total (λ x. 1 + f x) xs) (length xs) a b
    where
      go : (a b n : ℕ) → a ≡ 0 → b ≡ n → 1 + a + b ≡ suc n
      go a b n p q = omega (arith, p, q)

  filter_length : (p q : A → Bool) (xs : List A) → ((x : A) → p x ≡ q x) → length (filter p xs) ≡ length (filter q xs)
  filter_length p q [] h = refl
  filter_length p q (x ∷ xs) h =
      let e = h x in
      elim (cases_Bool (q x)) [
        | inl k ↦ rw (e, k) (ap suc (filter_length p q xs h))
        | inr k ↦ rw (e, k) (filter_length p q xs h)
      ]

  filter_each : (b : Bool) (xs : List A) → length (filter (λ x. b) xs) ≡ (if b then length xs else 0)
  filter_each true [] = refl
  filter_each true (x ∷ xs) = ap suc (filter_each true xs)
  filter_each false [] = refl
  filter_each false (x ∷ xs) = filter_each false xs

map_length : {A B : Type 0} (q : B → Bool) (f : A → B) (xs : List A) → length (filter q (map f xs)) ≡ length (filter (λ x. q (f x)) xs)
map_length q f [] = refl
map_length q f (x ∷ xs) =
    elim (cases_Bool (q (f x))) [
      | inl e ↦ rw e (ap suc (map_length q f xs))
      | inr e ↦ rw e (map_length q f xs)
    ]

-- a fixed mark is the same beside all rows
fixed_value : (at : Term) (env : Env) → seek_var (seek_of at) ≡ None → value at env ≡ value at []
fixed_value at env e = go at.base e
  where
    none : {v : Var} → Some v ≡ None → ⊥
    none e = cc

    go : (base : Base) → seek_var (seek_of (record { base = base; plus = at.plus })) ≡ None
        → value (record { base = base; plus = at.plus }) env ≡ value (record { base = base; plus = at.plus }) []
    go (B.Arrival v) e = absurd (none e)
    go (B.Date v) e = absurd (none e)
    go B.Fixed e = refl
    go (B.ArrivalDay v n) e = absurd (none e)
    go (B.DateDay v n) e = absurd (none e)

module _ (T : Tables) (u : Window) (p : Probe) (k : IsProbe p) (plain : IsPlain p) where
  due_length : rows_due T u p ≡ length (filter (λ d. lies_in u (value p.at (asked_of d))) T.docs)
  due_length = total_ones (λ d. work T p.body (asked_of d)) (filter (λ d. lies_in u (value p.at (asked_of d))) T.docs) (λ d.
      no_work T p.body (asked_of d) plain.1)

  only_var : (j : ℕ) → In j (vars_of p.path) → j ≡ plain.0.0.var.0
  only_var j i = only (subst (λ z. In j (vars_of z)) plain.0.1 i)
    where
      only : (j ≡ plain.0.0.var.0) ⊎ ⊥ → j ≡ plain.0.0.var.0
      only (inl e) = e
      only (inr i) = absurd i

  zero_var : In 0 (vars_of p.path)
  zero_var = subst (λ z. In 0 (vars_of z)) (sym k.asked.2) (inl refl)

  v_is : (v : Var) → seek_var (seek_of p.at) ≡ Some v → v ≡ document_var
  v_is v e =
      let i : In v.0 (numbers_of (driven p.at.base)) =
      subst (λ vs. In v.0 (numbers_of vs)) (sym (driven_is p.at ∙ ap option_to_list e)) (inl refl) in
      let q : v.0 ≡ 0 = only_var v.0 (driven_in p.at.base (vars_of p.path) k.at v.0 i) ∙ sym (only_var 0 zero_var) in
      ap (λ n. record { 0 = n }) q

  marked_is : (o : Option Var) → seek_var (seek_of p.at) ≡ o
      → length (filter (λ d. lies_in u (value p.at (asked_of d))) T.docs) ≡ marked_by T u p o
  marked_is None e =
      filter_length (λ d. lies_in u (value p.at (asked_of d))) (λ d. lies_in u (value p.at [])) T.docs (λ d.
      ap (lies_in u) (fixed_value p.at (asked_of d) e))
      ∙ filter_each (lies_in u (value p.at [])) T.docs
  marked_is (Some v) e =
      sym (ap (λ (z : Var). length (filter (λ row. lies_in u (value p.at (bind z row []))) (rows_of (table_in p.path z.0) T))) (v_is v e)
      ∙ ap (λ t. length (filter (λ row. lies_in u (value p.at (bind document_var row []))) (rows_of t T))) (asked_table p k)
      ∙ map_length (λ row. lies_in u (value p.at (bind document_var row []))) OfDoc T.docs)

  pub due_marked : rows_due T u p ≡ marked T u p
  due_marked = due_length ∙ marked_is (seek_var (seek_of p.at)) refl

module _ {A : Type 0} where
  length_map : {B : Type 0} (f : B → A) (xs : List B) → length (map f xs) ≡ length xs
  length_map f [] = refl
  length_map f (x ∷ xs) = ap suc (length_map f xs)

  total_more : (f g : A → ℕ) (xs : List A) → ((x : A) → In x xs → f x ≡ g x) → length xs + total f xs ≡ total (λ x. g x + 1) xs
  total_more f g [] h = refl
  total_more f g (x ∷ xs) h =
      let a = h x (inl refl) in
      let b = total_more f g xs (λ y i. h y (inr i)) in
      go (length xs) (f x) (g x) (total f xs) (total (λ x. g x + 1) xs) a b
    where
      go : (n a b s t : ℕ) → a ≡ b → n + s ≡ t → suc n + (a + s) ≡ b + 1 + t
      go n a b s t p q = omega (arith, p, q)

-- what a planner over such probes costs
pub plain_cost : (q : RangedQuery) → HasValidProbes q → (entries : List Entry) (T : Tables) (u : Window)
    → ((p : Probe) → In p (ranged_probes q) → IsPlain p) → length q.parts + query_cost entries T u q ≤ marked_ahead T u (ranged_probes q)
plain_cost q ps entries T u plain =
    let a = query_due q ps entries T u (λ p i. (plain p i).0) in
    let b = total_more (rows_due T u) (marked T u) (ranged_probes q) (λ p i. due_marked T u p (ps p i) (plain p i)) in
    let c = length_map (λ part. probe_in q.pool part.probe) q.parts in
    omega (arith, a, b, c)
