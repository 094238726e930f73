-- The hits of a probe are just the marks that it finds.
use Rattle.std.proofs.Common.{◌≡◌, ℕ, ◌≤◌, ℤ, Bool, true, not, List, [], ◌∷◌, ◌++◌, Option, Some, None, length, refl, sym, ap, ◌∙◌}
use Rattle.std.proofs.Common.{subst, inl, inr, arith}
use Rattle.std.specs.Prelude.{◌⊎◌, int_le, option_to_list}
use Rattle.std.specs.List.{filter}
use Rattle.std.proofs.lemmas.Bool.{cases_Bool, and_from, false≢true}
use Rattle.row_index.proofs.ListWindows.{mapped_length}
use Rattle.tap_rows.specs.declared.tables.Tables.{Tables}
use Rattle.tap_rows.specs.declared.results.Hit.{Hit}
use Rattle.tap_rows.specs.declared.results.Entry.{Entry}
use Rattle.tql_core.specs.declared.term.Var.{Var}
use Rattle.tql_core.specs.declared.term.Base.{Base}
use Rattle.tql_core.specs.declared.term.Base.TheVariants as B
use Rattle.tql_core.specs.declared.term.Term.{Term}
use Rattle.tql_core.specs.Bounds.{is_bounded}
use Rattle.tql_core.specs.Row.{Row, arrival, rows_of}
use Rattle.tql_core.specs.Scope.{BaseIn}
use Rattle.tap_rows.specs.Kept.{In}
use Rattle.tap_rows.proofs.Tests.{some_same}
use Rattle.tql_core.specs.Values.{Env, bind, lookup, value}
use Rattle.tql_core.proofs.Bound.{bind_same}
use Rattle.time_marks.specs.declared.mark.Step.{Step}
use Rattle.time_marks.specs.declared.window.Window.{Window}
use Rattle.time_marks.specs.Windows.{is_within}
use Rattle.time_marks.specs.Seeks.{seek_of, lies_in}
use Rattle.time_marks.specs.Probes.{Probe, finds, come_by}
use Rattle.time_marks.specs.Found.{vars_of, base_vars, Distinct, IsProbe, Finds}
use Rattle.time_marks.proofs.Lists.{in_map, map_in, in_right, append_in}
use Rattle.time_marks.proofs.Envs.{value_same}
use Rattle.time_marks.proofs.Orders.{finds_rows, rows_find}
use Rattle.access_plan.specs.declared.reach.Reach.{Reach}
use Rattle.access_plan.specs.Accesses.{is_held}
use Rattle.access_plan.specs.Orders.{driven}
use Rattle.access_plan.specs.Laws.{AreSame, order_vars, numbers_of, IsOrder}
use Rattle.probe_eval.specs.Nested.{hits_over}
use Rattle.probe_eval.specs.Rests.{is_left, left_of, InTables}
use Rattle.probe_eval.specs.Drivers.{seek_var, mark_in, marked_hits, hits_at, seek_hits, driving}
use Rattle.probe_eval.specs.Tables.{table_in}
use Rattle.probe_eval.proofs.Members.{in_filter, from_flat, to_flat, no_more}
use Rattle.probe_eval.proofs.DriverLaws.{driven_are, are_driven}
use Rattle.probe_eval.proofs.OpenLaws.{held_was, row_held}
use Rattle.probe_eval.proofs.Tables.{table_is}
use Rattle.probe_eval.proofs.Nesting.{IsFoundBy, HasDriver, base_own, hits_sound, hits_complete, found_rows}

-- a mark in the window
mark_parts : (w : Window) (o : Option ℤ) (b : ℤ) → mark_in w o ≡ Some b → (o ≡ Some b) × (is_within w b ≡ true)
mark_parts w None b e = absurd cc
mark_parts w (Some x) b e = elim (cases_Bool (is_within w x)) [
  | inl c ↦ let q : x ≡ b = some_same (rw c at e) in (ap Some q, subst (λ z. is_within w z ≡ true) q c)
  | inr c ↦ absurd (none (rw c at e))
]
  where
    none : None ≡ Some b → ⊥
    none e = cc

to_mark : (w : Window) (o : Option ℤ) (b : ℤ) → o ≡ Some b → is_within w b ≡ true → mark_in w o ≡ Some b
to_mark w o b e h = ap (mark_in w) e ∙ rw h refl

marked_parts : (entries : List Entry) (T : Tables) (w : Window) (p : Probe) (order : List Reach) (env : Env) (h : Hit)
    → In h (hits_at entries T w p order env)
    → (b : ℤ) × (value p.at env ≡ Some b) × (is_within w b ≡ true) × In h (hits_over entries T p b order env)
marked_parts entries T w p order env h i = go (mark_in w (value p.at env)) refl i
  where
    go : (o : Option ℤ) → mark_in w (value p.at env) ≡ o → In h (marked_hits entries T w p order env o)
        → (b : ℤ) × (value p.at env ≡ Some b) × (is_within w b ≡ true) × In h (hits_over entries T p b order env)
    go None e i = absurd i
    go (Some b) e i = let k = mark_parts w (value p.at env) b e in (b, k.0, k.1, i)

-- the base names the driver alone
pub base_driven : (base : Base) → BaseIn (numbers_of (driven base)) base
base_driven (B.Arrival v) = inl refl
base_driven (B.Date v) = inl refl
base_driven B.Fixed = tt
base_driven (B.ArrivalDay v n) = inl refl
base_driven (B.DateDay v n) = inl refl

pub driven_in : (base : Base) (scope : List ℕ) → BaseIn scope base → (k : ℕ) → In k (numbers_of (driven base)) → In k scope
driven_in (B.Arrival v) scope i k (inl e) = subst (λ z. In z scope) (sym e) i
driven_in (B.Arrival v) scope i k (inr j) = absurd j
driven_in (B.Date v) scope i k (inl e) = subst (λ z. In z scope) (sym e) i
driven_in (B.Date v) scope i k (inr j) = absurd j
driven_in B.Fixed scope i k j = absurd j
driven_in (B.ArrivalDay v n) scope i k (inl e) = subst (λ z. In z scope) (sym e) i
driven_in (B.ArrivalDay v n) scope i k (inr j) = absurd j
driven_in (B.DateDay v n) scope i k (inl e) = subst (λ z. In z scope) (sym e) i
driven_in (B.DateDay v n) scope i k (inr j) = absurd j

pub driven_is : (at : Term) → driven at.base ≡ option_to_list (seek_var (seek_of at))
driven_is at = go at.base at.plus
  where
    go : (base : Base) (plus : ℤ) → driven base ≡ option_to_list (seek_var (seek_of (record { base = base; plus = plus })))
    go (B.Arrival v) plus = refl
    go (B.Date v) plus = refl
    go B.Fixed plus = refl
    go (B.ArrivalDay v n) plus = refl
    go (B.DateDay v n) plus = refl

pub apart_left : (xs ys : List ℕ) → Distinct (xs ++ ys) → (k : ℕ) → In k xs → In k ys → ⊥
apart_left [] ys d k i j = i
apart_left (x ∷ xs) ys d k (inl e) j = d.0 (in_right xs ys x (subst (λ z. In z ys) e j))
apart_left (x ∷ xs) ys d k (inr i) j = apart_left xs ys d.1 k i j

pub vars_driven : (base : Base) → base_vars base ≡ numbers_of (driven base)
vars_driven (B.Arrival v) = refl
vars_driven (B.Date v) = refl
vars_driven B.Fixed = refl
vars_driven (B.ArrivalDay v n) = refl
vars_driven (B.DateDay v n) = refl

-- some of distinct variables are distinct
few_distinct : (q : Step → Bool) (path : List Step) → Distinct (vars_of path) → Distinct (vars_of (filter q path))
few_distinct q [] d = tt
few_distinct q (s ∷ path) d = elim (cases_Bool (q s)) [
  | inl e ↦ rw e ((λ i. d.0 (back i)), few_distinct q path d.1)
  | inr e ↦ rw e (few_distinct q path d.1)
]
  where
    back : In s.var.0 (vars_of (filter q path)) → In s.var.0 (vars_of path)
    back i =
        let k = map_in (λ (x : Step). x.var.0) (filter q path) s.var.0 i in
        subst (λ z. In z (vars_of path)) (sym k.2) (in_map (λ (x : Step). x.var.0) path k.0 (in_filter q path k.0 k.1).0)

module _ (entries : List Entry) (T : Tables) (w : Window) (p : Probe) (order : List Reach) (k : IsProbe p)
    (o : IsOrder p.path p.at.base order) where
  -- after the driver no more steps are left than the order has
  order_left : (env : Env) → HasDriver p env → left_of p.path env ≤ length order
  order_left env dr =
      let l = no_more (vars_of (filter (is_left env) p.path)) (order_vars order) (few_distinct (is_left env) p.path k.once) ordered in
      let a = mapped_length (λ (s : Step). s.var.0) (filter (is_left env) p.path) in
      let c = mapped_length (λ (r : Reach). r.var.0) order in
      sums _ _ _ _ l a c
    where
      sums : (vs os left rs : ℕ) → vs ≤ os → vs ≡ left → os ≡ rs → left ≤ rs
      sums vs os left rs l a c = omega (arith, l, a, c)

      ordered : (j : ℕ) → In j (vars_of (filter (is_left env) p.path)) → In j (order_vars order)
      ordered j i =
          let s = map_in (λ (x : Step). x.var.0) (filter (is_left env) p.path) j i in
          let f = in_filter (is_left env) p.path s.0 s.1 in
          subst (λ z. In z (order_vars order)) (sym s.2)
          (go s.0 f.1 (append_in (numbers_of (driven p.at.base)) (order_vars order) s.0.var.0 (o.steps s.0 f.0)))
        where
          go : (step : Step) → is_left env step ≡ true → In step.var.0 (numbers_of (driven p.at.base)) ⊎ In step.var.0 (order_vars order)
              → In step.var.0 (order_vars order)
          go step h (inr z) = z
          go step h (inl z) = absurd (false≢true (sym (ap not (dr step.var.0 (subst (In step.var.0) (sym (vars_driven p.at.base)) z))) ∙ h))

  -- each hit beside driving rows is found by the probe
  beside_sound : (env : Env) → InTables T p.path env → HasDriver p env → (h : Hit) → In h (hits_at entries T w p order env)
      → IsFoundBy entries p T w h
  beside_sound env t dr h i =
      let mk = marked_parts entries T w p order env h i in
      let x = hits_sound entries T p mk.0 k order env h t dr mk.1 mk.3 in
      record {
        doc = x.doc;
        is_row = x.is_row;
        unseen = x.unseen;
        num = x.num;
        at = subst (λ z. finds T x.doc z p ≡ true) (sym x.first) (rows_find T x.doc mk.0 p k x.finds);
        within = subst (λ z. is_within w z ≡ true) (sym x.first) mk.2;
      }

  -- each mark that the probe finds is a hit beside the driving rows with which it is found
  module _ (h : Hit) (g : IsFoundBy entries p T w h) where
    f : Finds T g.doc h.first p
    f = finds_rows T g.doc h.first p k g.at

    beside_complete : (env : Env) → AreSame (is_held env) env f.env → HasDriver p env → come_by h.first env ≡ true
        → In h (hits_at entries T w p order env)
    beside_complete env same dr come =
        let v : value p.at env ≡ Some h.first =
        sym (value_same (base_vars p.at.base) env f.env (λ j i. same j (dr j i)) p.at (base_own p.at.base)) ∙ f.at in
        let i = hits_complete entries T p h.first k g.doc f g.is_row order env h g.unseen g.num refl same come (order_left env dr) dr in
        subst (λ z. In h (marked_hits entries T w p order env z)) (sym (to_mark w (value p.at env) h.first v g.within)) i

  module _ (bounded : is_bounded p.at ≡ true) where
    no_driver : seek_var (seek_of p.at) ≡ None → HasDriver p []
    no_driver e j z =
        absurd (subst (λ vs. In j (numbers_of vs)) (driven_is p.at ∙ ap option_to_list e) (subst (In j) (vars_driven p.at.base) z))

    one_driver : (v : Var) (row : Row) → seek_var (seek_of p.at) ≡ Some v → HasDriver p (bind v row [])
    one_driver v row e j z =
        go (subst (λ vs. In j (numbers_of vs)) (driven_is p.at ∙ ap option_to_list e) (subst (In j) (vars_driven p.at.base) z))
      where
        go : In j (v.0 ∷ []) → is_held (bind v row []) j ≡ true
        go (inl q) = ap (is_held (bind v row [])) q ∙ row_held (bind v row []) v.0 row (bind_same v row [])
        go (inr y) = absurd y

    none_held : (j : ℕ) → is_held [] j ≡ true → ⊥
    none_held j h = false≢true h

    pub seek_sound : (sv : Option Var) → seek_var (seek_of p.at) ≡ sv → (h : Hit) → In h (seek_hits entries T w p order (seek_of p.at) sv)
        → IsFoundBy entries p T w h
    seek_sound None e h i = beside_sound [] (λ j z y. absurd (none_held j y)) (no_driver e) h i
    seek_sound (Some v) e h i =
        let x = from_flat (λ row. hits_at entries T w p order (bind v row [])) (driving T w p (seek_of p.at) v) h i in
        let r = driven_are T w p v bounded e x.0 x.1 in
        beside_sound (bind v x.0 []) (bound x.0 r.0) (one_driver v x.0 e) h x.2
      where
        bound : (row : Row) → In row (rows_of (table_in p.path v.0) T) → InTables T p.path (bind v row [])
        bound row t j z y = go (held_was [] v row j y)
          where
            go : (j ≡ v.0) ⊎ (is_held [] j ≡ true) → (r : Row) × In r (rows_of (table_in p.path j) T) × (lookup j (bind v row []) ≡ Some r)
            go (inl q) = (
              row,
              subst (λ y. In row (rows_of (table_in p.path y) T)) (sym q) t,
              ap (λ y. lookup y (bind v row [])) q
                  ∙ bind_same v row [],
            )
            go (inr y) = absurd (none_held j y)

    pub seek_complete : (sv : Option Var) → seek_var (seek_of p.at) ≡ sv → (h : Hit) → IsFoundBy entries p T w h
        → In h (seek_hits entries T w p order (seek_of p.at) sv)
    seek_complete None e h g = beside_complete h g [] (λ j y. absurd (none_held j y)) (no_driver e) refl
    seek_complete (Some v) e h g = go (found_row v driver)
      where
        driver : In v.0 (vars_of p.path)
        driver = driven_in p.at.base (vars_of p.path)
            k.at v.0 (subst (λ vs. In v.0 (numbers_of vs)) (sym (driven_is p.at ∙ ap option_to_list e)) (inl refl))

        found_row : (v : Var) → In v.0 (vars_of p.path) → (row : Row) × In row (rows_of (table_in p.path v.0) T)
            × (lookup v.0 (f h g).env ≡ Some row) × (int_le (arrival row) h.first ≡ true)
        found_row v i =
            let s = map_in (λ (x : Step). x.var.0) p.path v.0 i in
            let x = found_rows entries T p h.first k g.doc (f h g) g.is_row s.0 s.1 in (
              x.0,
              subst (λ z. In x.0 (rows_of z T)) (sym (table_is p.path s.0 k.once s.1) ∙ ap (table_in p.path) (sym s.2)) x.1,
              ap (λ z. lookup z (f h g).env) s.2 ∙ x.2,
              x.3,
            )

        go : (row : Row) × In row (rows_of (table_in p.path v.0) T) × (lookup v.0 (f h g).env ≡ Some row)
            × (int_le (arrival row) h.first ≡ true) → In h (seek_hits entries T w p order (seek_of p.at) (Some v))
        go x =
            let same : AreSame (is_held (bind v x.0 [])) (bind v x.0 []) (f h g).env = agree x.0 x.2 in
            let dr = one_driver v x.0 e in
            let val : value p.at (bind v x.0 []) ≡ Some h.first =
            sym (value_same (base_vars p.at.base) (bind v x.0 []) (f h g).env (λ j i. same j (dr j i)) p.at (base_own p.at.base))
            ∙ (f h g).at in
            to_flat (λ row. hits_at entries T w p order (bind v row [])) (driving T w p (seek_of p.at) v) x.0 h
            (are_driven T w p v bounded e x.0 x.1 (ap (lies_in w) val ∙ g.within))
            (beside_complete h g (bind v x.0 []) same dr (and_from _ _ x.3 refl))
          where
            agree : (row : Row) → lookup v.0 (f h g).env ≡ Some row → AreSame (is_held (bind v row [])) (bind v row []) (f h g).env
            agree row l j y = elim (held_was [] v row j y) [
              | inl q ↦ ap (λ z. lookup z (f h g).env) q ∙ l ∙ sym (bind_same v row []) ∙ ap (λ z. lookup z (bind v row [])) (sym q)
              | inr n ↦ absurd (none_held j n)
            ]
