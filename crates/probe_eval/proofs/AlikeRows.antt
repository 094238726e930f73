-- Rows of a variable that no guard names beside one without a row are alike: the rest of a path exists beside all of them or beside none.
use Rattle.std.proofs.Common.{◌≡◌, ◌∙◌, ℕ, ℤ, Bool, true, false, not, Option, Some, None, List, [], ◌∷◌, length, filter, refl, sym, ap}
use Rattle.std.proofs.Common.{subst, inl, inr, nat_eq, if◌then◌else◌}
use Rattle.std.specs.Prelude.{◌⊎◌, ◌&&◌, ◌||◌, is_some, unwrap_or, int_le, nat_le}
use Rattle.std.specs.List.{list_any, list_all, flat_map, find}
use Rattle.std.proofs.lemmas.Bool.{cases_Bool, and_parts, or_cases, false≢true, eq-eqb, or_right}
use Rattle.std.proofs.lemmas.Option.{none-some, cond_some}
use Rattle.tap_base.specs.declared.numbers.Op.TheVariants.{Eq}
use Rattle.tap_rows.specs.declared.tables.Tables.{Tables}
use Rattle.tap_rows.specs.Kept.{In}
use Rattle.tql_tree.specs.declared.table.Table.{Table}
use Rattle.tql_tree.specs.declared.table.Table.TheVariants.{Docs}
use Rattle.tql_core.specs.declared.term.Var.{Var}
use Rattle.tql_core.specs.declared.atom.NumField.TheVariants.{Id}
use Rattle.tql_core.specs.declared.atom.ListField.{ListField}
use Rattle.tql_core.specs.declared.atom.NumExpr.{NumExpr}
use Rattle.tql_core.specs.declared.atom.NumExpr.TheVariants.{Literal, Field}
use Rattle.tql_core.specs.declared.atom.TextExpr.{TextExpr}
use Rattle.tql_core.specs.declared.atom.TextExpr.TheVariants as X
use Rattle.tql_core.specs.declared.atom.Atom.{Atom}
use Rattle.tql_core.specs.declared.atom.Atom.TheVariants.{Numbers, Texts, Has}
use Rattle.tql_core.specs.Row.{Row, arrival, rows_of}
use Rattle.tql_core.specs.Values.{Env, bind, lookup, on_row, field, text_field, list_field, both, both_texts, has, true_atom}
use Rattle.tql_core.proofs.Bound.{bind_other}
use Rattle.time_marks.specs.declared.mark.Step.{Step}
use Rattle.time_marks.specs.Probes.{come_by}
use Rattle.time_marks.proofs.Lists.{any_in, any_same, all_in}
use Rattle.access_plan.specs.declared.access.Access.{Access}
use Rattle.access_plan.specs.declared.access.Access.TheVariants.{ByNumber, ByText, ByEntry, ByEach, Whole}
use Rattle.access_plan.specs.declared.reach.Reach.{Reach}
use Rattle.access_plan.specs.Accesses.{walked_list, is_walked_list, number_table, text_table, table_of, admits, is_other, is_held}
use Rattle.access_plan.specs.Accesses.{is_held_or, is_known_number, is_known_text, is_own, by_number, by_text, by_entry, by_each}
use Rattle.access_plan.specs.Accesses.{access_by, accesses_by}
use Rattle.access_plan.specs.Laws.{AreSame}
use Rattle.access_plan.specs.Nearest.{near, nearest, IsNearest}
use Rattle.access_plan.proofs.Admits.{one_of, own_var}
use Rattle.access_plan.proofs.Enough.{given_on}
use Rattle.access_plan.proofs.Nearests.{nearest_serves}
use Rattle.probe_eval.specs.Open.{number_known, text_known, atom_known, atom_held, may_hold, are_open, path_open, is_apart, are_apart}
use Rattle.probe_eval.specs.Open.{path_apart, may_go}
use Rattle.probe_eval.specs.Cuts.{is_cut, passes_cut}
use Rattle.probe_eval.specs.StepRows.{step_accesses, step_access, passes_open, passes_guards, passes_step, step_rows, next_rows}
use Rattle.probe_eval.specs.Work.{admits_by, rows_with_each, rows_by, all_rows_by, is_list, access_length, is_least, shortest}
use Rattle.probe_eval.specs.Laws.{RestsAreAlike}
use Rattle.probe_eval.specs.Rests.{all_or, rest_of}
use Rattle.probe_eval.proofs.Costs.{filter_same}
use Rattle.probe_eval.proofs.LeastLaws.{found_in}
use Rattle.probe_eval.proofs.NextRows.{nearest_held, held_alike}
use Rattle.probe_eval.proofs.OpenLaws.{held_more, number_is, text_is, atom_is}
use Rattle.probe_eval.proofs.RestSteps.{stopped, any_step}
use Rattle.probe_eval.proofs.StepLaws.{of_step}

-- is each variable of an access's other side among these?
abbrev access_known : (ℕ → Bool) → Access → Bool
access_known known (ByNumber f e) = number_known known e
access_known known (ByText f e) = text_known known e
access_known known (ByEntry l e) = text_known known e
access_known known (ByEach w l f) = known w.0
access_known known (Whole t) = true

-- a guard whose variables are among some names by an access that it gives these alone, and is of one of them
module _ (some known : ℕ → Bool) (u : Var) (t : Table) where
  abbrev Names : Access → Type 0
  Names access = (some u.0 ≡ true) × (access_known some access ≡ true)

  own_named : (w : Var) (by : Table) → is_own u t w by ≡ true → some w.0 ≡ true → some u.0 ≡ true
  own_named w by h i = subst (λ k. some k ≡ true) (own_var u t w by h) i

  number_names : (x y : NumExpr) (access : Access) → by_number known u t x y ≡ Some access → number_known some x ≡ true
      → number_known some y ≡ true → Names access
  number_names (Literal n) y access h i j = absurd (none-some access h)
  number_names (Field w f) y access h i j =
      let c = cond_some (is_own u t w (number_table f) && is_known_number known y) (ByNumber f y) access h in
      (own_named w (number_table f) (and_parts _ _ c.0).0 i, subst (λ z. access_known some z ≡ true) c.1 j)

  text_names : (x y : TextExpr) (access : Access) → by_text known u t x y ≡ Some access → text_known some x ≡ true
      → text_known some y ≡ true → Names access
  text_names (X.Literal n) y access h i j = absurd (none-some access h)
  text_names (X.Field w f) y access h i j =
      let c = cond_some (is_own u t w (text_table f) && is_known_text known y) (ByText f y) access h in
      (own_named w (text_table f) (and_parts _ _ c.0).0 i, subst (λ z. access_known some z ≡ true) c.1 j)

  entry_names : (w : Var) (l : ListField) (y : TextExpr) (access : Access) → by_entry known u t w l y ≡ Some access → some w.0 ≡ true
      → text_known some y ≡ true → Names access
  entry_names w l y access h i j =
      let c = cond_some (is_own u t w Docs && is_known_text known y) (ByEntry l y) access h in
      (own_named w Docs (and_parts _ _ c.0).0 i, subst (λ z. access_known some z ≡ true) c.1 j)

  each_names : (w : Var) (l : ListField) (y : TextExpr) (access : Access) → by_each known u t w l y ≡ Some access → some w.0 ≡ true
      → text_known some y ≡ true → Names access
  each_names w l (X.Literal n) access h i j = absurd (none-some access h)
  each_names w l (X.Field x f) access h i j =
      let c = cond_some ((is_own u t x (text_table f) && known w.0) && is_walked_list l) (ByEach w l f) access h in
      (own_named x (text_table f) (and_parts _ _ (and_parts _ _ c.0).0).0 j, subst (λ z. access_known some z ≡ true) c.1 i)

  guard_names : (a : Atom) (access : Access) → access_by known u t a ≡ Some access → atom_known some a ≡ true → Names access
  guard_names (Numbers x Eq y) access h k =
      let p = and_parts (number_known some x) (number_known some y) k in
      elim (one_of (by_number known u t x y) (by_number known u t y x) access h) [
        | inl i ↦ number_names x y access i p.0 p.1
        | inr i ↦ number_names y x access i p.1 p.0
      ]
  guard_names (Texts x Eq y) access h k =
      let p = and_parts (text_known some x) (text_known some y) k in
      elim (one_of (by_text known u t x y) (by_text known u t y x) access h) [
        | inl i ↦ text_names x y access i p.0 p.1
        | inr i ↦ text_names y x access i p.1 p.0
      ]
  guard_names (Has w l y) access h k =
      let p = and_parts (some w.0) (text_known some y) k in
      elim (one_of (by_entry known u t w l y) (by_each known u t w l y) access h) [
        | inl i ↦ entry_names w l y access i p.0 p.1
        | inr i ↦ each_names w l y access i p.0 p.1
      ]
  guard_names _ access h k = absurd (none-some access h)

-- an access gives the same rows beside environments that agree on the variables that it names
module _ (some : ℕ → Bool) (env final : Env) (h : AreSame some env final) (b : ℤ) where
  plain_same : (access : Access) → access_known some access ≡ true → (row : Row) → admits access final row ≡ admits access env row
  plain_same (ByNumber f e) k row = ap (both Eq (field f row)) (number_is some env final h e k)
  plain_same (ByText f e) k row = ap (both_texts Eq (text_field f row)) (text_is some env final h e k)
  plain_same (ByEntry l e) k row = ap (has (list_field l row)) (text_is some env final h e k)
  plain_same (ByEach w l f) k row = ap (λ o. has (on_row o (walked_list l)) (text_field f row)) (h w.0 k)
  plain_same (Whole t) k row = refl

  admits_same : (access : Access) → access_known some access ≡ true → (row : Row)
      → admits_by b access final row ≡ admits_by b access env row
  admits_same (Whole t) k row = refl
  admits_same access k row = plain_same access k row

  rows_same : (access : Access) → access_known some access ≡ true → (T : Tables) → rows_by b access final T ≡ rows_by b access env T
  rows_same (ByEach w l f) k T = ap (λ o. rows_with_each f T (unwrap_or (on_row o (walked_list l)) [])) (h w.0 k)
  rows_same access k T =
      filter_same (admits_by b access final) (admits_by b access env) (rows_of (table_of access) T) (admits_same access k)

  all_rows_same : (access : Access) → access_known some access ≡ true → (T : Tables) → all_rows_by access final T ≡ all_rows_by access env T
  all_rows_same (ByEach w l f) k T = ap (λ o. rows_with_each f T (unwrap_or (on_row o (walked_list l)) [])) (h w.0 k)
  all_rows_same access k T = filter_same (admits access final) (admits access env) (rows_of (table_of access) T) (plain_same access k)

  -- and a list that is as long
  length_same : (access : Access) → access_known some access ≡ true → (T : Tables)
      → access_length T final access ≡ access_length T env access
  length_same (ByNumber Id e) k T = refl
  length_same (Whole t) k T = refl
  length_same access k T = ap length (all_rows_same access k T)

all_same : {A : Type 0} (p q : A → Bool) (xs : List A) → ((x : A) → In x xs → p x ≡ q x) → list_all p xs ≡ list_all q xs
all_same p q [] h = refl
all_same p q (x ∷ xs) h = rw (h x (inl refl), all_same p q xs (λ y i. h y (inr i))) refl

find_same : {A : Type 0} (p q : A → Bool) (xs : List A) → ((x : A) → In x xs → p x ≡ q x) → find p xs ≡ find q xs
find_same p q [] h = refl
find_same p q (x ∷ xs) h = elim (cases_Bool (q x)) [
  | inl e ↦ rw (h x (inl refl), e) refl
  | inr e ↦ rw (h x (inl refl), e) (find_same p q xs (λ y i. h y (inr i)))
]

-- each guard names another variable, or known ones alone, and is true then on either side
abbrev AreSettled : (ℕ → Bool) → Var → List Step → Env → Env → Type 0
AreSettled known v path one two =
    (step : Step) → In step path → (a : Atom) → In a step.guards
    → (atom_known (is_other v) a ≡ true) ⊎ ((atom_known known a ≡ true) × (true_atom a one ≡ true) × (true_atom a two ≡ true))

module _ (T : Tables) (path : List Step) (b : ℤ) (v : Var) (known : ℕ → Bool) (one two : Env)
    (settled : AreSettled known v path one two) where
  -- they agree on all but v, and each has what the one or the other had initially
  record Alike (e f : Env) : Type 0 where
    held : is_held e ≡ is_held f
    more : (k : ℕ) → known k ≡ true → is_held e k ≡ true
    same : AreSame (is_other v) e f
    first : AreSame known one e
    second : AreSame known two f
    come : come_by b e ≡ come_by b f

  open_same : (e f : Env) → Alike e f → (step : Step) → In step path → (a : Atom) → In a step.guards → may_hold e a ≡ may_hold f a
  open_same e f x step i a j =
      elim (settled step i a j) [
        | inl n ↦ ap (λ h. not (atom_known h a) || true_atom a e) x.held
            ∙ ap (λ t. not (atom_held f a) || t) (sym (atom_is (is_other v) e f x.same a n))
        | inr m ↦ or_right (not (atom_held e a)) (true_atom a e) (atom_is known one e x.first a m.0 ∙ m.1)
            ∙ sym (or_right (not (atom_held f a)) (true_atom a f) (atom_is known two f x.second a m.0 ∙ m.2))
      ]

  go_same : (e f : Env) → Alike e f → may_go path b e ≡ may_go path b f
  go_same e f x =
      ap (λ c. c && path_open path e) x.come
      ∙ ap (λ o. come_by b f && o) (all_same (λ (step : Step). are_open e step.guards) (λ (step : Step). are_open f step.guards) path
      (λ step i. all_same (may_hold e) (may_hold f) step.guards (λ a j. open_same e f x step i a j)))

  held_by : (e f : Env) (u : Var) (row : Row) → is_held e ≡ is_held f → (k : ℕ) → is_held (bind u row e) k ≡ is_held (bind u row f) k
  held_by e f u row h k = go (nat_eq k u.0)
    where
      go : (c : Bool) → is_some (if c then Some row else lookup k e) ≡ is_some (if c then Some row else lookup k f)
      go true = refl
      go false = ap (λ z. z k) h

  held_both : (e f : Env) (u : Var) (row : Row) → is_held e ≡ is_held f → is_held (bind u row e) ≡ is_held (bind u row f)
  held_both e f u row h t k = held_by e f u row h k t

  same_by : (e f : Env) (u : Var) (row : Row) (k : ℕ) → lookup k f ≡ lookup k e → lookup k (bind u row f) ≡ lookup k (bind u row e)
  same_by e f u row k h = go (nat_eq k u.0)
    where
      go : (c : Bool) → (if c then Some row else lookup k f) ≡ (if c then Some row else lookup k e)
      go true = refl
      go false = h

  bound : (e f : Env) → Alike e f → (u : Var) (row : Row) → is_held e u.0 ≡ false → Alike (bind u row e) (bind u row f)
  bound e f x u row fresh = record {
    held = held_both e f u row x.held;
    more = λ k h. held_more e u row k (x.more k h);
    same = λ k h. same_by e f u row k (x.same k h);
    first = λ k h. bind_other k u row e (other k h) ∙ x.first k h;
    second = λ k h. bind_other k u row f (other k h) ∙ x.second k h;
    come = ap (λ c. int_le (arrival row) b && c) x.come;
  }
    where
      other : (k : ℕ) → known k ≡ true → k ≡ u.0 → ⊥
      other k h q = false≢true (sym fresh ∙ ap (is_held e) (sym q) ∙ x.more k h)

  -- the nearest access doesn't name v
  reach_names : (e f : Env) → Alike e f → (r : Reach) → IsNearest path e r → access_known (is_other v) r.access ≡ true
  reach_names e f x r k = ap (access_known (is_other v)) k.access ∙ go (near path e k.step) refl
    where
      go : (o : Option Access) → near path e k.step ≡ o → access_known (is_other v) (unwrap_or o (Whole k.step.table)) ≡ true
      go None q = refl
      go (Some access) q =
          let s = given_on (is_held e) k.step.var k.step.table path access q in
          let g = s.2 in
          elim (settled s.0 s.1 g.guard g.is_guard) [
            | inl n ↦ (guard_names (is_other v) (is_held e) k.step.var k.step.table g.guard access g.gives n).1
            | inr m ↦ absurd (false≢true (sym k.fresh
                ∙ x.more k.step.var.0 (guard_names known (is_held e) k.step.var k.step.table g.guard access g.gives m.0).0))
          ]

  -- nor do those that guards give to a variable without a row
  own_names : (e f : Env) → Alike e f → (u : Var) (t : Table) → is_held e u.0 ≡ false → (access : Access)
      → In access (step_accesses path e u t) → access_known (is_other v) access ≡ true
  own_names e f x u t fresh access i =
      let s = of_step path e u t access i in
      elim (settled s.step s.is_step s.given.guard s.given.is_guard) [
        | inl n ↦ (guard_names (is_other v) (is_held e) u t s.given.guard access s.given.gives n).1
        | inr m ↦ absurd
            (false≢true (sym fresh ∙ x.more u.0 (guard_names known (is_held e) u t s.given.guard access s.given.gives m.0).0))
      ]

  -- so the shortest of them is the same
  shortest_same : (e f : Env) → Alike e f → (u : Var) (t : Table) → is_held e u.0 ≡ false
      → shortest T e (step_accesses path e u t) ≡ shortest T f (step_accesses path f u t)
  shortest_same e f x u t fresh =
      find_same (is_least T e (step_accesses path e u t)) (is_least T f (step_accesses path e u t)) (step_accesses path e u t) least
      ∙ ap (λ h. shortest T f (flat_map (λ (step : Step). accesses_by h u t step.guards) path)) x.held
    where
      long : (a : Access) → In a (step_accesses path e u t) → access_length T e a ≡ access_length T f a
      long a i = sym (length_same (is_other v) e f x.same b a (own_names e f x u t fresh a i) T)

      least : (a : Access) → In a (step_accesses path e u t)
          → is_least T e (step_accesses path e u t) a ≡ is_least T f (step_accesses path e u t) a
      least a i =
          all_same (λ o. nat_le (access_length T e a) (access_length T e o)) (λ o. nat_le (access_length T f a) (access_length T f o))
          (step_accesses path e u t)
          (λ o j. ap (nat_le (access_length T e a)) (long o j) ∙ ap (λ n. nat_le n (access_length T f o)) (long a i))

  access_names : (e f : Env) → Alike e f → (r : Reach) → IsNearest path e r → is_held e r.var.0 ≡ false
      → access_known (is_other v) (step_access T path e r) ≡ true
  access_names e f x r k fresh = go (shortest T e (step_accesses path e r.var r.table)) refl
    where
      go : (o : Option Access) → shortest T e (step_accesses path e r.var r.table) ≡ o
          → access_known (is_other v) (unwrap_or o r.access) ≡ true
      go None q = reach_names e f x r k
      go (Some a) q = own_names e f x r.var r.table fresh a
          (found_in (is_least T e (step_accesses path e r.var r.table)) (step_accesses path e r.var r.table) a q)

  -- the same rows pass
  one_same : (e f : Env) → Alike e f → (u : Var) → is_held e u.0 ≡ false → (row : Row) (step : Step) → In step path → (a : Atom)
      → In a step.guards → passes_open u e a row ≡ passes_open u f a row
  one_same e f x u fresh row step i a j =
      let y = bound e f x u row fresh in
      elim (settled step i a j) [
        | inl n ↦
            ap (λ h. not (atom_known (λ k. nat_eq k u.0 || h k) a) || passes_cut u e a row) x.held
            ∙ ap (λ t. not (atom_known (is_held_or f u) a) || (not (is_cut u a) || t))
            (sym (atom_is (is_other v) (bind u row e) (bind u row f) y.same a n))
        | inr m ↦
            or_right (not (atom_known (is_held_or e u) a)) (passes_cut u e a row)
            (or_right (not (is_cut u a)) (true_atom a (bind u row e)) (atom_is known one (bind u row e) y.first a m.0 ∙ m.1))
            ∙ sym (or_right (not (atom_known (is_held_or f u) a)) (passes_cut u f a row)
            (or_right (not (is_cut u a)) (true_atom a (bind u row f)) (atom_is known two (bind u row f) y.second a m.0 ∙ m.2)))
      ]

  pass_same : (e f : Env) → Alike e f → (u : Var) → is_held e u.0 ≡ false → (row : Row)
      → passes_step u b e path row ≡ passes_step u b f path row
  pass_same e f x u fresh row =
      ap (λ c. int_le (arrival row) b && c)
      (all_same (λ (step : Step). passes_guards u e step.guards row) (λ (step : Step). passes_guards u f step.guards row) path
      (λ step i. all_same (λ a. passes_open u e a row) (λ a. passes_open u f a row) step.guards (λ a j.
      one_same e f x u fresh row step i a j)))

  walked_same : (e f : Env) → Alike e f → (u : Var) → is_held e u.0 ≡ false → (a : Access) → access_known (is_other v) a ≡ true
      → step_rows a u b e path T ≡ step_rows a u b f path T
  walked_same e f x u fresh a k = go (is_list a)
    where
      go : (c : Bool) → (if c then filter (passes_step u b e path) (all_rows_by a e T) else rows_by b a e T)
          ≡ (if c then filter (passes_step u b f path) (all_rows_by a f T) else rows_by b a f T)
      go true =
          filter_same (passes_step u b e path) (passes_step u b f path) (all_rows_by a e T) (pass_same e f x u fresh)
          ∙ ap (filter (passes_step u b f path)) (sym (all_rows_same (is_other v) e f x.same b a k T))
      go false = sym (rows_same (is_other v) e f x.same b a k T)

  next_same : (e f : Env) → Alike e f → (r : Reach) → IsNearest path e r → is_held e r.var.0 ≡ false
      → next_rows T path b e r ≡ next_rows T path b f r
  next_same e f x r k fresh =
      walked_same e f x r.var fresh (step_access T path e r) (access_names e f x r k fresh)
      ∙ ap (λ o. step_rows (unwrap_or o r.access) r.var b f path T) (shortest_same e f x r.var r.table fresh)

  abbrev beside : List Reach → Env → Reach → Bool
  beside rs d r = list_any (λ row. rest_of T path b rs (bind r.var row d)) (next_rows T path b d r)

  rest_same : (order : List Reach) (e f : Env) → Alike e f → rest_of T path b order e ≡ rest_of T path b order f
  rest_same [] e f x =
      ap (λ m. m && all_or (nearest path e) (λ r. false)) (go_same e f x)
      ∙ ap (λ o. may_go path b f && all_or o (λ r. false)) (nearest_held path e f x.held)
  rest_same (y ∷ rs) e f x =
      ap (λ m. m && all_or (nearest path e) (beside rs e)) (go_same e f x)
      ∙ ap (λ z. may_go path b f && z) (go (λ d c a. rest_same rs d c a) (nearest path e) refl)
    where
      go : ((d c : Env) → Alike d c → rest_of T path b rs d ≡ rest_of T path b rs c) → (o : Option Reach) → nearest path e ≡ o
          → all_or (nearest path e) (beside rs e) ≡ all_or (nearest path f) (beside rs f)
      go each None q = ap (λ o. all_or o (beside rs e)) q ∙ sym (ap (λ o. all_or o (beside rs f)) (sym (nearest_held path e f x.held) ∙ q))
      go each (Some r) q =
          let k = nearest_serves path e r q in
          let fresh : is_held e r.var.0 ≡ false = ap (λ (w : Var). is_held e w.0) k.var ∙ k.fresh in
          ap (λ o. all_or o (beside rs e)) q
          ∙ (any_same _ _ (next_rows T path b e r) (λ row. each (bind r.var row e) (bind r.var row f) (bound e f x r.var row fresh))
          ∙ ap (list_any (λ row. rest_of T path b rs (bind r.var row f))) (next_same e f x r k fresh))
          ∙ sym (ap (λ o. all_or o (beside rs f)) (sym (nearest_held path e f x.held) ∙ q))

module _ (T : Tables) (path : List Step) (b : ℤ) (env : Env) (v : Var) (apart : path_apart path env v ≡ true) where
  held_at : (row : Row) (k : ℕ) → is_held_or env v k ≡ is_held (bind v row env) k
  held_at row k = go (nat_eq k v.0)
    where
      go : (c : Bool) → (c || is_held env k) ≡ is_some (if c then Some row else lookup k env)
      go true = refl
      go false = refl

  held_is : (row : Row) → is_held_or env v ≡ is_held (bind v row env)
  held_is row t k = held_at row k t

  -- a guard that can be evaluated is true beside a row that may go on
  is_true : (row : Row) (step : Step) (a : Atom) → In step path → In a step.guards → atom_known (is_held_or env v) a ≡ true
      → path_open path (bind v row env) ≡ true → true_atom a (bind v row env) ≡ true
  is_true row step a i j m o =
      let y : atom_held (bind v row env) a ≡ true = subst (λ h. atom_known h a ≡ true) (held_is row) m in
      let p : may_hold (bind v row env) a ≡ true = all_in (may_hold (bind v row env)) step.guards a
      (all_in (λ (step : Step). are_open (bind v row env) step.guards) path step o i) j in
      rw y at p

  -- beside rows that may go on the rest exists or not alike
  pub rest_alike : (order : List Reach) (row other : Row) → may_go path b (bind v row env) ≡ true → may_go path b (bind v other env) ≡ true
      → rest_of T path b order (bind v row env) ≡ rest_of T path b order (bind v other env)
  rest_alike order row other g h =
      let p = and_parts (come_by b (bind v row env)) (path_open path (bind v row env)) g in
      let q = and_parts (come_by b (bind v other env)) (path_open path (bind v other env)) h in
      rest_same T path b v (is_held (bind v row env)) (bind v row env) (bind v other env) (settled p.1 q.1) order (bind v row env)
      (bind v other env) (record {
        held = held_alike v row other env;
        more = λ k i. i;
        same = λ k i. bind_other k v other env (apart_from k i) ∙ sym (bind_other k v row env (apart_from k i));
        first = λ k i. refl;
        second = λ k i. refl;
        come = p.0 ∙ sym q.0;
      })
    where
      apart_from : (k : ℕ) → is_other v k ≡ true → k ≡ v.0 → ⊥
      apart_from k i q = false≢true (sym (ap not (eq-eqb v.0 k (sym q))) ∙ i)

      settled : path_open path (bind v row env) ≡ true → path_open path (bind v other env) ≡ true
          → AreSettled (is_held (bind v row env)) v path (bind v row env) (bind v other env)
      settled o u step i a j =
          let n : is_apart env v a ≡ true =
          all_in (is_apart env v) step.guards a (all_in (λ (step : Step). are_apart env v step.guards) path step apart i) j in
          elim (or_cases (atom_known (is_other v) a) (atom_known (is_held_or env v) a) n) [
            | inl y ↦ inl y
            | inr m ↦ inr (subst (λ h. atom_known h a ≡ true) (held_is row) m, is_true row step a i j m o, is_true other step a i j m u)
          ]

  -- if there is none beside one that may go on, there is none beside any
  pub none_beside : (order : List Reach) (row other : Row) → may_go path b (bind v row env) ≡ true
      → rest_of T path b order (bind v row env) ≡ false → rest_of T path b order (bind v other env) ≡ false
  none_beside order row other g h =
      elim (cases_Bool (may_go path b (bind v other env))) [
        | inl e ↦ sym (rest_alike order row other g e) ∙ h
        | inr n ↦ sym (stopped T path b order (bind v other env) n)
      ]

  -- a walk may stop there
  pub none_left : (order : List Reach) (whole : Bool) (rows left : List Row) (r : Row)
      → whole ≡ list_any (λ row. rest_of T path b order (bind v row env)) rows → rows ≡ r ∷ left
      → may_go path b (bind v r env) ≡ true → rest_of T path b order (bind v r env) ≡ false → false ≡ whole
  none_left order whole rows left r h e g d =
      sym (any_step (λ row. rest_of T path b order (bind v row env)) whole rows left r h e d ∙ none left)
    where
      none : (xs : List Row) → list_any (λ row. rest_of T path b order (bind v row env)) xs ≡ false
      none [] = refl
      none (x ∷ xs) = rw (none_beside order r x g d, none xs) refl

  -- if there is one beside some row, there is one beside each that may go on
  pub each_beside : (order : List Reach) (rows : List Row) → list_any (λ row. rest_of T path b order (bind v row env)) rows ≡ true
      → (other : Row) → may_go path b (bind v other env) ≡ true → rest_of T path b order (bind v other env) ≡ true
  each_beside order rows h other g =
      let y = any_in (λ row. rest_of T path b order (bind v row env)) rows h in
      sym (rest_alike order y.0 other (goes y.0 y.2) g) ∙ y.2
    where
      goes : (row : Row) → rest_of T path b order (bind v row env) ≡ true → may_go path b (bind v row env) ≡ true
      goes row i = elim (cases_Bool (may_go path b (bind v row env))) [
        | inl e ↦ e
        | inr n ↦ absurd (false≢true (stopped T path b order (bind v row env) n ∙ i))
      ]

pub rests_are_alike : RestsAreAlike
rests_are_alike T path b order env v row other apart g h = rest_alike T path b env v apart order row other g h
