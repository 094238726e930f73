-- Where each row is found by an index, the bound is linear in the rows that are due.
use Rattle.std.proofs.Common.{◌≡◌, ◌∙◌, ℕ, zero, suc, ◌+◌, ◌*◌, ◌≤◌, ℤ, Bool, true, false, Option, Some, None, List, [], ◌∷◌, length, refl}
use Rattle.std.proofs.Common.{sym, ap, subst, inl, inr, arith, if◌then◌else◌}
use Rattle.std.specs.Prelude.{◌⊎◌, ◌&&◌, nat_eq}
use Rattle.std.proofs.lemmas.Bool.{cases_Bool, false≢true}
use Rattle.tap_rows.specs.declared.rows.Doc.{Doc}
use Rattle.tap_rows.specs.declared.tables.Tables.{Tables}
use Rattle.tap_rows.specs.Kept.{In}
use Rattle.tql_core.specs.declared.term.Var.{Var}
use Rattle.tql_core.specs.Row.{Row, OfDoc, OfNote, rows_of}
use Rattle.tql_core.specs.Values.{Env, bind, lookup, value}
use Rattle.tql_core.proofs.Bound.{bind_same}
use Rattle.time_marks.specs.declared.mark.Step.{Step}
use Rattle.time_marks.specs.Found.{IsProbe}
use Rattle.time_marks.specs.Probes.{Probe}
use Rattle.time_marks.specs.Seeks.{seek_of}
use Rattle.time_marks.proofs.Depth.{higher_left, higher_right}
use Rattle.access_plan.specs.declared.reach.Reach.{Reach}
use Rattle.access_plan.specs.Accesses.{is_held}
use Rattle.access_plan.proofs.Nearests.{nearest_serves}
use Rattle.probe_eval.specs.Drivers.{walked, mark_in, marked_cost, cost_at}
use Rattle.probe_eval.specs.Linear.{HasShortAccesses, HasShortBody, rest_bound, once_bound, path_bound, ProbesByIndexAreLinear}
use Rattle.probe_eval.specs.Nested.{was_seen, has_more, cost_here, asked_cost, is_once, is_walked, once_cost, work_over}
use Rattle.probe_eval.specs.Open.{path_apart}
use Rattle.probe_eval.specs.Rests.{InTables, further, cost_of, decides, rest_of, rest_cost}
use Rattle.probe_eval.specs.Tables.{table_in}
use Rattle.probe_eval.specs.StepRows.{next_rows}
use Rattle.probe_eval.specs.Work.{total, until, work}
use Rattle.probe_eval.proofs.DriverLaws.{driven_are}
use Rattle.probe_eval.proofs.Nesting.{further_is}
use Rattle.probe_eval.proofs.OpenLaws.{held_same, held_more, held_was}
use Rattle.probe_eval.proofs.RestLaws.{walked_row, in_tables}
use Rattle.probe_eval.proofs.WalkedLaws.{walked_in}

le : (a b c : ℕ) → a ≤ b → b ≤ c → a ≤ c
le a b c h k = omega (arith, h, k)

plus_one : (a b : ℕ) → a ≤ b → 1 + a ≤ 1 + b
plus_one a b h = omega (arith, h)

no_less : (a b : ℕ) → a ≡ b → a ≤ b
no_less a b e = omega (arith, e)

times_less : (a b c : ℕ) → a ≤ b → a * c ≤ b * c
times_less zero b c h = omega arith
times_less (suc a) zero c h = absurd (omega (arith, h))
times_less (suc a) (suc b) c h = let k = times_less a b c (fewer h) in omega (arith, k)
  where
    fewer : suc a ≤ suc b → a ≤ b
    fewer h = omega (arith, h)

one_more : (f t l c : ℕ) → f ≤ c → t ≤ l * c → f + t ≤ suc l * c
one_more f t l c h k = omega (arith, h, k)

module _ {A : Type 0} where
  -- a sum of numbers that are at most c
  total_times : (f : A → ℕ) (c : ℕ) (xs : List A) → ((x : A) → In x xs → f x ≤ c) → total f xs ≤ length xs * c
  total_times f c [] h = omega arith
  total_times f c (x ∷ xs) h = one_more (f x) (total f xs) (length xs) c (h x (inl refl)) (total_times f c xs (λ y i. h y (inr i)))

  until_less : (f : A → Bool) (xs : List A) → length (until f xs) ≤ length xs
  until_less f [] = omega arith
  until_less f (x ∷ xs) = let k = until_less f xs in elim (cases_Bool (f x)) [
    | inl e ↦ rw e (omega arith)
    | inr e ↦ rw e (omega (arith, k))
  ]

  in_until : (f : A → Bool) (xs : List A) (y : A) → In y (until f xs) → In y xs
  in_until f [] y i = absurd i
  in_until f (x ∷ xs) y (inl e) = inl e
  in_until f (x ∷ xs) y (inr i) = inr (go (f x) refl i (λ j. in_until f xs y j))
    where
      go : (c : Bool) → f x ≡ c → In y (if c then [] else until f xs) → (In y (until f xs) → In y xs) → In y xs
      go true e i more = absurd i
      go false e i more = more i

-- two parts that may be left out
parts_less : (c d : Bool) (x y X Y : ℕ) → x ≤ X → y ≤ Y → (if c then 0 else x) + (if d then y else 0) ≤ X + Y
parts_less true true x y X Y h k = omega (arith, h, k)
parts_less true false x y X Y h k = omega (arith, h, k)
parts_less false true x y X Y h k = omega (arith, h, k)
parts_less false false x y X Y h k = omega (arith, h, k)

passed_less : (c : Bool) (a m : ℕ) → a ≤ m → (if c then 0 else a) ≤ m
passed_less true a m h = omega arith
passed_less false a m h = h

none_more : (a m : ℕ) → a ≤ 0 + m → a ≤ m
none_more a m h = omega (arith, h)

sum_less : (d : Bool) (a y A Y : ℕ) → a ≤ A → y ≤ Y → a + (if d then y else 0) ≤ A + Y
sum_less true a y A Y h k = omega (arith, h, k)
sum_less false a y A Y h k = omega (arith, h, k)

if_less : (c : Bool) (a m : ℕ) → a ≤ m → (if c then a else 0) ≤ m
if_less true a m h = h
if_less false a m h = omega arith

-- the search before a level, which isn't made if no rows are left below it
once_less : (n : ℕ) (rs : List Reach) (c d : Bool) (a : ℕ) → a ≤ rest_bound n (suc (length rs))
    → (if (has_more rs && c) && d then a else 0) ≤ once_bound n (length rs)
once_less n [] c d a h = omega arith
once_less n (r ∷ rs) c d a h = if_less (c && d) a _ h

module _ (passed : Doc → Bool) (T : Tables) (p : Probe) (v : Var) (n m : ℕ) (k : IsProbe p) (short : HasShortAccesses T p.path v n)
    (body : HasShortBody T p m) (b : ℤ) where
  -- the rows of a next step
  next_less : (env : Env) (r : Reach) (f : Row → ℕ) (c : ℕ) (rows : List Row) → InTables T p.path env → is_held env v.0 ≡ true
      → further p.path b env ≡ Some r → length rows ≤ length (next_rows T p.path b env r)
      → ((row : Row) → In row rows → In row (next_rows T p.path b env r))
      → ((row : Row) → InTables T p.path (bind r.var row env) → is_held (bind r.var row env) v.0 ≡ true → f row ≤ c)
      → total (λ row. 1 + f row) rows ≤ n * (1 + c)
  next_less env r f c rows t h e few same each =
      let near = (further_is p.path b env r e).1 in
      let serves = nearest_serves p.path env r near in
      let s = total_times (λ row. 1 + f row) (1 + c) rows (λ row i. plus_one (f row) c
      (each row (in_tables T p.path b k.once env r row t (walked_row T p.path b k.once env r row serves (same row i)))
      (held_more env r.var row v.0 h))) in
      le _ _ _ s (times_less (length rows) n (1 + c) (le _ _ _ few (short b env r t h near)))

  rest_less : (order : List Reach) (env : Env) → InTables T p.path env → is_held env v.0 ≡ true
      → rest_cost T p.path b order env ≤ rest_bound n (length order)
  rest_less [] env t h = omega arith
  rest_less (x ∷ rs) env t h = go (λ e. rest_less rs e) (further p.path b env) refl
    where
      go : ((e : Env) → InTables T p.path e → is_held e v.0 ≡ true → rest_cost T p.path b rs e ≤ rest_bound n (length rs))
          → (o : Option Reach) → further p.path b env ≡ o
          → cost_of o (λ r. total (λ row. 1 + rest_cost T p.path b rs (bind r.var row env))
          (until (decides T p.path b rs env r.var) (next_rows T p.path b env r))) ≤ n * (1 + rest_bound n (length rs))
      go more None e = omega arith
      go more (Some r) e =
          let f = decides T p.path b rs env r.var in
          let rows = next_rows T p.path b env r in
          next_less env r (λ row. rest_cost T p.path b rs (bind r.var row env)) (rest_bound n (length rs)) (until f rows) t h e
          (until_less f rows) (λ row i. in_until f rows row i) (λ row s g. more (bind r.var row env) s g)

  here_less : (sure : Bool) (order : List Reach) (env : Env) → InTables T p.path env → is_held env v.0 ≡ true
      → cost_here T p b sure order env ≤ rest_bound n (length order) + m
  here_less sure order env t h =
      parts_less sure (rest_of T p.path b order env) (rest_cost T p.path b order env) (work T p.body env) (rest_bound n (length order)) m
      (rest_less order env t h) (body env t)

  walk_less : (sure : Bool) (order : List Reach) (env : Env) → InTables T p.path env → is_held env v.0 ≡ true
      → work_over passed T p b sure order env ≤ path_bound n m (length order)
  walk_less sure [] env t h = go (lookup 0 env)
    where
      go : (o : Option Row) → asked_cost passed T p b sure [] env o 0 ≤ m
      go None = omega arith
      go (Some (OfDoc d)) = passed_less (passed d) _ m (none_more _ m (here_less sure [] env t h))
      go (Some (OfNote d)) = omega arith
  walk_less sure (x ∷ rs) env t h = go (λ s e. walk_less s rs e) (lookup 0 env)
    where
      More : Type 0
      More = (s : Bool) (e : Env) → InTables T p.path e → is_held e v.0 ≡ true → work_over passed T p b s rs e ≤ path_bound n m (length rs)

      next : More → (o : Option Reach) → further p.path b env ≡ o
          → cost_of o (λ r. once_cost T p b (is_once p.path env rs r.var) (x ∷ rs) env (total (λ row. 1 + work_over passed T p b
          (is_once p.path env rs r.var) rs (bind r.var row env)) (next_rows T p.path b env r))) ≤ path_bound n m (suc (length rs))
      next more None e = omega arith
      next more (Some r) e =
          let once = is_once p.path env rs r.var in
          let walk = next_less env r (λ row. work_over passed T p b once rs (bind r.var row env)) (path_bound n m (length rs))
          (next_rows T p.path b env r) t h e (no_less _ _ refl) (λ row i. i) (λ row s g. more once (bind r.var row env) s g) in
          let before = once_less n rs (nat_eq r.var.0 0) (path_apart p.path env r.var) (rest_cost T p.path b (x ∷ rs) env)
          (rest_less (x ∷ rs) env t h) in
          le _ _ _
          (sum_less (is_walked T p b once (x ∷ rs) env) _ _ (once_bound n (length rs)) (n * (1 + path_bound n m (length rs))) before walk)
          (higher_right (rest_bound n (suc (length rs)) + m) (once_bound n (length rs) + n * (1 + path_bound n m (length rs))))

      go : More → (o : Option Row)
          → asked_cost passed T p b sure (x ∷ rs) env o
          (cost_of (further p.path b env) (λ r. once_cost T p b (is_once p.path env rs r.var) (x ∷ rs) env (total (λ row.
          1 + work_over passed T p b (is_once p.path env rs r.var) rs (bind r.var row env)) (next_rows T p.path b env r))))
          ≤ path_bound n m (suc (length rs))
      go more None = next more (further p.path b env) refl
      go more (Some (OfDoc d)) =
          passed_less (passed d) _ (path_bound n m (suc (length rs)))
          (le _ _ _ (here_less sure (x ∷ rs) env t h)
          (higher_left (rest_bound n (suc (length rs)) + m) (once_bound n (length rs) + n * (1 + path_bound n m (length rs)))))
      go more (Some (OfNote d)) = omega arith

none_held : (j : ℕ) → is_held [] j ≡ true → ⊥
none_held j h = false≢true h

-- a row of the driver's table, bound alone, is in the tables
driver_tables : (T : Tables) (path : List Step) (v : Var) (row : Row) → In row (rows_of (table_in path v.0) T)
    → InTables T path (bind v row [])
driver_tables T path v row t j z y = go (held_was [] v row j y)
  where
    go : (j ≡ v.0) ⊎ (is_held [] j ≡ true) → (r : Row) × In r (rows_of (table_in path j) T) × (lookup j (bind v row []) ≡ Some r)
    go (inl q) =
        (row, subst (λ y. In row (rows_of (table_in path y) T)) (sym q) t, ap (λ y. lookup y (bind v row [])) q ∙ bind_same v row [])
    go (inr y) = absurd (none_held j y)

pub probes_by_index_are_linear : ProbesByIndexAreLinear
probes_by_index_are_linear entries T w p v order n m k bounded e short body =
    total_times (λ row. 1 + cost_at (λ b. was_seen entries) T w p order (bind v row [])) (1 + path_bound n m (length order))
    (walked T w p (seek_of p.at) v) (λ row i.
    plus_one _ _ (marked row (driven_are T w p v bounded e row (walked_in T w p (seek_of p.at) v row i)).0))
  where
    marked : (row : Row) → In row (rows_of (table_in p.path v.0) T)
        → cost_at (λ b. was_seen entries) T w p order (bind v row []) ≤ path_bound n m (length order)
    marked row i = go (mark_in w (value p.at (bind v row [])))
      where
        go : (o : Option ℤ) → marked_cost (λ b. was_seen entries) T w p order (bind v row []) o ≤ path_bound n m (length order)
        go None = omega arith
        go (Some b) = walk_less (was_seen entries) T p v n m k short body b false order (bind v row []) (driver_tables T p.path v row i)
            (held_same [] v row)
