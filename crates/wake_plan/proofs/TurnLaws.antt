-- What a turn finds, and what it costs to go on.
use Rattle.std.proofs.Common.{◌≡◌, ℕ, suc, ◌+◌, ℤ, Bool, true, false, length, List, [], ◌∷◌, ◌++◌, drop, Option, Some, None, refl, sym, ap}
use Rattle.std.proofs.Common.{◌∙◌, subst, inl, inr, arith}
use Rattle.std.specs.Prelude.{◌⊎◌, ◌≤ℤ◌, filter, option_to_list}
use Rattle.std.specs.List.{flat_map}
use Rattle.std.proofs.lemmas.Int.{ints}
use Rattle.std.proofs.lemmas.Bool.{cases_Bool, false≢true}
use Rattle.tap_base.specs.declared.numbers.DocNum.{DocNum}
use Rattle.tap_rows.specs.declared.rows.Doc.{Doc}
use Rattle.tap_rows.specs.declared.tables.Tables.{Tables}
use Rattle.tap_rows.specs.declared.results.Hit.{Hit}
use Rattle.tap_rows.specs.declared.results.Entry.{Entry}
use Rattle.tap_rows.specs.Kept.{In}
use Rattle.tap_rows.proofs.Tests.{some_same, none_some}
use Rattle.tql_core.specs.declared.term.Var.{Var}
use Rattle.tql_core.specs.Row.{Row, OfDoc, OfNote}
use Rattle.tql_core.specs.Values.{Env, bind, lookup, value}
use Rattle.time_marks.specs.declared.window.Window.{Window}
use Rattle.time_marks.specs.Windows.{is_within}
use Rattle.time_marks.specs.Seeks.{lies_in}
use Rattle.time_marks.specs.Probes.{Probe}
use Rattle.time_marks.proofs.Lists.{in_left}
use Rattle.access_plan.specs.declared.reach.Reach.{Reach}
use Rattle.probe_eval.specs.Drivers.{mark_in, marked_hits, hits_at, marked_cost, cost_at}
use Rattle.probe_eval.specs.Nested.{was_seen, hit_if, over_rows, asked_or, hits_over, new_doc, holds_here, work_over}
use Rattle.probe_eval.specs.Rests.{further}
use Rattle.probe_eval.specs.StepRows.{next_rows}
use Rattle.probe_eval.specs.Work.{total}
use Rattle.probe_eval.specs.Searches.{searched}
use Rattle.probe_eval.proofs.Members.{from_flat}
use Rattle.wake_plan.specs.declared.due.DrivingRow.{DrivingRow}
use Rattle.wake_plan.specs.declared.turn.Turn.{Turn}
use Rattle.wake_plan.specs.Firsts.{IsNoLater}
use Rattle.wake_plan.specs.Turns.{has_hit, with_mark, due_at, bound_alone, first_due, due_envs, due_mark, left, due_hits, due_cost}
use Rattle.wake_plan.specs.Turns.{hits_left, cost_left, AreRising, IsAhead, IsTurn, passed}
use Rattle.time_marks.specs.NextWake.{least_mark}
use Rattle.wake_plan.proofs.LeastMarks.{no_mark, mark_is, mark_least, reflexive}

-- a hit has the mark with which it was looked for
hit_first : (passed : Bool) (b : ℤ) (o : Option DocNum) (h : Hit) → In h (option_to_list (hit_if passed b o)) → h.first ≡ b
hit_first passed b None h i = absurd i
hit_first true b (Some num) h (inl q) = ap (λ (z : Hit). z.first) q
hit_first true b (Some num) h (inr i) = absurd i
hit_first false b (Some num) h i = absurd i

module _ (entries : List Entry) (T : Tables) (p : Probe) (b : ℤ) where
  asked_first : (order : List Reach) (env : Env) (o : Option Row) (others : List Hit) (h : Hit) → ((k : Hit) → In k others → k.first ≡ b)
      → In h (asked_or entries T p b order env o others) → h.first ≡ b
  asked_first order env None others h f i = f h i
  asked_first order env (Some (OfDoc d)) others h f i = hit_first (holds_here T p b order env) b (new_doc entries d) h i
  asked_first order env (Some (OfNote n)) others h f i = absurd i

  over_first : (env : Env) (o : Option Reach) (f : Reach → Row → List Hit) (h : Hit)
      → ((r : Reach) (row : Row) (k : Hit) → In k (f r row) → k.first ≡ b) → In h (over_rows T p.path b env o f) → h.first ≡ b
  over_first env None f h g i = absurd i
  over_first env (Some r) f h g i = let x = from_flat (f r) (next_rows T p.path b env r) h i in g r x.0 h x.2

  pub hits_first : (order : List Reach) (env : Env) (h : Hit) → In h (hits_over entries T p b order env) → h.first ≡ b
  hits_first [] env h i = asked_first [] env (lookup 0 env) [] h (λ k j. absurd j) i
  hits_first (x ∷ rs) env h i =
      asked_first (x ∷ rs) env (lookup 0 env) _ h
      (λ k j. over_first env (further p.path b env) (λ r row. hits_over entries T p b rs (bind r.var row env)) k
      (λ r row m n. hits_first rs (bind r.var row env) m n) j) i

-- a mark in the window
in_mark : (w : Window) (o : Option ℤ) (b : ℤ) → o ≡ Some b → lies_in w o ≡ true → mark_in w o ≡ Some b
in_mark w o b e l = ap (mark_in w) e ∙ here (subst (λ z. lies_in w z ≡ true) e l)
  where
    here : is_within w b ≡ true → mark_in w (Some b) ≡ Some b
    here k = rw k refl

out_mark : (w : Window) (o : Option ℤ) (b : ℤ) → mark_in w o ≡ Some b → o ≡ Some b
out_mark w None b e = absurd (none_some e)
out_mark w (Some x) b e = elim (cases_Bool (is_within w x)) [
  | inl c ↦ ap Some (some_same (rw c at e))
  | inr c ↦ absurd (none_some (rw c at e))
]

some_mark : (w : Window) (o : Option ℤ) → lies_in w o ≡ true → (b : ℤ) × (o ≡ Some b)
some_mark w None l = absurd (false≢true l)
some_mark w (Some b) l = (b, refl)

module _ (entries : List Entry) (T : Tables) (w : Window) (p : Probe) (order : List Reach) where
  -- a hit beside bound rows has their mark
  at_first : (env : Env) (h : Hit) → In h (hits_at entries T w p order env) → value p.at env ≡ Some h.first
  at_first env h i = go (mark_in w (value p.at env)) refl i
    where
      go : (o : Option ℤ) → mark_in w (value p.at env) ≡ o → In h (marked_hits entries T w p order env o) → value p.at env ≡ Some h.first
      go None e i = absurd i
      go (Some b) e i = out_mark w (value p.at env) b e ∙ ap Some (sym (hits_first entries T p b order env h i))

  at_mark : (env : Env) (b : ℤ) → value p.at env ≡ Some b → lies_in w (value p.at env) ≡ true
      → hits_at entries T w p order env ≡ hits_over entries T p b order env
  at_mark env b e l = ap (marked_hits entries T w p order env) (in_mark w (value p.at env) b e l)

  -- no hit is found with a lesser mark than the first row's
  rising_least : (env : Env) (envs : List Env) (b : ℤ) → AreRising w p (env ∷ envs) → value p.at env ≡ Some b → (h : Hit)
      → In h (flat_map (hits_at entries T w p order) (env ∷ envs)) → b ≤ℤ h.first
  rising_least env envs b r e h i =
      let x = from_flat (hits_at entries T w p order) (env ∷ envs) h i in
      go x.0 x.1 (at_first x.0 h x.2)
    where
      go : (y : Env) → (y ≡ env) ⊎ In y envs → value p.at y ≡ Some h.first → b ≤ℤ h.first
      go y (inl q) v = reflexive b h.first (some_same (sym e ∙ ap (value p.at) (sym q) ∙ v))
      go y (inr j) v = r.1 b h.first y e j v

  pub behind : (o : Option DrivingRow) (v : Var) (rows : List Row) (b : ℤ) → IsAhead p o rows
      → AreRising w p (due_envs o ++ bound_alone v rows) → IsNoLater b (due_mark o) → (h : Hit)
      → In h (flat_map (hits_at entries T w p order) (due_envs o ++ bound_alone v rows)) → b ≤ℤ h.first
  behind None v rows b a r n h i = absurd (subst (λ z. In h (flat_map (hits_at entries T w p order) (bound_alone v z))) a i)
  behind (Some due) v rows b a r n h i = onward b due.mark h.first n (rising_least due.env (bound_alone v rows) due.mark r a h i)
    where
      onward : (x y z : ℤ) → x ≤ℤ y → y ≤ℤ z → x ≤ℤ z
      onward x y z h k = omega (arith, ints)

  -- the hits beside the row that was read ahead come first
  pub hits_part : (due : DrivingRow) (envs : List Env) → value p.at due.env ≡ Some due.mark → AreRising w p (due.env ∷ envs)
      → flat_map (hits_at entries T w p order) (due.env ∷ envs)
      ≡ hits_over entries T p due.mark order due.env ++ flat_map (hits_at entries T w p order) envs
  hits_part due envs e r = ap (λ z. z ++ flat_map (hits_at entries T w p order) envs) (at_mark due.env due.mark e r.0)

-- the next row is read ahead
module _ (w : Window) (p : Probe) (v : Var) where
  due_is : (env : Env) → lies_in w (value p.at env) ≡ true
      → (b : ℤ) × (value p.at env ≡ Some b) × (due_at w p env ≡ Some (record { env = env; mark = b }))
  due_is env l =
      let k = some_mark w (value p.at env) l in
      (k.0, k.1, ap (with_mark env) (in_mark w (value p.at env) k.0 k.1 l))

  pub next_left : (rows : List Row) → AreRising w p (bound_alone v rows)
      → due_envs (first_due w p v rows) ++ bound_alone v (drop 1 rows) ≡ bound_alone v rows
  next_left [] r = refl
  next_left (row ∷ rows) r = let k = due_is (bind v row []) r.0 in ap (λ o. due_envs o ++ bound_alone v rows) k.2

  pub next_ahead : (rows : List Row) → AreRising w p (bound_alone v rows) → IsAhead p (first_due w p v rows) (drop 1 rows)
  next_ahead [] r = refl
  next_ahead (row ∷ rows) r = let k = due_is (bind v row []) r.0 in subst (λ o. IsAhead p o rows) (sym k.2) k.1

-- the cost of the row that was read ahead comes first
module _ (passed : ℤ → Doc → Bool) (T : Tables) (u : Window) (p : Probe) (order : List Reach) where
  pub cost_part : (due : DrivingRow) (envs : List Env) → value p.at due.env ≡ Some due.mark → lies_in u (Some due.mark) ≡ true
      → total (λ env. 1 + cost_at passed T u p order env) (filter (λ env. lies_in u (value p.at env)) (due.env ∷ envs))
      ≡ (1 + work_over (passed due.mark) T p due.mark false order due.env)
      + total (λ env. 1 + cost_at passed T u p order env) (filter (λ env. lies_in u (value p.at env)) envs)
  cost_part due envs e l =
      let k : lies_in u (value p.at due.env) ≡ true = ap (lies_in u) e ∙ l in
      let c : cost_at passed T u p order due.env ≡ work_over (passed due.mark) T p due.mark false order due.env =
      ap (marked_cost passed T u p order due.env) (in_mark u (value p.at due.env) due.mark e k) in
      rw (k, c) refl

-- the least mark of what is found beside the row that was read ahead
pub found_mark : (t : Turn) (due : DrivingRow) → t.next ≡ Some due → has_hit (due_hits t (Some due)) ≡ true
    → Some due.mark ≡ least_mark (due_hits t t.next)
found_mark t due e h = sym (ap (λ o. least_mark (due_hits t o)) e ∙ go (due_hits t (Some due)) h (λ k i.
    hits_first t.search.seen.now t.search.index.now (searched t.search) due.mark t.order.now due.env k i))
  where
    go : (hs : List Hit) → has_hit hs ≡ true → ((k : Hit) → In k hs → k.first ≡ due.mark) → least_mark hs ≡ Some due.mark
    go [] h f = absurd (false≢true h)
    go (x ∷ xs) h f = mark_is (x ∷ xs) due.mark x (inl refl) (f x (inl refl)) (λ k i. reflexive due.mark k.first (sym (f k i)))

-- what was read ahead
pub due_of : (o : Option DrivingRow) (b : ℤ) → due_mark o ≡ Some b → (due : DrivingRow) × (o ≡ Some due) × (due.mark ≡ b)
due_of None b e = absurd (none_some e)
due_of (Some due) b e = (due, refl, some_same e)

-- a turn that has read a row ahead
module _ (w : Window) (t : Turn) (h : IsTurn w t) (due : DrivingRow) (e : t.next ≡ Some due) where
  abbrev others : List Env
  others = bound_alone t.var t.rows

  left_is : left t ≡ due.env ∷ others
  left_is = ap (λ o. due_envs o ++ others) e

  ahead_is : value (searched t.search).at due.env ≡ Some due.mark
  ahead_is = subst (λ o. IsAhead (searched t.search) o t.rows) e h.ahead

  rising_is : AreRising w (searched t.search) (due.env ∷ others)
  rising_is = subst (AreRising w (searched t.search)) left_is h.rising

  pub due_within : lies_in w (Some due.mark) ≡ true
  due_within = ap (lies_in w) (sym ahead_is) ∙ rising_is.0

  pub gone_left : left (passed w t) ≡ others
  gone_left = next_left w (searched t.search) t.var t.rows rising_is.2

  pub hits_split : hits_left w t ≡ due_hits t t.next ++ hits_left w (passed w t)
  hits_split =
      ap (flat_map (hits_at t.search.seen.now t.search.index.now w (searched t.search) t.order.now)) left_is
      ∙ hits_part t.search.seen.now t.search.index.now w (searched t.search) t.order.now due others ahead_is rising_is
      ∙ ap (λ o. due_hits t o ++ flat_map (hits_at t.search.seen.now t.search.index.now w (searched t.search) t.order.now) others) (sym e)
      ∙ ap (λ z. due_hits t t.next ++ flat_map (hits_at t.search.seen.now t.search.index.now w (searched t.search) t.order.now) z)
      (sym gone_left)

  pub gone_hits : least_mark (due_hits t t.next) ≡ None → hits_left w t ≡ hits_left w (passed w t)
  gone_hits n = hits_split ∙ ap (λ z. z ++ hits_left w (passed w t)) (no_mark (due_hits t t.next) n)

  pub gone_turn : IsTurn w (passed w t)
  gone_turn = record {
    node = h.node;
    room = λ env i. h.room env (subst (λ z. In env z) (sym left_is) (inr (subst (λ z. In env z) gone_left i)));
    rising = subst (AreRising w (searched t.search)) (sym gone_left) rising_is.2;
    ahead = next_ahead w (searched t.search) t.var t.rows rising_is.2;
  }

  pub gone_cost : (u : Window) → lies_in u (Some due.mark) ≡ true → cost_left u t ≡ (1 + due_cost t t.next) + cost_left u (passed w t)
  gone_cost u l =
      ap (λ z. total (λ env. 1 + cost_at (λ b. was_seen t.search.seen.now) t.search.index.now u (searched t.search) t.order.now env)
      (filter (λ env. lies_in u (value t.search.probe.now.at env)) z)) left_is
      ∙ cost_part (λ b. was_seen t.search.seen.now) t.search.index.now u (searched t.search) t.order.now due others ahead_is l
      ∙ ap (λ o. (1 + due_cost t o) + total (λ env. 1 + cost_at (λ b. was_seen t.search.seen.now) t.search.index.now u (searched t.search)
      t.order.now env) (filter (λ env. lies_in u (value t.search.probe.now.at env)) others)) (sym e)
      ∙ ap (λ z. (1 + due_cost t t.next) + total (λ env. 1 + cost_at (λ b. was_seen t.search.seen.now) t.search.index.now u
      (searched t.search) t.order.now env) (filter (λ env. lies_in u (value t.search.probe.now.at env)) z)) (sym gone_left)

  pub gone_length : length (left t) ≡ 1 + length (left (passed w t))
  gone_length = ap length left_is ∙ one (length others) (length (left (passed w t))) (ap length (sym gone_left))
    where
      one : (a b : ℕ) → a ≡ b → suc a ≡ 1 + b
      one a b q = omega (arith, q)

  -- a hit with the least mark that is found beside the row
  pub due_hit : (b : ℤ) → least_mark (due_hits t t.next) ≡ Some b → (k : Hit) × In k (hits_left w t) × (k.first ≡ b) × (b ≡ due.mark)
  due_hit b n =
      let m = mark_least (due_hits t t.next) b n in
      let k = m.0 in
      let f : k.0.first ≡ due.mark = hits_first t.search.seen.now t.search.index.now (searched t.search)
      due.mark t.order.now due.env k.0 (subst (λ o. In k.0 (due_hits t o)) e k.1) in
      (k.0, subst (λ z. In k.0 z) (sym hits_split) (in_left (due_hits t t.next) (hits_left w (passed w t)) k.0 k.1), k.2, sym k.2 ∙ f)

-- no hit has a lesser mark than the turn's row ahead
pub turn_behind : (w : Window) (t : Turn) (b : ℤ) → IsTurn w t → IsNoLater b (due_mark t.next) → (k : Hit) → In k (hits_left w t)
    → b ≤ℤ k.first
turn_behind w t b h n k i =
    behind t.search.seen.now t.search.index.now w (searched t.search) t.order.now t.next t.var t.rows b h.ahead h.rising n k i

-- a turn that has read no row ahead has none left
pub turn_over : (w : Window) (t : Turn) → IsTurn w t → due_mark t.next ≡ None → hits_left w t ≡ []
turn_over w t h e = go t.next refl e
  where
    go : (o : Option DrivingRow) → t.next ≡ o → due_mark o ≡ None → hits_left w t ≡ []
    go (Some due) q e = absurd (none_some (sym e))
    go None q e =
        let r : t.rows ≡ [] = subst (λ o. IsAhead (searched t.search) o t.rows) q h.ahead in
        ap (λ o. flat_map (hits_at t.search.seen.now t.search.index.now w (searched t.search) t.order.now)
        (due_envs o ++ bound_alone t.var t.rows)) q
        ∙ ap (λ z. flat_map (hits_at t.search.seen.now t.search.index.now w (searched t.search) t.order.now) (bound_alone t.var z)) r
