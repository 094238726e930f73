-- What a run costs, driving row by driving row.
use Rattle.std.proofs.Common.{◌≡◌, ℕ, ◌+◌, ◌≤◌, true, List, [], ◌∷◌, ◌++◌, Option, Some, None, length, refl, sym, subst, inl, inr}
use Rattle.std.proofs.Common.{arith}
use Rattle.std.specs.List.{flat_map}
use Rattle.std.proofs.lemmas.Bool.{false≢true}
use Rattle.tap_rows.specs.declared.tables.Tables.{Tables}
use Rattle.tap_rows.specs.declared.results.Hit.{Hit}
use Rattle.tap_rows.specs.declared.results.Entry.{Entry}
use Rattle.tap_rows.specs.Kept.{In}
use Rattle.tql_core.specs.declared.term.Var.{Var}
use Rattle.tql_core.specs.Values.{Env, bind}
use Rattle.time_marks.specs.declared.seek.Seek.{Seek}
use Rattle.time_marks.specs.declared.ranged_query.RangedQuery.{RangedQuery}
use Rattle.time_marks.specs.declared.window.Window.{Window}
use Rattle.time_marks.specs.Probes.{Probe}
use Rattle.time_marks.specs.Views.{probe_in}
use Rattle.time_marks.proofs.Lists.{in_left, in_right}
use Rattle.access_plan.specs.declared.reach.Reach.{Reach}
use Rattle.probe_eval.specs.Nested.{was_seen}
use Rattle.probe_eval.specs.Drivers.{hits_at, seek_hits, cost_at, walked, seek_var, seek_cost}
use Rattle.probe_eval.specs.Runs.{part_order, part_hits, part_cost, query_hits, query_cost}
use Rattle.probe_eval.specs.Work.{total}
use Rattle.probe_eval.proofs.Passing.{cost_less, one_less}
use Rattle.probe_eval.proofs.WalkedLaws.{walked_hits}
use Rattle.query_eval.specs.Lowest.{has_place, keeping}
use Rattle.query_eval.specs.Driven.{is_settled, total_in_turn, row_cost, turn_cost, part_turn, parts_cost, run_cost}
use Rattle.query_eval.proofs.Settled.{IsStored, stored_more, settled_by, seen_settled}

plus_less : (a b c d : ℕ) → a ≤ b → c ≤ d → a + c ≤ b + d
plus_less a b c d h k = omega (arith, h, k)

in_flat : {A B : Type 0} (f : A → List B) (xs : List A) (x : A) (y : B) → In x xs → In y (f x) → In y (flat_map f xs)
in_flat f [] x y i j = absurd i
in_flat f (z ∷ xs) x y (inl e) j = in_left (f z) (flat_map f xs) y (subst (λ q. In y (f q)) e j)
in_flat f (z ∷ xs) x y (inr i) j = in_right (f z) (flat_map f xs) y (in_flat f xs x y i j)

module _ {A : Type 0} where
  -- the steps of the element whose turn it was are taken
  pub turn_step :
      (n k : ℕ) (cost : ℕ → List Hit → A → ℕ) (hits : A → List Hit) (s now bound : ℕ) (kept new : List Hit) (xs left : List A) (x : A)
      → s + total_in_turn (keeping n) (cost n) hits kept xs ≤ bound → xs ≡ x ∷ left → now ≤ s + cost n kept x
      → new ≡ keeping n kept (hits x) → k ≡ n
      → now + total_in_turn (keeping k) (cost k) hits new left ≤ bound
  turn_step n k cost hits s now bound kept new xs left x h e c g q =
      let m : s + (cost n kept x + total_in_turn (keeping n) (cost n) hits (keeping n kept (hits x)) left) ≤ bound =
      subst (λ z. s + total_in_turn (keeping n) (cost n) hits kept z ≤ bound) e h in
      subst (λ j. now + total_in_turn (keeping j) (cost j) hits new left ≤ bound) (sym q)
      (subst (λ z. now + total_in_turn (keeping n) (cost n) hits z left ≤ bound) (sym g) (omega (arith, m, c)))

  -- each on its own costs no less
  pub in_turn_less :
      (join : List Hit → List Hit → List Hit) (cost : List Hit → A → ℕ) (hits : A → List Hit) (own : A → ℕ) (found : List Hit) (xs : List A)
      → ((found : List Hit) (x : A) → cost found x ≤ own x) → total_in_turn join cost hits found xs ≤ total own xs
  in_turn_less join cost hits own found [] h = omega arith
  in_turn_less join cost hits own found (x ∷ xs) h =
      plus_less _ _ _ _ (h found x) (in_turn_less join cost hits own (join found (hits x)) xs h)

  -- what is stored passes over no less than what was found, if all documents have places
  pub in_turn_stored : (n : ℕ) (cost other : List Hit → A → ℕ) (hits : A → List Hit) (kept found : List Hit) (xs : List A)
      → IsStored found kept
      → ((kept found : List Hit) (x : A) → In x xs → IsStored found kept → cost kept x ≤ other found x)
      → ((x : A) → In x xs → (h : Hit) → In h (hits x) → has_place n h.doc.0 ≡ true)
      → total_in_turn (keeping n) cost hits kept xs ≤ total_in_turn (λ found hits. found ++ hits) other hits found xs
  in_turn_stored n cost other hits kept found [] s c p = omega arith
  in_turn_stored n cost other hits kept found (x ∷ xs) s c p =
      plus_less _ _ _ _ (c kept found x (inl refl) s)
      (in_turn_stored n cost other hits (keeping n kept (hits x)) (found ++ hits x) xs
      (stored_more n found kept (hits x) s (p x (inl refl))) (λ k f y i. c k f y (inr i)) (λ y i. p y (inr i)))

  -- each row takes a step
  pub rows_in_turn :
      (join : List Hit → List Hit → List Hit) (cost : List Hit → A → ℕ) (hits : A → List Hit) (found : List Hit) (xs : List A)
      → ((found : List Hit) (x : A) → 1 ≤ cost found x) → length xs ≤ total_in_turn join cost hits found xs
  rows_in_turn join cost hits found [] h = omega arith
  rows_in_turn join cost hits found (x ∷ xs) h =
      let a = h found x in
      let b = rows_in_turn join cost hits (join found (hits x)) xs h in
      omega (arith, a, b)

module _ (entries : List Entry) (T : Tables) (w : Window) where
  module _ (p : Probe) (order : List Reach) where
    settled_cost : (kept found : List Hit) (env : Env) → IsStored found kept
        → cost_at (is_settled entries kept) T w p order env ≤ cost_at (is_settled entries found) T w p order env
    settled_cost kept found env s =
        cost_less (is_settled entries kept) (is_settled entries found) (λ b d e. settled_by entries found kept s b d e) T w p order env

    box_cost : (found : List Hit) (env : Env)
        → cost_at (is_settled entries found) T w p order env ≤ cost_at (λ b. was_seen entries) T w p order env
    box_cost found env =
        cost_less (is_settled entries found) (λ b. was_seen entries) (λ b d e. seen_settled entries found b d e) T w p order env

    pub turn_less : (join : List Hit → List Hit → List Hit) (found : List Hit) (seek : Seek) (sv : Option Var)
        → turn_cost join entries T w p order found seek sv ≤ seek_cost entries T w p order seek sv
    turn_less join found seek None = box_cost found []
    turn_less join found seek (Some v) =
        in_turn_less join (row_cost join entries T w p order v) (λ row. hits_at entries T w p order (bind v row []))
        (λ row. 1 + cost_at (λ b. was_seen entries) T w p order (bind v row [])) found (walked T w p seek v)
        (λ f row. one_less _ _ (box_cost f (bind v row [])))

    pub turn_stored : (n : ℕ) (kept found : List Hit) (seek : Seek) (sv : Option Var) → IsStored found kept
        → ((h : Hit) → In h (seek_hits entries T w p order seek sv) → has_place n h.doc.0 ≡ true)
        → turn_cost (keeping n) entries T w p order kept seek sv ≤ turn_cost (λ found hits. found ++ hits) entries T w p order found seek sv
    turn_stored n kept found seek None s h = settled_cost kept found [] s
    turn_stored n kept found seek (Some v) s h =
        in_turn_stored n (row_cost (keeping n) entries T w p order v) (row_cost (λ found hits. found ++ hits) entries T w p order v)
        (λ row. hits_at entries T w p order (bind v row [])) kept found (walked T w p seek v) s
        (λ k f row i q. one_less _ _ (settled_cost k f (bind v row []) q))
        (λ row i x j. h x (subst (λ z. In x z) (walked_hits T w p seek v entries order)
        (in_flat (λ row. hits_at entries T w p order (bind v row [])) (walked T w p seek v) row x i j)))

  -- a run costs no more than its parts, each on its own
  pub run_less : (q : RangedQuery) → run_cost entries T w q ≤ query_cost entries T w q
  run_less q =
      in_turn_less (λ found hits. found ++ hits) (part_turn (λ found hits. found ++ hits) entries T w q.pool) (part_hits entries T w q.pool)
      (part_cost entries T w q.pool) [] q.parts
      (λ found part.
      turn_less (probe_in q.pool part.probe) (part_order part) (λ found hits. found ++ hits) found part.seek (seek_var part.seek))

  -- by what is stored it costs no more than by what was found, if all documents that are found have places
  pub run_stored : (n : ℕ) (q : RangedQuery) (kept : List Hit) → kept ≡ []
      → ((h : Hit) → In h (query_hits entries T w q) → has_place n h.doc.0 ≡ true)
      → parts_cost (keeping n) entries T w q.pool kept q.parts ≤ run_cost entries T w q
  run_stored n q kept e h =
      in_turn_stored n (part_turn (keeping n) entries T w q.pool) (part_turn (λ found hits. found ++ hits) entries T w q.pool)
      (part_hits entries T w q.pool) kept [] q.parts (λ x k. absurd (false≢true k))
      (λ k f part i s. turn_stored (probe_in q.pool part.probe) (part_order part) n k f part.seek (seek_var part.seek) s (λ x j.
      h x (in_flat (part_hits entries T w q.pool) q.parts part x i j)))
      (λ part i x j. h x (in_flat (part_hits entries T w q.pool) q.parts part x i j))
