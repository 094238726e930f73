-- A turn of which the first row was read ahead.
use Rattle.std.proofs.Common.{◌≡◌, ◌∙◌, ℕ, ◌+◌, ◌≤◌, true, List, [], ◌∷◌, ◌++◌, drop, length, map, Some, refl, sym, ap, subst, arith}
use Rattle.std.specs.Prelude.{filter}
use Rattle.std.specs.List.{flat_map}
use Rattle.tap_rows.specs.Kept.{In}
use Rattle.tql_core.specs.Bounds.{is_bounded}
use Rattle.tql_core.specs.Row.{Row}
use Rattle.tql_core.specs.Values.{Env, bind, value}
use Rattle.row_index.specs.Orders.{InPlace, doc_number, doc_arrival, note_number, note_arrival}
use Rattle.time_marks.specs.declared.window.Window.{Window}
use Rattle.time_marks.specs.Probes.{Probe}
use Rattle.time_marks.specs.Seeks.{seek_of, seek_window, lies_in}
use Rattle.time_marks.proofs.Lists.{map_in}
use Rattle.probe_eval.specs.Drivers.{seek_var, walked, hits_at, cost_at, seek_hits, seek_cost}
use Rattle.probe_eval.specs.Nested.{was_seen}
use Rattle.probe_eval.specs.Searches.{searched, HasBody, HasSlots}
use Rattle.probe_eval.specs.Tables.{table_in}
use Rattle.probe_eval.specs.Work.{total}
use Rattle.probe_eval.proofs.Costs.{total_map}
use Rattle.probe_eval.proofs.DriverLaws.{driven_are}
use Rattle.probe_eval.proofs.WalkedLaws.{walked_in, walked_hits}
use Rattle.wake_plan.specs.declared.turn.Turn.{Turn}
use Rattle.wake_plan.specs.Turns.{bound_alone, due_envs, first_due, left, hits_left, cost_left, AreRising, IsAhead, IsTurn}
use Rattle.wake_plan.specs.Wakes.{IsUpTo}
use Rattle.wake_plan.proofs.Narrow.{walked_narrow}
use Rattle.wake_plan.proofs.Sooner.{AreSooner, rows_rise, stored_sooner, walked_sooner}
use Rattle.wake_plan.proofs.TurnLaws.{next_left, next_ahead}

flat_map_map : {A B C : Type 0} (f : B → List C) (g : A → B) (xs : List A) → flat_map f (map g xs) ≡ flat_map (λ x. f (g x)) xs
flat_map_map f g [] = refl
flat_map_map f g (x ∷ xs) = ap (λ z. f (g x) ++ z) (flat_map_map f g xs)

module _ (w : Window) (t : Turn) (rows : List Row)
    (e : seek_var (seek_of (searched t.search).at) ≡ Some t.var) (bounded : is_bounded (searched t.search).at ≡ true)
    (docs : InPlace doc_number doc_arrival t.search.index.now.docs) (notes : InPlace note_number note_arrival t.search.index.now.notes)
    (all : rows ≡ walked t.search.index.now w (searched t.search) (seek_of (searched t.search).at) t.var)
    (later : t.rows ≡ drop 1 rows) (next : t.next ≡ first_due w (searched t.search) t.var rows) where
  abbrev p : Probe
  p = searched t.search

  rising_rows : AreRising w p (bound_alone t.var rows)
  rising_rows =
      rows_rise t.var w p e rows
      (λ row i. (driven_are t.search.index.now w p t.var bounded e row
      (walked_in t.search.index.now w p (seek_of p.at) t.var row (subst (λ z. In row z) all i))).1)
      (subst (λ z. AreSooner p.at.base z) (sym all) (walked_sooner p.at.base t.search.index.now w p (seek_of p.at) t.var (stored_sooner
      t.search.index.now (seek_window w (seek_of p.at)) docs.rising notes.rising p.at.base p.at.plus (table_in p.path t.var.0))))

  left_rows : left t ≡ bound_alone t.var rows
  left_rows =
      ap (λ o. due_envs o ++ bound_alone t.var t.rows) next
      ∙ ap (λ z. due_envs (first_due w p t.var rows) ++ bound_alone t.var z) later
      ∙ next_left w p t.var rows rising_rows

  pub started_turn : HasBody t.search → HasSlots t.search (1 + length t.order.now) → IsTurn w t
  started_turn node room = record {
    node = node;
    room = λ env i.
        let r = map_in (λ row. bind t.var row []) rows env (subst (λ z. In env z) left_rows i) in
        subst (λ (z : Env). HasSlots t.search (length z + length t.order.now)) (sym r.2) room;
    rising = subst (AreRising w p) (sym left_rows) rising_rows;
    ahead = subst (λ o. IsAhead p o t.rows) (sym next)
        (subst (λ z. IsAhead p (first_due w p t.var rows) z) (sym later) (next_ahead w p t.var rows rising_rows));
  }

  pub started_hits : hits_left w t ≡ seek_hits t.search.seen.now t.search.index.now w p t.order.now (seek_of p.at) (Some t.var)
  started_hits =
      ap (flat_map (hits_at t.search.seen.now t.search.index.now w p t.order.now)) left_rows
      ∙ flat_map_map (hits_at t.search.seen.now t.search.index.now w p t.order.now) (λ row. bind t.var row []) rows
      ∙ ap (flat_map (λ row. hits_at t.search.seen.now t.search.index.now w p t.order.now (bind t.var row []))) all
      ∙ walked_hits t.search.index.now w p (seek_of p.at) t.var t.search.seen.now t.order.now

  pub started_cost : (u : Window) → IsUpTo w u
      → cost_left u t ≡ seek_cost t.search.seen.now t.search.index.now u p t.order.now (seek_of p.at) (Some t.var)
  started_cost u k =
      ap (λ z. total (λ env. 1 + cost_at (λ b. was_seen t.search.seen.now) t.search.index.now u p t.order.now env)
      (filter (λ env. lies_in u (value p.at env)) z)) (left_rows ∙ ap (bound_alone t.var) all)
      ∙ ap (total (λ env. 1 + cost_at (λ b. was_seen t.search.seen.now) t.search.index.now u p t.order.now env))
      (walked_narrow t.search.index.now w u p t.var k bounded e)
      ∙ total_map (λ env. 1 + cost_at (λ b. was_seen t.search.seen.now) t.search.index.now u p t.order.now env) (λ row. bind t.var row [])
      (walked t.search.index.now u p (seek_of p.at) t.var)

  pub started_steps : (s taken : ℕ) (u : Window) → IsUpTo w u → taken ≤ s + 1
      → taken + cost_left u t ≤ s + (1 + seek_cost t.search.seen.now t.search.index.now u p t.order.now (seek_of p.at) (Some t.var))
  started_steps s taken u k h = let c = started_cost u k in omega (arith, h, c)
