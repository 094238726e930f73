-- What the turns find is what the window query means.
use Rattle.std.proofs.Common.{◌≡◌, ◌∙◌, ℕ, ◌+◌, ◌≤◌, ℤ, List, Option, Some, None, length, refl, ap, subst, arith}
use Rattle.std.specs.Prelude.{◌≤ℤ◌, ◌<ℤ◌}
use Rattle.std.specs.List.{flat_map}
use Rattle.std.specs.Option.{option_map}
use Rattle.std.proofs.lemmas.Int.{ints}
use Rattle.tap_rows.specs.declared.tables.Tables.{Tables}
use Rattle.tap_rows.specs.declared.results.Entry.{Entry}
use Rattle.tap_rows.specs.Kept.{In}
use Rattle.time_marks.specs.declared.window.Window.{Window}
use Rattle.time_marks.specs.declared.ranged_query.RangedQuery.{RangedQuery}
use Rattle.time_marks.specs.Probes.{Probe}
use Rattle.time_marks.specs.Views.{ranged_probes}
use Rattle.probe_eval.specs.Nested.{was_seen}
use Rattle.probe_eval.specs.Runs.{query_hits, query_cost, HasValidProbes}
use Rattle.probe_eval.specs.Work.{total}
use Rattle.probe_eval.proofs.Founds.{query_found}
use Rattle.wake_plan.specs.declared.turn.Turn.{Turn}
use Rattle.wake_plan.specs.Marked.{marked_ahead, IsPlain}
use Rattle.wake_plan.specs.Turns.{hits_left, cost_left}
use Rattle.time_marks.specs.NextWake.{after_mark, greater, least_mark, next_wake}
use Rattle.wake_plan.specs.Wakes.{end_after, hits_ahead, windows_end, wake_window, IsUpTo}
use Rattle.wake_plan.proofs.LeastMarks.{least_meant, mark_least}
use Rattle.wake_plan.proofs.MarkedLaws.{plain_cost}

after_below : (b c h : ℤ) → c <ℤ h → c ≡ b → after_mark b ≤ℤ h
after_below b c h l e = omega (arith, ints)

same_end : (h : ℤ) → h ≤ℤ h
same_end h = omega (arith, ints)

module _ (q : RangedQuery) (ps : HasValidProbes q) (entries : List Entry) (T : Tables) (last : ℤ) where
  abbrev whole : Window
  whole = record { low = last; high = windows_end }

  least_same : least_mark (query_hits entries T whole q) ≡ least_mark (hits_ahead entries q T last)
  least_same = least_meant (was_seen entries) (ranged_probes q) T whole (query_hits entries T whole q) (query_found q ps entries T whole)

  window_same : wake_window last (query_hits entries T whole q) ≡ wake_window last (hits_ahead entries q T last)
  window_same = ap (λ o. record { low = last; high = end_after o }) least_same

  up_to : IsUpTo whole (wake_window last (query_hits entries T whole q))
  up_to = record { low = refl; high = go (least_mark (query_hits entries T whole q)) refl }
    where
      go : (o : Option ℤ) → least_mark (query_hits entries T whole q) ≡ o → end_after o ≤ℤ windows_end
      go None e = same_end windows_end
      go (Some b) e =
          let m = (mark_least (query_hits entries T whole q) b e).0 in
          after_below b m.0.first windows_end ((query_found q ps entries T whole).sound m.0 m.1).high m.2

  module _ (turns : List Turn) (hits : flat_map (hits_left whole) turns ≡ query_hits entries T whole q) where
    -- the moment after the least mark that the turns find
    pub wake_moment : (now : ℤ) (found : Option ℤ) → found ≡ least_mark (flat_map (hits_left whole) turns)
        → option_map (λ b. greater now (after_mark b)) found ≡ next_wake now (hits_ahead entries q T last)
    wake_moment now found e = ap (option_map (λ b. greater now (after_mark b))) (e ∙ ap least_mark hits ∙ least_same)

    pub wake_steps : (s mid taken : ℕ)
        → ((u : Window) → IsUpTo whole u → mid + total (cost_left u) turns ≤ s + (length q.parts + query_cost entries T u q))
        → taken ≤ mid + total (cost_left (wake_window last (flat_map (hits_left whole) turns))) turns
        → taken ≤ s + (length q.parts + query_cost entries T (wake_window last (hits_ahead entries q T last)) q)
    wake_steps s mid taken starts goes =
        subst (λ u. taken ≤ s + (length q.parts + query_cost entries T u q)) window_same
        (onward (starts (wake_window last (query_hits entries T whole q)) up_to)
        (subst (λ z. taken ≤ mid + total (cost_left (wake_window last z)) turns) hits goes))
      where
        onward : {a b c : ℕ} → b ≤ c → a ≤ b → a ≤ c
        onward h k = omega (arith, h, k)

  pub wake_plain : (s taken : ℕ) → taken ≤ s + (length q.parts + query_cost entries T (wake_window last (hits_ahead entries q T last)) q)
      → ((p : Probe) → In p (ranged_probes q) → IsPlain p)
      → taken ≤ s + marked_ahead T (wake_window last (hits_ahead entries q T last)) (ranged_probes q)
  wake_plain s taken h plain =
      let k = plain_cost q ps entries T (wake_window last (hits_ahead entries q T last)) plain in
      omega (arith, h, k)
