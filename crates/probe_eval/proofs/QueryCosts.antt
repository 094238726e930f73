-- What the parts of a query cost if nothing is marked, and if each path is the document alone.
use Rattle.std.proofs.Common.{◌≡◌, ◌∙◌, ◌≤◌, List, refl, sym, ap, subst}
use Rattle.tap_rows.specs.declared.tables.Tables.{Tables}
use Rattle.tap_rows.specs.declared.results.Entry.{Entry}
use Rattle.tap_rows.specs.Kept.{In}
use Rattle.time_marks.specs.declared.ranged.Ranged.{Ranged}
use Rattle.time_marks.specs.declared.ranged_query.RangedQuery.{RangedQuery}
use Rattle.time_marks.specs.declared.window.Window.{Window}
use Rattle.time_marks.specs.Probes.{Probe}
use Rattle.time_marks.specs.Seeks.{seek_of}
use Rattle.time_marks.specs.Views.{probe_in, ranged_probes}
use Rattle.time_marks.proofs.Lists.{in_map}
use Rattle.access_plan.proofs.Served.{orders_serve}
use Rattle.probe_eval.specs.Work.{total}
use Rattle.probe_eval.specs.Nested.{was_seen}
use Rattle.probe_eval.specs.Drivers.{seek_var, seek_cost}
use Rattle.probe_eval.specs.Runs.{part_order, part_cost, query_cost, HasValidProbes, HasNoMark, PathIsDocument, rows_due}
use Rattle.probe_eval.proofs.Costs.{total_less_in, total_map, total_none}
use Rattle.probe_eval.proofs.Dues.{quiet_cost, alone_cost}
use Rattle.probe_eval.proofs.Founds.{part_probe, part_bounded}

module _ (q : RangedQuery) (ps : HasValidProbes q) (entries : List Entry) (T : Tables) (w : Window) where
  quiet_part : (part : Ranged) → In part q.parts → HasNoMark T w (probe_in q.pool part.probe) → part_cost entries T w q.pool part ≡ 0
  quiet_part part i h =
      let p = probe_in q.pool part.probe in
      ap (λ s. seek_cost entries T w p (part_order part) s (seek_var s)) part.solved
      ∙ quiet_cost (λ b. was_seen entries) T w p (part_order part) (part_probe q ps part i) (orders_serve p.path p.at.base)
      (part_bounded q part i) (seek_var (seek_of p.at)) refl h

  alone_part : (part : Ranged) → In part q.parts → PathIsDocument (probe_in q.pool part.probe)
      → part_cost entries T w q.pool part ≤ rows_due T w (probe_in q.pool part.probe)
  alone_part part i h =
      let p = probe_in q.pool part.probe in
      subst (λ s. seek_cost entries T w p (part_order part) s (seek_var s) ≤ rows_due T w p) (sym part.solved)
      (alone_cost (λ b. was_seen entries) T w p (part_order part) (part_probe q ps part i) (orders_serve p.path p.at.base)
      (part_bounded q part i) h (seek_var (seek_of p.at)) refl)

  pub query_quiet : ((p : Probe) → In p (ranged_probes q) → HasNoMark T w p) → query_cost entries T w q ≡ 0
  query_quiet h = total_none (part_cost entries T w q.pool) q.parts (λ part i.
      quiet_part part i (h (probe_in q.pool part.probe) (in_map (λ (part : Ranged). probe_in q.pool part.probe) q.parts part i)))

  pub query_due : ((p : Probe) → In p (ranged_probes q) → PathIsDocument p)
      → query_cost entries T w q ≤ total (rows_due T w) (ranged_probes q)
  query_due h =
      subst (λ z. query_cost entries T w q ≤ z) (sym (total_map (rows_due T w) (λ (part : Ranged). probe_in q.pool part.probe) q.parts))
      (total_less_in (part_cost entries T w q.pool) (λ (part : Ranged). rows_due T w (probe_in q.pool part.probe)) q.parts (λ part i.
      alone_part part i (h (probe_in q.pool part.probe) (in_map (λ (part : Ranged). probe_in q.pool part.probe) q.parts part i))))
