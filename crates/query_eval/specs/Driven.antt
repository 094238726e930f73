-- What the driving rows of a probe that are walked find, and what a run costs: driving rows come one after the other, and what was
-- found before is passed over.
use Rattle.std.specs.Prelude.{ℕ, ◌+◌, ℤ, ◌||◌, Bool, Option, Some, None, List, [], ◌∷◌, ◌++◌}
use Rattle.std.specs.List.{flat_map}
use Rattle.tap_rows.specs.declared.rows.Doc.{Doc}
use Rattle.tap_rows.specs.declared.tables.Tables.{Tables}
use Rattle.tap_rows.specs.declared.results.Hit.{Hit}
use Rattle.tap_rows.specs.declared.results.Entry.{Entry}
use Rattle.tql_core.specs.declared.term.Var.{Var}
use Rattle.tql_core.specs.declared.tnode.TNode.{TNode}
use Rattle.tql_core.specs.Row.{Row}
use Rattle.tql_core.specs.Values.{bind}
use Rattle.time_marks.specs.declared.seek.Seek.{Seek}
use Rattle.time_marks.specs.declared.ranged.Ranged.{Ranged}
use Rattle.time_marks.specs.declared.ranged_query.RangedQuery.{RangedQuery}
use Rattle.time_marks.specs.declared.window.Window.{Window}
use Rattle.time_marks.specs.Probes.{Probe}
use Rattle.time_marks.specs.Views.{probe_in}
use Rattle.access_plan.specs.declared.reach.Reach.{Reach}
use Rattle.probe_eval.specs.Nested.{was_seen}
use Rattle.probe_eval.specs.Drivers.{hits_at, cost_at, walked, seek_var}
use Rattle.probe_eval.specs.Runs.{part_order, part_hits}
use Rattle.query_eval.specs.Lowest.{has_lower}

-- the hits at the marks of the driving rows
abbrev pub driven_hits : List Entry → Tables → Window → Probe → List Reach → Seek → Var → List Hit
driven_hits entries T w p order seek v = flat_map (λ row. hits_at entries T w p order (bind v row [])) (walked T w p seek v)

-- is the document in the box, or was it found with a mark that is no later?
abbrev pub is_settled : List Entry → List Hit → ℤ → Doc → Bool
is_settled entries found b doc = was_seen entries doc || has_lower found (record { doc = doc.num; first = b })

-- the sum of the costs of some elements, each beside what those before it found; found hits are joined to those before them
abbrev pub total_in_turn : {A : Type 0} → (List Hit → List Hit → List Hit) → (List Hit → A → ℕ) → (A → List Hit) → List Hit → List A → ℕ
total_in_turn join cost hits found [] = 0
total_in_turn join cost hits found (x ∷ xs) = cost found x + total_in_turn join cost hits (join found (hits x)) xs

module _ (join : List Hit → List Hit → List Hit) (entries : List Entry) (T : Tables) (w : Window) where
  module _ (p : Probe) (order : List Reach) where
    -- a step for a driving row, and the work beside it, where settled documents are passed over
    abbrev pub row_cost : Var → List Hit → Row → ℕ
    row_cost v found row = 1 + cost_at (is_settled entries found) T w p order (bind v row [])

    -- the steps of a probe after these hits were found: at its fixed mark, or beside its driving rows in turn
    abbrev pub turn_cost : List Hit → Seek → Option Var → ℕ
    turn_cost found seek None = cost_at (is_settled entries found) T w p order []
    turn_cost found seek (Some v) =
        total_in_turn join (row_cost v) (λ row. hits_at entries T w p order (bind v row [])) found (walked T w p seek v)

  abbrev pub part_turn : List TNode → List Hit → Ranged → ℕ
  part_turn nodes found part = turn_cost (probe_in nodes part.probe) (part_order part) found part.seek (seek_var part.seek)

  -- the steps of parts, one after the other
  abbrev pub parts_cost : List TNode → List Hit → List Ranged → ℕ
  parts_cost nodes found parts = total_in_turn join (part_turn nodes) (part_hits entries T w nodes) found parts

-- the steps that a run may take: the documents that are in the box, or were found before with a mark that is no later, are passed over
abbrev pub run_cost : List Entry → Tables → Window → RangedQuery → ℕ
run_cost entries T w q = parts_cost (λ found hits. found ++ hits) entries T w q.pool [] q.parts
