-- What a run of a plan finds, and how many steps it may take.
use Rattle.std.specs.Prelude.{◌≡◌, ℕ, ◌+◌, ◌<◌, ◌≤◌, true, false, Option}
use Rattle.std.specs.Prelude.{Some, None, List, [], ◌∷◌, length, map, filter, option_to_list}
use Rattle.std.specs.List.{flat_map}
use Rattle.tap_rows.specs.declared.tables.Tables.{Tables}
use Rattle.tap_rows.specs.declared.results.Hit.{Hit}
use Rattle.tap_rows.specs.declared.results.Entry.{Entry}
use Rattle.tql_core.specs.declared.term.Var.{Var}
use Rattle.tql_core.specs.declared.tnode.TNode.{TNode}
use Rattle.tql_core.specs.Bounds.{is_near}
use Rattle.tql_core.specs.Holds.{asked_of}
use Rattle.tql_core.specs.Row.{rows_of}
use Rattle.tap_rows.specs.Kept.{In}
use Rattle.tql_core.specs.Trees.{tree_at}
use Rattle.tql_core.specs.Values.{Env, bind, value}
use Rattle.time_marks.specs.declared.mark.Step.{Step}
use Rattle.time_marks.specs.declared.ranged.Ranged.{Ranged}
use Rattle.time_marks.specs.declared.ranged_query.RangedQuery.{RangedQuery}
use Rattle.time_marks.specs.declared.window.Window.{Window}
use Rattle.time_marks.specs.Found.{IsProbe, nested}
use Rattle.time_marks.specs.Probes.{Probe}
use Rattle.time_marks.specs.Seeks.{seek_of, seek_plus, lies_in}
use Rattle.time_marks.specs.Views.{probe_in, ranged_probes}
use Rattle.time_marks.specs.Windows.{WindowFits}
use Rattle.access_plan.specs.declared.reach.Reach.{Reach}
use Rattle.access_plan.specs.Orders.{order_of}
use Rattle.probe_eval.specs.Work.{total, work}
use Rattle.probe_eval.specs.Drivers.{seek_var, seek_hits, seek_cost}
use Rattle.probe_eval.specs.Tables.{table_in}

-- the order in which a part's variables are bound after the driving row
abbrev pub part_order : Ranged → List Reach
part_order part = order_of part.probe.path part.probe.at.base

abbrev pub part_hits : List Entry → Tables → Window → List TNode → Ranged → List Hit
part_hits entries T w nodes part = seek_hits entries T w (probe_in nodes part.probe) (part_order part) part.seek (seek_var part.seek)

abbrev pub part_cost : List Entry → Tables → Window → List TNode → Ranged → ℕ
part_cost entries T w nodes part = seek_cost entries T w (probe_in nodes part.probe) (part_order part) part.seek (seek_var part.seek)

-- the hits of all parts
abbrev pub query_hits : List Entry → Tables → Window → RangedQuery → List Hit
query_hits entries T w q = flat_map (part_hits entries T w q.pool) q.parts

-- the bound on the steps of a run: for each driving row that is walked 1, the rows of the nearest accesses until a document has
-- one, and for each document the search for the rest (one search for all if it is the same beside each) and the work of the body
-- if the rest exists
abbrev pub query_cost : List Entry → Tables → Window → RangedQuery → ℕ
query_cost entries T w q = total (part_cost entries T w q.pool) q.parts

-- each probe of the query is an `IsProbe`
abbrev pub HasValidProbes : RangedQuery → Type 0
HasValidProbes q = (p : Probe) → In p (ranged_probes q) → IsProbe p

-- what a run needs: the window fits, and each probe finds a document
pub record CanRun (q : RangedQuery) (w : Window) : Type 0 where
  pub window : WindowFits w
  pub probes : HasValidProbes q

-- what the evaluation of a part needs: its body is a node, its mark can be solved, and there is room for its variables
pub record IsFit (nodes : List TNode) (part : Ranged) : Type 0 where
  pub node : part.probe.body.0 < length nodes
  pub plus : is_near (seek_plus part.seek) ≡ true
  pub room : length (option_to_list (seek_var part.seek)) + length (part_order part) + nested (tree_at nodes part.probe.body.0) ≤ 16

-- what may drive a probe: each row of the driver's table, bound alone, or no row for a fixed mark
abbrev pub starts_of : Tables → Probe → Option Var → List Env
starts_of T p None = [] ∷ []
starts_of T p (Some v) = map (λ row. bind v row []) (rows_of (table_in p.path v.0) T)

abbrev pub starts : Tables → Probe → List Env
starts T p = starts_of T p (seek_var (seek_of p.at))

-- no row has its mark in the window, nor does a fixed mark lie there
abbrev pub HasNoMark : Tables → Window → Probe → Type 0
HasNoMark T w p = (env : Env) → In env (starts T p) → lies_in w (value p.at env) ≡ false

-- the path is that of the document alone
abbrev pub PathIsDocument : Probe → Type 0
PathIsDocument p = (step : Step) × (p.path ≡ step ∷ [])

-- a step for each document whose mark lies in the window, and the work of the body there
abbrev pub rows_due : Tables → Window → Probe → ℕ
rows_due T w p = total (λ d. 1 + work T p.body (asked_of d)) (filter (λ d. lies_in w (value p.at (asked_of d))) T.docs)
