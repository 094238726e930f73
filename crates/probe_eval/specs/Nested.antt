-- Documents and marks that are looked for beside a driving row.
use Rattle.std.specs.Prelude.{ℕ, ◌+◌, ℤ, pos, Bool, true, false, not, ◌&&◌, ◌||◌, Option, Some, None}
use Rattle.std.specs.Prelude.{List, [], ◌∷◌, nat_eq, option_to_list, if◌then◌else◌}
use Rattle.std.specs.List.{flat_map}
use Rattle.tap_base.specs.declared.numbers.DocNum.{DocNum}
use Rattle.tap_rows.specs.declared.rows.Doc.{Doc}
use Rattle.tap_rows.specs.declared.tables.Tables.{Tables}
use Rattle.tap_rows.specs.declared.results.Hit.{Hit}
use Rattle.tap_rows.specs.declared.results.Entry.{Entry}
use Rattle.tql_core.specs.declared.term.Var.{Var}
use Rattle.tql_core.specs.Row.{Row, OfDoc, OfNote}
use Rattle.tql_core.specs.Values.{Env, bind, lookup}
use Rattle.tql_core.specs.Holds.{truth}
use Rattle.time_marks.specs.declared.mark.Step.{Step}
use Rattle.time_marks.specs.Probes.{Probe}
use Rattle.little_box.specs.Boxes.{is_in}
use Rattle.access_plan.specs.declared.reach.Reach.{Reach}
use Rattle.probe_eval.specs.Open.{path_apart}
use Rattle.probe_eval.specs.StepRows.{next_rows}
use Rattle.probe_eval.specs.Work.{total, work}
use Rattle.probe_eval.specs.Rests.{further, cost_of, rest_of, rest_cost}

-- is the document in the box?
abbrev pub was_seen : List Entry → Doc → Bool
was_seen entries doc = is_in doc.num.0 entries

-- the document's number, if it isn't in the box
abbrev pub new_doc : List Entry → Doc → Option DocNum
new_doc entries doc = if was_seen entries doc then None else Some doc.num

-- a hit of this document, if the test is passed
abbrev pub hit_if : Bool → ℤ → Option DocNum → Option Hit
hit_if passed b None = None
hit_if passed b (Some doc) = if passed then Some (record { doc = doc; first = b }) else None

-- the rows that the next step may have, each with what f gives
abbrev pub over_rows : Tables → List Step → ℤ → Env → Option Reach → (Reach → Row → List Hit) → List Hit
over_rows T path b env None f = []
over_rows T path b env (Some r) f = flat_map (f r) (next_rows T path b env r)

module _ (T : Tables) (p : Probe) (b : ℤ) where
  -- the rest of the path exists beside these rows, and the body is true of them
  abbrev pub holds_here : List Reach → Env → Bool
  holds_here order env = rest_of T p.path b order env && truth T (pos 0) p.body env

  -- the steps that this may take; none for the rest, if it is known to exist
  abbrev pub cost_here : Bool → List Reach → Env → ℕ
  cost_here sure order env =
      (if sure then 0 else rest_cost T p.path b order env) + (if rest_of T p.path b order env then work T p.body env else 0)

module _ (entries : List Entry) (T : Tables) (p : Probe) (b : ℤ) where
  -- the hit of the query's document with the mark b, if it has a row and isn't in the box; the others if it has none
  abbrev pub asked_or : List Reach → Env → Option Row → List Hit → List Hit
  asked_or order env None others = others
  asked_or order env (Some (OfDoc d)) others = option_to_list (hit_if (holds_here T p b order env) b (new_doc entries d))
  asked_or order env (Some (OfNote n)) others = []

  -- the hits beside the rows of env: the nearest step's rows next, until the query's document has a row
  abbrev pub hits_over : List Reach → Env → List Hit
  hits_over [] env = asked_or [] env (lookup 0 env) []
  hits_over (x ∷ rs) env =
      asked_or (x ∷ rs) env (lookup 0 env) (over_rows T p.path b env (further p.path b env) (λ r row. hits_over rs (bind r.var row env)))

abbrev pub has_more : List Reach → Bool
has_more [] = false
has_more (x ∷ xs) = true

-- are the query's documents walked next, and is the rest the same beside each of them? Then it is looked for once, before
abbrev pub is_once : List Step → Env → List Reach → Var → Bool
is_once path env rs v = (has_more rs && nat_eq v.0 0) && path_apart path env v

module _ (T : Tables) (p : Probe) (b : ℤ) where
  -- are the next step's rows walked: unless the rest is looked for before, and there is none
  abbrev pub is_walked : Bool → List Reach → Env → Bool
  is_walked once order env = not once || rest_of T p.path b order env

  abbrev pub once_cost : Bool → List Reach → Env → ℕ → ℕ
  once_cost once order env walk = (if once then rest_cost T p.path b order env else 0) + (if is_walked once order env then walk else 0)

-- some documents are passed over, and nothing is evaluated for them
module _ (passed : Doc → Bool) (T : Tables) (p : Probe) (b : ℤ) where
  abbrev pub asked_cost : Bool → List Reach → Env → Option Row → ℕ → ℕ
  asked_cost sure order env None others = others
  asked_cost sure order env (Some (OfDoc d)) others = if passed d then 0 else cost_here T p b sure order env
  asked_cost sure order env (Some (OfNote n)) others = 0

  -- the steps that this may take
  abbrev pub work_over : Bool → List Reach → Env → ℕ
  work_over sure [] env = asked_cost sure [] env (lookup 0 env) 0
  work_over sure (x ∷ rs) env =
      asked_cost sure (x ∷ rs) env (lookup 0 env) (cost_of (further p.path b env)
      (λ r. once_cost T p b (is_once p.path env rs r.var) (x ∷ rs) env
      (total (λ row. 1 + work_over (is_once p.path env rs r.var) rs (bind r.var row env)) (next_rows T p.path b env r))))
