-- What is left of each probe's driving rows.
use Rattle.std.specs.Prelude.{◌≡◌, ℕ, ◌+◌, ◌≤ℤ◌, ℤ, Bool, true, false, Option, Some, None, List, [], ◌∷◌, ◌++◌, drop}
use Rattle.std.specs.Prelude.{length, map, filter}
use Rattle.std.specs.List.{flat_map}
use Rattle.std.specs.Option.{option_map}
use Rattle.tap_rows.specs.declared.results.Hit.{Hit}
use Rattle.tap_rows.specs.Kept.{In}
use Rattle.tql_core.specs.declared.term.Var.{Var}
use Rattle.tql_core.specs.Row.{Row}
use Rattle.tql_core.specs.Values.{Env, bind, value}
use Rattle.time_marks.specs.declared.window.Window.{Window}
use Rattle.time_marks.specs.Probes.{Probe}
use Rattle.time_marks.specs.Seeks.{lies_in}
use Rattle.probe_eval.specs.Drivers.{hits_at, cost_at, mark_in}
use Rattle.probe_eval.specs.Nested.{was_seen, hits_over, work_over}
use Rattle.probe_eval.specs.Searches.{searched, HasBody, HasSlots}
use Rattle.probe_eval.specs.Work.{total}
use Rattle.wake_plan.specs.declared.due.DrivingRow.{DrivingRow}
use Rattle.wake_plan.specs.declared.turn.Turn.{Turn}

-- is there a hit?
abbrev pub has_hit : List Hit → Bool
has_hit [] = false
has_hit (h ∷ hs) = true

-- bound rows with their mark, if they have one
abbrev pub with_mark : Env → Option ℤ → Option DrivingRow
with_mark env None = None
with_mark env (Some b) = Some (record { env = env; mark = b })

-- bound rows with their mark, if it lies in the window
abbrev pub due_at : Window → Probe → Env → Option DrivingRow
due_at w p env = with_mark env (mark_in w (value p.at env))

-- each row bound alone
abbrev pub bound_alone : Var → List Row → List Env
bound_alone v rows = map (λ row. bind v row []) rows

-- the first row bound alone, with its mark
abbrev pub first_due : Window → Probe → Var → List Row → Option DrivingRow
first_due w p v [] = None
first_due w p v (row ∷ rows) = due_at w p (bind v row [])

-- the bound rows that are due, or none
abbrev pub due_envs : Option DrivingRow → List Env
due_envs None = []
due_envs (Some due) = due.env ∷ []

-- the mark of what is due
abbrev pub due_mark : Option DrivingRow → Option ℤ
due_mark due = option_map (λ due. due.mark) due

-- the driving rows that are left, each bound alone; the one that was read ahead comes first
abbrev pub left : Turn → List Env
left t = due_envs t.next ++ bound_alone t.var t.rows

-- the hits beside what is due
abbrev pub due_hits : Turn → Option DrivingRow → List Hit
due_hits t None = []
due_hits t (Some due) = hits_over t.search.seen.now t.search.index.now (searched t.search) due.mark t.order.now due.env

-- the steps that looking for them may take
abbrev pub due_cost : Turn → Option DrivingRow → ℕ
due_cost t None = 0
due_cost t (Some due) = work_over (was_seen t.search.seen.now) t.search.index.now (searched t.search) due.mark false t.order.now due.env

-- the hits beside the rows that are left
abbrev pub hits_left : Window → Turn → List Hit
hits_left w t = flat_map (hits_at t.search.seen.now t.search.index.now w (searched t.search) t.order.now) (left t)

-- a step for each row that is left with its mark in the window, and the cost beside it
abbrev pub cost_left : Window → Turn → ℕ
cost_left u t =
    total (λ env. 1 + cost_at (λ b. was_seen t.search.seen.now) t.search.index.now u (searched t.search) t.order.now env)
    (filter (λ env. lies_in u (value t.search.probe.now.at env)) (left t))

-- each has a mark in the window, none a lesser one than those before it
abbrev pub AreRising : Window → Probe → List Env → Type 0
AreRising w p [] = Unit {0}
AreRising w p (env ∷ envs) =
    (lies_in w (value p.at env) ≡ true)
    × ((b c : ℤ) (e : Env) → value p.at env ≡ Some b → In e envs → value p.at e ≡ Some c → b ≤ℤ c)
    × AreRising w p envs

-- what was read ahead has its mark; if nothing was read, no row is left
abbrev pub IsAhead : Probe → Option DrivingRow → List Row → Type 0
IsAhead p None rows = rows ≡ []
IsAhead p (Some due) rows = value p.at due.env ≡ Some due.mark

-- the rows that are left can be evaluated, and their marks rise
pub record IsTurn (w : Window) (t : Turn) : Type 0 where
  pub node : HasBody t.search
  pub room : (env : Env) → In env (left t) → HasSlots t.search (length env + length t.order.now)
  pub rising : AreRising w (searched t.search) (left t)
  pub ahead : IsAhead (searched t.search) t.next t.rows

-- the turn with the next row read ahead
abbrev pub passed : Window → Turn → Turn
passed w t = record t { rows = drop 1 t.rows; next = first_due w (searched t.search) t.var t.rows }

-- the turn after its row was looked at: with the next row read ahead, if nothing was found
abbrev pub gone_on : Window → Turn → Option ℤ → Turn
gone_on w t None = passed w t
gone_on w t (Some b) = t
