-- The rows that are walked next on the way from a driving row to the query's document.
use Rattle.std.specs.Prelude.{◌≡◌, ℕ, suc, ◌+◌, ℤ, Bool, true, Option, Some, None, List, length}
use Rattle.std.specs.List.{flat_map}
use Rattle.tap_rows.specs.declared.rows.Doc.{Doc}
use Rattle.tap_rows.specs.declared.tables.Tables.{Tables}
use Rattle.tap_rows.specs.declared.results.Entry.{Entry}
use Rattle.tql_core.specs.Row.{Row}
use Rattle.tql_core.specs.Values.{Env, bind}
use Rattle.time_marks.specs.declared.mark.Step.{Step}
use Rattle.time_marks.specs.Probes.{Probe}
use Rattle.access_plan.specs.declared.reach.Reach.{Reach}
use Rattle.access_plan.specs.Views.{option_access, reach_at}
use Rattle.probe_eval.specs.declared.level.Level.{Level}
use Rattle.probe_eval.specs.Nexts.{IsSole}
use Rattle.probe_eval.specs.Open.{may_go}
use Rattle.probe_eval.specs.StepRows.{next_rows}
use Rattle.probe_eval.specs.Work.{total}
use Rattle.probe_eval.specs.Rests.{rest_of}
use Rattle.probe_eval.specs.Nested.{hits_over, work_over}

-- if it is said to be sure, the rest exists beside rows that may go on
abbrev pub IsSure : Tables → List Step → ℤ → List Reach → Env → Bool → Type 0
IsSure T path b order env sure = sure ≡ true → may_go path b env ≡ true → rest_of T path b order env ≡ true

-- the rows of the level
abbrev pub rows_at : Tables → List Step → ℤ → Env → Level → List Row
rows_at T path b env level = next_rows T path b env (reach_at level.reach)

-- the hits beside the rows of env are those beside each row of the level, and what is said to be sure is so
pub record IsLevel (entries : List Entry) (T : Tables) (p : Probe) (b : ℤ) (order : List Reach) (env : Env) (level : Level) : Type 0 where
  pub hits : hits_over entries T p b order env
      ≡ flat_map (λ row. hits_over entries T p b level.rest.now (bind level.reach.var row env)) (rows_at T p.path b env level)
  pub sure : (row : Row) → IsSure T p.path b level.rest.now (bind level.reach.var row env) level.sure
  pub sole : IsSole p.path env (reach_at level.reach) (option_access level.sole)
  pub fewer : length order ≡ suc (length level.rest.now)

-- the steps that its rows cost, if some documents are passed over
abbrev pub level_cost : (Doc → Bool) → Tables → Probe → ℤ → Env → Option Level → ℕ
level_cost passed T p b env None = 0
level_cost passed T p b env (Some level) =
    total (λ row. 1 + work_over passed T p b level.sure level.rest.now (bind level.reach.var row env)) (rows_at T p.path b env level)
