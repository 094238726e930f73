-- The rows of the next step of a path that are walked.
use Rattle.std.specs.Prelude.{ℤ, Bool, not, ◌&&◌, ◌||◌, List, filter, unwrap_or, int_le, if◌then◌else◌}
use Rattle.std.specs.List.{flat_map, list_all}
use Rattle.tap_rows.specs.declared.tables.Tables.{Tables}
use Rattle.tql_tree.specs.declared.table.Table.{Table}
use Rattle.tql_core.specs.declared.term.Var.{Var}
use Rattle.tql_core.specs.declared.atom.Atom.{Atom}
use Rattle.tql_core.specs.Row.{Row, arrival}
use Rattle.tql_core.specs.Values.{Env}
use Rattle.time_marks.specs.declared.mark.Step.{Step}
use Rattle.access_plan.specs.declared.access.Access.{Access}
use Rattle.access_plan.specs.declared.reach.Reach.{Reach}
use Rattle.access_plan.specs.Accesses.{accesses_by, is_held, is_held_or}
use Rattle.probe_eval.specs.Cuts.{passes_cut}
use Rattle.probe_eval.specs.Open.{atom_known}
use Rattle.probe_eval.specs.Work.{all_rows_by, rows_by, is_list, shortest}

-- the accesses to a step's rows that guards of the path give, beside the rows of env
abbrev pub step_accesses : List Step → Env → Var → Table → List Access
step_accesses path env v t = flat_map (λ (step : Step). accesses_by (is_held env) v t step.guards) path

-- the access by which they are walked: the shortest of these, or that of the reach if there is none
abbrev pub step_access : Tables → List Step → Env → Reach → Access
step_access T path env r = unwrap_or (shortest T env (step_accesses path env r.var r.table)) r.access

-- is the guard true with the row, if it can be evaluated with it and cuts a list?
abbrev pub passes_open : Var → Env → Atom → Row → Bool
passes_open v env a row = not (atom_known (is_held_or env v) a) || passes_cut v env a row

abbrev pub passes_guards : Var → Env → List Atom → Row → Bool
passes_guards v env guards row = list_all (λ a. passes_open v env a row) guards

-- is each such guard of the path?
abbrev pub passes_path : Var → Env → List Step → Row → Bool
passes_path v env path row = list_all (λ (step : Step). passes_guards v env step.guards row) path

-- has the row come by a second, and may it go on by each such guard?
abbrev pub passes_step : Var → ℤ → Env → List Step → Row → Bool
passes_step v b env path row = int_le (arrival row) b && passes_path v env path row

-- of the rows of a posting list those that pass; of a whole table those that have come by a second; of other accesses all
abbrev pub step_rows : Access → Var → ℤ → Env → List Step → Tables → List Row
step_rows a v b env path T = if is_list a then filter (passes_step v b env path) (all_rows_by a env T) else rows_by b a env T

-- the rows of the next step that are walked
abbrev pub next_rows : Tables → List Step → ℤ → Env → Reach → List Row
next_rows T path b env r = step_rows (step_access T path env r) r.var b env path T
