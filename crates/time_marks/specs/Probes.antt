-- Probes of a window query, and what they find.
use Rattle.std.specs.Prelude.{ℤ, pos, Bool, false, ◌&&◌, not, Option, Some, None, List, [], ◌∷◌, int_le, nat_eq, if◌then◌else◌}
use Rattle.std.specs.List.{list_any, list_all, filter}
use Rattle.std.specs.Ordering.{int_eq}
use Rattle.tap_rows.specs.declared.rows.Doc.{Doc}
use Rattle.tap_rows.specs.declared.tables.Tables.{Tables}
use Rattle.tap_rows.specs.declared.results.Hit.{Hit}
use Rattle.tap_rows.specs.Results.{hits_by}
use Rattle.tap_rows.specs.Seconds.{least_second}
use Rattle.tql_core.specs.declared.term.Term.{Term}
use Rattle.tql_core.specs.Condition.{Condition}
use Rattle.tql_core.specs.Row.{Row, OfDoc, arrival, rows_of}
use Rattle.tql_core.specs.Values.{Env, bind, value, true_atom}
use Rattle.tql_core.specs.Holds.{truth}
use Rattle.time_marks.specs.declared.mark.Step.{Step}
use Rattle.time_marks.specs.declared.window.Window.{Window}

-- a path of rows, a mark and a body
pub record Probe : Type 0 where
  pub path : List Step
  pub at : Term
  pub body : Condition

-- the rows that a step may take: the document itself for m, and any row of the table for another variable
abbrev pub choices : Tables → Doc → Step → List Row
choices T d step = if nat_eq step.var.0 0 then OfDoc d ∷ [] else rows_of step.table T

-- some rows for the path, bound after those of env, pass the test
abbrev pub some_rows : Tables → Doc → List Step → Env → (Env → Bool) → Bool
some_rows T d [] env test = test env
some_rows T d (step ∷ path) env test = list_any (λ r. some_rows T d path (bind step.var r env) test) (choices T d step)

-- is the second there, and is it this one?
abbrev pub is_value : Option ℤ → ℤ → Bool
is_value None b = false
is_value (Some x) b = int_eq x b

-- the guards of all steps are true
abbrev pub guards_true : List Step → Env → Bool
guards_true path env = list_all (λ step. list_all (λ a. true_atom a env) step.guards) path

-- the rows of the path arrived by b
abbrev pub come_by : ℤ → Env → Bool
come_by b env = list_all (λ bound. int_le (arrival bound.row) b) env

-- the rows of env make the probe true at b; the body speaks of no now, so its second 0 doesn't matter
abbrev pub is_satisfied : Probe → Tables → ℤ → Env → Bool
is_satisfied p T b env = guards_true p.path env && is_value (value p.at env) b && come_by b env && truth T (pos 0) p.body env

-- the probe finds the document at b: there are rows for its path that have come by b, all guards hold, the mark has the value b,
-- and the body holds
abbrev pub finds : Tables → Doc → ℤ → Probe → Bool
finds T d b p = some_rows T d p.path [] (is_satisfied p T b)

-- some probe finds the document with the mark b
abbrev pub found : List Probe → Tables → Doc → ℤ → Bool
found X T d b = list_any (finds T d b) X

-- the least mark in the window with which some probe finds the document
abbrev pub least : List Probe → Tables → Doc → Window → Option ℤ
least X T d w = least_second (found X T d) w.low w.high

-- the documents that some probe finds in the window, each with its least mark there, in order of it, then of number
abbrev pub window_meaning : List Probe → Tables → Window → List Hit
window_meaning X T w = hits_by (λ d. least X T d w) T.docs

-- the documents that some probe finds in the window, without those that were seen
abbrev pub meaning_without : (Doc → Bool) → List Probe → Tables → Window → List Hit
meaning_without seen X T w = hits_by (λ d. least X T d w) (filter (λ d. not (seen d)) T.docs)
