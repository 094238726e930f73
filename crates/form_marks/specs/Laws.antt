-- What is proved of the marks of a form.
use Rattle.std.specs.Prelude.{ℤ}
use Rattle.tap_rows.specs.declared.tables.Tables.{Tables}
use Rattle.tap_rows.specs.Kept.{In}
use Rattle.tql_core.specs.Condition.{Condition}
use Rattle.tql_core.specs.Scope.{IsQuery}
use Rattle.time_marks.specs.declared.window.Window.{Window}
use Rattle.time_marks.specs.Distinct.{distinct_probes}
use Rattle.time_marks.specs.Probes.{Probe}
use Rattle.monotone_rewrite.specs.Query.{window}
use Rattle.delta_rewrite.specs.Delta.{delta_window}
use Rattle.probe_eval.specs.Runs.{HasNoMark}
use Rattle.query_form.specs.Form.{form_of}

-- if no probe of a query as it is written has a mark in a window, no probe by which its form is evaluated has one
abbrev pub FormsHaveNoOtherMark : Type 0
FormsHaveNoOtherMark =
    (c : Condition) (start : ℤ) → IsQuery c → (T : Tables) (w : Window)
    → ((p : Probe) → In p (distinct_probes (window c start)) → HasNoMark T w p)
    → (p : Probe) → In p (distinct_probes (delta_window (form_of c) start)) → HasNoMark T w p
