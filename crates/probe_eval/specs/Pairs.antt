-- A probe seen as a test of a document and a driving row.
use Rattle.std.specs.Prelude.{◌≡◌, ◌↔◌, ℤ, pos, true, Some}
use Rattle.tap_rows.specs.declared.rows.Doc.{Doc}
use Rattle.tap_rows.specs.declared.tables.Tables.{Tables}
use Rattle.tql_core.specs.Holds.{truth}
use Rattle.tql_core.specs.Row.{OfDoc}
use Rattle.tap_rows.specs.Kept.{In}
use Rattle.tql_core.specs.Values.{Env, bind, value}
use Rattle.time_marks.specs.Found.{IsProbe}
use Rattle.time_marks.specs.Marks.{document_var}
use Rattle.time_marks.specs.Probes.{Probe, finds}
use Rattle.probe_eval.specs.Rests.{Rest}
use Rattle.probe_eval.specs.Runs.{starts}

-- there is a driving row with this mark beside the document, with which the rest of the path exists and the body is true
pub record Paired (T : Tables) (d : Doc) (b : ℤ) (p : Probe) : Type 0 where
  pub driver : Env
  pub is_start : In driver (starts T p)
  pub at : value p.at (bind document_var (OfDoc d) driver) ≡ Some b
  pub rest : Rest T p.path b (bind document_var (OfDoc d) driver)
  pub body : truth T (pos 0) p.body (bind document_var (OfDoc d) driver) ≡ true

-- a probe finds a document with a mark if and only if there is such a row: its body names the two alone
abbrev pub ProbesTestPairs : Type 0
ProbesTestPairs = (T : Tables) (d : Doc) (b : ℤ) (p : Probe) → IsProbe p → In d T.docs → ((finds T d b p ≡ true) ↔ Paired T d b p)
