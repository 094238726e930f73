-- What an engine is given of stored rows when it starts.
use Rattle.std.specs.Prelude.{◌≡◌, ◌≤◌, List, [], length}
use Rattle.tap_rows.specs.declared.rows.Doc.{Doc}
use Rattle.tap_rows.specs.declared.rows.QueryRow.{QueryRow}
use Rattle.tap_rows.specs.declared.rows.RunRow.{RunRow}
use Rattle.tap_rows.specs.declared.rows.Pick.{Pick}
use Rattle.tap_rows.specs.Kept.{Each, HasRun, RunsFrom}
use Rattle.tql_core.specs.declared.cond.Cond.{Cond}
use Rattle.restart_core.specs.Readings.{readings_of, as_read}
use Rattle.tap_kept.specs.Starting.{PicksAreDistinct}
use Rattle.tap_base.specs.Numbers.{IsMoment}

-- stored runs and picks: the runs are numbered from 1, each pick is of a run and its query, and no query picks a document twice
pub record AreDeliveries (runs : List RunRow) (picks : List Pick) : Type 0 where
  pub numbered : RunsFrom 1 runs
  pub picked : Each (λ pick. HasRun pick.run pick.query.0 runs) picks
  pub once : PicksAreDistinct [] picks

-- stored queries with the conditions of their texts, each of which arrived at a moment
pub record HaveConditions (rows : List QueryRow) (conditions : List Cond) : Type 0 where
  pub conds : readings_of rows ≡ as_read conditions
  pub arrivals : Each (λ row. IsMoment row.arrival) rows

-- no document is longer than a message may be
abbrev pub AreShortDocs : List Doc → Type 0
AreShortDocs docs = Each (λ doc. length doc.text ≤ 1048576) docs
