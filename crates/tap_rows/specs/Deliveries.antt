-- What a query has delivered by the stored runs and picks, and what a run adds to them.
use Rattle.std.specs.Prelude.{ℕ, ◌+◌, ℤ, List, [], ◌∷◌, length, ◌==◌, filter, map}
use Rattle.std.specs.List.{position_or_len}
use Rattle.tap_base.specs.declared.numbers.QueryNum.{QueryNum}
use Rattle.tap_rows.specs.declared.tables.Tables.{Tables}
use Rattle.tap_rows.specs.declared.rows.RunRow.{RunRow}
use Rattle.tap_rows.specs.declared.rows.Pick.{Pick}
use Rattle.tap_rows.specs.declared.change.Change.{Change}
use Rattle.tap_rows.specs.declared.change.Change.TheVariants.{RunDone}
use Rattle.tap_rows.specs.declared.results.Hit.{Hit}
use Rattle.tap_rows.specs.declared.results.Entry.{Entry}
use Rattle.tap_rows.specs.Results.{Truth, runs_of, covered, fresh_in}

-- the place, from 1, of the run of this number among a query's runs
abbrev pub run_ordinal : ℕ → ℕ → List RunRow → ℕ
run_ordinal num query runs = position_or_len (λ run. run.num == num) (runs_of query runs) + 1

-- a pick as an entry of its query's box
abbrev pub picked : List RunRow → Pick → Entry
picked runs pick = record { doc = pick.doc; first = pick.first; run = run_ordinal pick.run pick.query.0 runs }

-- the picks of a query, in order
abbrev pub picks_of : ℕ → List Pick → List Pick
picks_of query picks = filter (λ pick. pick.query.0 == query) picks

-- what a query has delivered: its stored picks in order, each with the ordinal of its run
abbrev pub delivered : ℕ → Tables → List Entry
delivered query tables = map (picked tables.runs) (picks_of query tables.picks)

-- what a run at this moment delivers: the documents that are given for the first time since the query's last run
abbrev pub run_hits : Truth → ℤ → Tables → ℕ → ℤ → List Hit
run_hits truth start tables query moment = fresh_in truth tables start (covered start query tables.runs) moment

-- one pick for each hit, from this number on
abbrev pub pick_rows : ℕ → QueryNum → ℕ → List Hit → List Pick
pick_rows num query run [] = []
pick_rows num query run (hit ∷ hits) =
    record { num = num; query = query; run = run; doc = hit.doc; first = hit.first } ∷ pick_rows (num + 1) query run hits

-- the next run
abbrev pub next_run : Tables → QueryNum → ℤ → RunRow
next_run tables query moment = record { num = length tables.runs + 1; query = query; moment = moment }

-- the rows that a run adds: itself, and a pick for each document that is fresh since the last run, or since the start if there
-- was none
abbrev pub run_change : Truth → ℤ → Tables → QueryNum → ℤ → Change
run_change truth start tables query moment =
    RunDone (next_run tables query moment)
    (pick_rows (length tables.picks + 1) query (length tables.runs + 1) (run_hits truth start tables query.0 moment))
