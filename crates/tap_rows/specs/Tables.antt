-- The tables after a change.
use Rattle.std.specs.Prelude.{[], ◌∷◌, ◌++◌}
use Rattle.tap_rows.specs.declared.tables.Tables.{Tables}
use Rattle.tap_rows.specs.declared.change.Change.{Change}
use Rattle.tap_rows.specs.declared.change.Change.TheVariants.{Docs, OneNote, OneQuery, RunDone, OneFilter}

-- the empty tables
abbrev pub no_rows : Tables
no_rows = record { docs = []; notes = []; queries = []; runs = []; picks = []; filters = [] }

-- the tables with the rows of a change appended, in their order
abbrev pub after : Tables → Change → Tables
after tables (Docs docs) = record tables { docs = tables.docs ++ docs }
after tables (OneNote note) = record tables { notes = tables.notes ++ note ∷ [] }
after tables (OneQuery query) = record tables { queries = tables.queries ++ query ∷ [] }
after tables (RunDone run picks) = record tables { runs = tables.runs ++ run ∷ []; picks = tables.picks ++ picks }
after tables (OneFilter filter) = record tables { filters = tables.filters ++ filter ∷ [] }
