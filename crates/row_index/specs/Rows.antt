-- The rows that an index owns.
use Rattle.std.specs.Prelude.{◌-◌, List, [], length, take}
use Rattle.tap_rows.specs.declared.tables.Tables.{Tables}
use Rattle.tap_rows.specs.declared.rows.Doc.{Doc}
use Rattle.tap_rows.specs.declared.rows.Note.{Note}

-- tables with these documents and notes, and no other rows
abbrev pub rows_alone : List Doc → List Note → Tables
rows_alone docs notes = record { docs = docs; notes = notes; queries = []; runs = []; picks = []; filters = [] }

-- without the last note
abbrev pub without_last_note : Tables → Tables
without_last_note tables = record tables { notes = take (length tables.notes - 1) tables.notes }
