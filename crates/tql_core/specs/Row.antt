-- Rows of documents and notes.
use Rattle.std.specs.Prelude.{ℤ, Option, None, List, map}
use Rattle.tap_rows.specs.declared.rows.Doc.{Doc}
use Rattle.tap_rows.specs.declared.rows.Note.{Note}
use Rattle.tap_rows.specs.declared.tables.Tables.{Tables}
use Rattle.tql_tree.specs.declared.table.Table.{Table}
use Rattle.tql_tree.specs.declared.table.Table.TheVariants.{Docs, Notes}
use Rattle.tap_rows.specs.Fields.{fields}

-- a row of either table
pub data Row : Type 0 where
  OfDoc : Doc → Row
  OfNote : Note → Row

-- the second at which a row arrived
abbrev pub arrival : Row → ℤ
arrival (OfDoc doc) = doc.arrival
arrival (OfNote note) = note.arrival

-- the date, if the row has one
abbrev pub date : Row → Option ℤ
date (OfDoc doc) = (fields doc).date
date (OfNote note) = None

-- the rows of a table
abbrev pub rows_of : Table → Tables → List Row
rows_of Docs tables = map OfDoc tables.docs
rows_of Notes tables = map OfNote tables.notes
