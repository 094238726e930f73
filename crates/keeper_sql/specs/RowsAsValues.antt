-- The rows of the store as a statement is given them, as a tree holds them, and as they are read from it.
use Rattle.std.specs.Prelude.{◌≡◌, ◌^◌, ℕ, ℤ, pos, negsuc, nat_lt, if◌then◌else◌, ◌==◌}
use Rattle.std.specs.Prelude.{List, [], ◌∷◌, ◌++◌, map, filter, Option, Some, None}
use Rattle.tap_rows.specs.declared.rows.Doc.{Doc}
use Rattle.tap_rows.specs.declared.rows.Note.{Note}
use Rattle.tap_rows.specs.declared.rows.QueryRow.{QueryRow}
use Rattle.tap_rows.specs.declared.rows.RunRow.{RunRow}
use Rattle.tap_rows.specs.declared.rows.Pick.{Pick}
use Rattle.tap_rows.specs.declared.rows.FilterRow.{FilterRow}
use Rattle.tap_rows.specs.declared.tables.Tables.{Tables}
use Rattle.tap_rows.specs.declared.change.Change.{Change}
use Rattle.tap_rows.specs.declared.change.Change.TheVariants.{Docs, OneNote, OneQuery, RunDone, OneFilter}
use Rattle.tap_rows.specs.Tables.{no_rows}
use Rattle.sqlite_value.specs.declared.value.Value.{Value}
use Rattle.sqlite_value.specs.declared.value.Value.TheVariants.{Null, Int, Real, Text, Blob}
use Rattle.sqlite_value.specs.Order.{Row, column}
use Rattle.sqlite.specs.declared.types.Type.{«Type» as SqlType}
use Rattle.sqlite.specs.declared.types.Type.TheVariants as kind
use Rattle.sqlite_trees.specs.Tree.{Trees}
use Rattle.sqlite_trees.specs.Objects.{catalog_tree}
use Rattle.sqlite_catalog.specs.Listing.{is_table_row}

-- ---- as a statement is given them

-- a document as a statement is given it
abbrev pub given_doc : Doc → Row
given_doc d = Int (pos d.num.0) ∷ Int d.arrival ∷ Blob d.text ∷ []

-- a note as a statement is given it
abbrev pub given_note : Note → Row
given_note n = Int (pos n.num.0) ∷ Int (pos n.doc.0) ∷ Blob n.author ∷ Blob n.kind ∷ Int n.value ∷ Int n.arrival ∷ Blob n.text ∷ []

-- a query as a statement is given it
abbrev pub given_query : QueryRow → Row
given_query q = Int (pos q.num.0) ∷ Blob q.owner ∷ Blob q.name ∷ Blob q.source ∷ Int q.arrival ∷ []

-- a run as a statement is given it
abbrev pub given_run : RunRow → Row
given_run r = Int (pos r.num) ∷ Int (pos r.query.0) ∷ Int r.moment ∷ []

-- a pick as a statement is given it
abbrev pub given_pick : Pick → Row
given_pick p = Int (pos p.num) ∷ Int (pos p.query.0) ∷ Int (pos p.run) ∷ Int (pos p.doc.0) ∷ Int p.first ∷ []

-- a filter as a statement is given it
abbrev pub given_filter : FilterRow → Row
given_filter f = Int (pos f.num) ∷ Blob f.owner ∷ Blob f.source ∷ Int f.arrival ∷ []

-- as a tree holds it: the column of the key is the row's key, and stands empty in its place
abbrev pub as_kept : Row → Row
as_kept [] = []
as_kept (key ∷ values) = key ∷ Null ∷ values

-- ---- as they are read

-- a number that isn't between 0 and 4,294,967,295 is read as 0
abbrev pub number_in_value : Value → ℕ
number_in_value (Int (pos n)) = if nat_lt n (2 ^ 32) then n else 0
number_in_value (Int (negsuc n)) = 0
number_in_value Null = 0
number_in_value (Real x) = 0
number_in_value (Text t) = 0
number_in_value (Blob b) = 0

abbrev pub integer_of : Value → ℤ
integer_of (Int n) = n
integer_of Null = pos 0
integer_of (Real x) = pos 0
integer_of (Text t) = pos 0
integer_of (Blob b) = pos 0

abbrev pub bytes_of : Value → List ℕ
bytes_of (Blob b) = b
bytes_of Null = []
bytes_of (Int n) = []
bytes_of (Real x) = []
bytes_of (Text t) = []

-- a document as it is read: a number that is out of range is read as 0, a value of another type as 0 or as no bytes
abbrev pub doc_in : Row → Doc
doc_in r = record { num = record { 0 = number_in_value (column r 0) }; arrival = integer_of (column r 2); text = bytes_of (column r 3) }

-- a note as it is read, by the same rules as a document
abbrev pub note_in : Row → Note
note_in r = record {
  num = record { 0 = number_in_value (column r 0) };
  doc = record { 0 = number_in_value (column r 2) };
  author = bytes_of (column r 3);
  kind = bytes_of (column r 4);
  value = integer_of (column r 5);
  arrival = integer_of (column r 6);
  text = bytes_of (column r 7);
}

-- a query as it is read, by the same rules as a document
abbrev pub query_in : Row → QueryRow
query_in r = record {
  num = record { 0 = number_in_value (column r 0) };
  owner = bytes_of (column r 2);
  name = bytes_of (column r 3);
  source = bytes_of (column r 4);
  arrival = integer_of (column r 5);
}

-- a run as it is read, by the same rules as a document
abbrev pub run_in : Row → RunRow
run_in r =
    record { num = number_in_value (column r 0); query = record { 0 = number_in_value (column r 2) }; moment = integer_of (column r 3) }

-- a pick as it is read, by the same rules as a document
abbrev pub pick_in : Row → Pick
pick_in r = record {
  num = number_in_value (column r 0);
  query = record { 0 = number_in_value (column r 2) };
  run = number_in_value (column r 3);
  doc = record { 0 = number_in_value (column r 4) };
  first = integer_of (column r 5);
}

-- a filter as it is read, by the same rules as a document
abbrev pub filter_in : Row → FilterRow
filter_in r = record {
  num = number_in_value (column r 0);
  owner = bytes_of (column r 2);
  source = bytes_of (column r 3);
  arrival = integer_of (column r 4);
}

-- the version in the row of `meta`, if there is one
abbrev pub version_in : List Row → Option ℤ
version_in [] = None
version_in (r ∷ rs) = Some (integer_of (column r 2))

abbrev pub version_shown : List Row → Option ℤ
version_shown [] = None
version_shown (r ∷ rs) = Some (integer_of (column r 1))

-- ---- as a query shows them

abbrev pub show_version : Row → Row
show_version r = column r 0 ∷ column r 2 ∷ []

abbrev pub show_doc : Row → Row
show_doc r = column r 0 ∷ column r 2 ∷ column r 3 ∷ []

abbrev pub show_note : Row → Row
show_note r = column r 0 ∷ column r 2 ∷ column r 3 ∷ column r 4 ∷ column r 5 ∷ column r 6 ∷ column r 7 ∷ []

abbrev pub show_query : Row → Row
show_query r = column r 0 ∷ column r 2 ∷ column r 3 ∷ column r 4 ∷ column r 5 ∷ []

abbrev pub show_run : Row → Row
show_run r = column r 0 ∷ column r 2 ∷ column r 3 ∷ []

abbrev pub show_pick : Row → Row
show_pick r = column r 0 ∷ column r 2 ∷ column r 3 ∷ column r 4 ∷ column r 5 ∷ []

abbrev pub show_filter : Row → Row
show_filter r = column r 0 ∷ column r 2 ∷ column r 3 ∷ column r 4 ∷ []

-- ---- the types of their columns

abbrev pub version_kinds : List SqlType
version_kinds = kind.Integer ∷ kind.Integer ∷ []

abbrev pub doc_kinds : List SqlType
doc_kinds = kind.Integer ∷ kind.Integer ∷ kind.Blob ∷ []

abbrev pub note_kinds : List SqlType
note_kinds = kind.Integer ∷ kind.Integer ∷ kind.Blob ∷ kind.Blob ∷ kind.Integer ∷ kind.Integer ∷ kind.Blob ∷ []

abbrev pub query_kinds : List SqlType
query_kinds = kind.Integer ∷ kind.Blob ∷ kind.Blob ∷ kind.Blob ∷ kind.Integer ∷ []

abbrev pub run_kinds : List SqlType
run_kinds = kind.Integer ∷ kind.Integer ∷ kind.Integer ∷ []

abbrev pub pick_kinds : List SqlType
pick_kinds = kind.Integer ∷ kind.Integer ∷ kind.Integer ∷ kind.Integer ∷ kind.Integer ∷ []

abbrev pub filter_kinds : List SqlType
filter_kinds = kind.Integer ∷ kind.Blob ∷ kind.Blob ∷ kind.Integer ∷ []

-- ---- as they are read from what a query shows

abbrev pub doc_shown : Row → Doc
doc_shown r = record { num = record { 0 = number_in_value (column r 0) }; arrival = integer_of (column r 1); text = bytes_of (column r 2) }

abbrev pub note_shown : Row → Note
note_shown r = record {
  num = record { 0 = number_in_value (column r 0) };
  doc = record { 0 = number_in_value (column r 1) };
  author = bytes_of (column r 2);
  kind = bytes_of (column r 3);
  value = integer_of (column r 4);
  arrival = integer_of (column r 5);
  text = bytes_of (column r 6);
}

abbrev pub query_shown : Row → QueryRow
query_shown r = record {
  num = record { 0 = number_in_value (column r 0) };
  owner = bytes_of (column r 1);
  name = bytes_of (column r 2);
  source = bytes_of (column r 3);
  arrival = integer_of (column r 4);
}

abbrev pub run_shown : Row → RunRow
run_shown r =
    record { num = number_in_value (column r 0); query = record { 0 = number_in_value (column r 1) }; moment = integer_of (column r 2) }

abbrev pub pick_shown : Row → Pick
pick_shown r = record {
  num = number_in_value (column r 0);
  query = record { 0 = number_in_value (column r 1) };
  run = number_in_value (column r 2);
  doc = record { 0 = number_in_value (column r 3) };
  first = integer_of (column r 4);
}

abbrev pub filter_shown : Row → FilterRow
filter_shown r = record {
  num = number_in_value (column r 0);
  owner = bytes_of (column r 1);
  source = bytes_of (column r 2);
  arrival = integer_of (column r 3);
}

-- the tables that the trees of the store's schema hold
abbrev pub tables_in : Trees → Tables
tables_in db = record {
  docs = map doc_in (db 1);
  notes = map note_in (db 2);
  queries = map query_in (db 3);
  runs = map run_in (db 4);
  picks = map pick_in (db 5);
  filters = map filter_in (db 6);
}

-- the tables of a store; without a listed table they are empty
abbrev pub tables_listed : List Row → Trees → Tables
tables_listed [] db = no_rows
tables_listed (r ∷ rs) db = tables_in db

abbrev pub tables_of : Trees → Tables
tables_of db = tables_listed (filter is_table_row (db catalog_tree)) db

-- ---- the rows of a change, by tree

-- these rows in one tree, none in another
abbrev pub only : ℕ → List Row → ℕ → List Row
only tree rows t = if t == tree then rows else []

-- the rows of two writes, one after the other
abbrev pub appended_rows : (ℕ → List Row) → (ℕ → List Row) → ℕ → List Row
appended_rows first second t = first t ++ second t

-- the rows of a change, by the tree into which they are put
abbrev pub added_rows : Change → ℕ → List Row
added_rows (Docs docs) = only 1 (map (λ d. as_kept (given_doc d)) docs)
added_rows (OneNote note) = only 2 (as_kept (given_note note) ∷ [])
added_rows (OneQuery query) = only 3 (as_kept (given_query query) ∷ [])
added_rows (RunDone run picks) = appended_rows (only 4 (as_kept (given_run run) ∷ [])) (only 5 (map (λ p. as_kept (given_pick p)) picks))
added_rows (OneFilter filter) = only 6 (as_kept (given_filter filter) ∷ [])

-- the rows of a change are read back as they were written
abbrev pub IsReadBack : Change → Type 0
IsReadBack (Docs docs) = map doc_in (map (λ d. as_kept (given_doc d)) docs) ≡ docs
IsReadBack (OneNote note) = note_in (as_kept (given_note note)) ≡ note
IsReadBack (OneQuery query) = query_in (as_kept (given_query query)) ≡ query
IsReadBack (RunDone run picks) = (run_in (as_kept (given_run run)) ≡ run) × (map pick_in (map (λ p. as_kept (given_pick p)) picks) ≡ picks)
IsReadBack (OneFilter filter) = filter_in (as_kept (given_filter filter)) ≡ filter
