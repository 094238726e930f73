-- The tables of the store, and its statements.
use Rattle.std.specs.Prelude.{true, false, Bool, [], ◌∷◌, Some, codes, List, ℕ, pos, take, get_or}
use Rattle.sqlite_value.specs.declared.value.Value.TheVariants.{Null, Int}
use Rattle.sqlite_value.specs.declared.keys.Collation.TheVariants.{Binary}
use Rattle.sqlite_schema.specs.declared.schema.Table.{Table}
use Rattle.sqlite_schema.specs.declared.schema.Column.{Column}
use Rattle.sqlite_schema.specs.declared.schema.Schema.{Schema}
use Rattle.sqlite_schema.specs.declared.schema.Kind.{Kind}
use Rattle.sqlite_schema.specs.declared.schema.Kind.TheVariants.{Integer, Blob}
use Rattle.sqlite_sql.specs.Term.{Term, lit, col, op2}
use Rattle.sqlite_sql.specs.declared.ops.BinaryOp.TheVariants.{Compare}
use Rattle.sqlite_sql.specs.declared.ops.CompareOp.TheVariants.{Eq}

abbrev pub a_column : List ℕ → Kind → Bool → Column
a_column name kind not_null = record { name = name; kind = kind; is_strict = true; not_null = not_null; default = Null; collation = Binary }

-- the column of the numbers, another of integers, and one of bytes
abbrev pub num_column : Column
num_column = a_column (codes "num") Integer false

abbrev pub int_column : List ℕ → Column
int_column name = a_column name Integer true

abbrev pub blob_column : List ℕ → Column
blob_column name = a_column name Blob true

abbrev pub a_table : List ℕ → ℕ → List Column → List Term → Table
a_table name tree columns checks = record {
  name = name;
  tree = tree;
  columns = columns;
  key = Some 0;
  primary = 0 ∷ [];
  uniques = [];
  orders = [];
  checks = checks;
  references = [];
  computed = [];
  stamps = record { places = []; terms = []; formats = [] };
  is_counted = false;
}

abbrev pub meta_at : ℕ → Table
meta_at tree =
    a_table (codes "meta") tree
    (a_column (codes "id") Integer false ∷ int_column (codes "version") ∷ []) (op2 (Compare Eq Binary) (col 1 0) (lit (Int (pos 1))) ∷ [])

abbrev pub docs_at : ℕ → Table
docs_at tree = a_table (codes "docs") tree (num_column ∷ int_column (codes "arrival") ∷ blob_column (codes "body") ∷ []) []

abbrev pub notes_at : ℕ → Table
notes_at tree =
    a_table (codes "notes") tree
    (num_column ∷ int_column (codes "doc") ∷ blob_column (codes "author") ∷ blob_column (codes "kind")
    ∷ int_column (codes "value") ∷ int_column (codes "arrival") ∷ blob_column (codes "body") ∷ []) []

abbrev pub queries_at : ℕ → Table
queries_at tree =
    a_table (codes "queries") tree
    (num_column ∷ blob_column (codes "owner") ∷ blob_column (codes "name") ∷ blob_column (codes "source") ∷ int_column (codes "arrival")
    ∷ []) []

abbrev pub runs_at : ℕ → Table
runs_at tree = a_table (codes "runs") tree (num_column ∷ int_column (codes "query") ∷ int_column (codes "moment") ∷ []) []

abbrev pub picks_at : ℕ → Table
picks_at tree =
    a_table (codes "picks") tree
    (num_column ∷ int_column (codes "query") ∷ int_column (codes "run") ∷ int_column (codes "doc") ∷ int_column (codes "second") ∷ []) []

abbrev pub filters_at : ℕ → Table
filters_at tree =
    a_table (codes "filters") tree
    (num_column ∷ blob_column (codes "owner") ∷ blob_column (codes "source") ∷ int_column (codes "arrival") ∷ []) []

-- no tables
abbrev pub no_schema : Schema
no_schema = record { tables = []; indexes = []; views = [] }

-- the tables of the store, each in the tree of its place, in the order in which they are made
abbrev pub store_tables : List Table
store_tables = meta_at 0 ∷ docs_at 1 ∷ notes_at 2 ∷ queries_at 3 ∷ runs_at 4 ∷ picks_at 5 ∷ filters_at 6 ∷ []

abbrev pub store_schema : Schema
store_schema = record { tables = store_tables; indexes = []; views = [] }

-- the schema with that many of the tables
abbrev pub schema_prefix : ℕ → Schema
schema_prefix n = record { tables = take n store_tables; indexes = []; views = [] }

-- ---- the statements

abbrev pub create_meta : List ℕ
create_meta = codes "CREATE TABLE IF NOT EXISTS meta (id INTEGER PRIMARY KEY CHECK (id = 1), version INTEGER NOT NULL) STRICT"

abbrev pub create_docs : List ℕ
create_docs = codes "CREATE TABLE IF NOT EXISTS docs (num INTEGER PRIMARY KEY, arrival INTEGER NOT NULL, body BLOB NOT NULL) STRICT"

abbrev pub create_notes : List ℕ
create_notes =
    codes
    "CREATE TABLE IF NOT EXISTS notes (num INTEGER PRIMARY KEY, doc INTEGER NOT NULL, author BLOB NOT NULL, kind BLOB NOT NULL, value INTEGER NOT NULL, arrival INTEGER NOT NULL, body BLOB NOT NULL) STRICT"

abbrev pub create_queries : List ℕ
create_queries =
    codes
    "CREATE TABLE IF NOT EXISTS queries (num INTEGER PRIMARY KEY, owner BLOB NOT NULL, name BLOB NOT NULL, source BLOB NOT NULL, arrival INTEGER NOT NULL) STRICT"

abbrev pub create_runs : List ℕ
create_runs = codes "CREATE TABLE IF NOT EXISTS runs (num INTEGER PRIMARY KEY, query INTEGER NOT NULL, moment INTEGER NOT NULL) STRICT"

abbrev pub create_picks : List ℕ
create_picks =
    codes
    "CREATE TABLE IF NOT EXISTS picks (num INTEGER PRIMARY KEY, query INTEGER NOT NULL, run INTEGER NOT NULL, doc INTEGER NOT NULL, second INTEGER NOT NULL) STRICT"

abbrev pub create_filters : List ℕ
create_filters =
    codes
    "CREATE TABLE IF NOT EXISTS filters (num INTEGER PRIMARY KEY, owner BLOB NOT NULL, source BLOB NOT NULL, arrival INTEGER NOT NULL) STRICT"

-- the texts that make the tables, in this order
abbrev pub create_texts : List (List ℕ)
create_texts = create_meta ∷ create_docs ∷ create_notes ∷ create_queries ∷ create_runs ∷ create_picks ∷ create_filters ∷ []

-- the text that makes the table of this place
abbrev pub create_text : ℕ → List ℕ
create_text table = get_or create_texts table []

abbrev pub insert_doc : List ℕ
insert_doc = codes "INSERT INTO docs (num, arrival, body) VALUES (?1, ?2, ?3)"

abbrev pub insert_note : List ℕ
insert_note = codes "INSERT INTO notes (num, doc, author, kind, value, arrival, body) VALUES (?1, ?2, ?3, ?4, ?5, ?6, ?7)"

abbrev pub insert_query : List ℕ
insert_query = codes "INSERT INTO queries (num, owner, name, source, arrival) VALUES (?1, ?2, ?3, ?4, ?5)"

abbrev pub insert_run : List ℕ
insert_run = codes "INSERT INTO runs (num, query, moment) VALUES (?1, ?2, ?3)"

abbrev pub insert_pick : List ℕ
insert_pick = codes "INSERT INTO picks (num, query, run, doc, second) VALUES (?1, ?2, ?3, ?4, ?5)"

-- the insert of eight picks at once
abbrev pub insert_eight : List ℕ
insert_eight =
    codes
    "INSERT INTO picks (num, query, run, doc, second) VALUES (?1, ?2, ?3, ?4, ?5), (?6, ?7, ?8, ?9, ?10), (?11, ?12, ?13, ?14, ?15), (?16, ?17, ?18, ?19, ?20), (?21, ?22, ?23, ?24, ?25), (?26, ?27, ?28, ?29, ?30), (?31, ?32, ?33, ?34, ?35), (?36, ?37, ?38, ?39, ?40)"

abbrev pub insert_filter : List ℕ
insert_filter = codes "INSERT INTO filters (num, owner, source, arrival) VALUES (?1, ?2, ?3, ?4)"

abbrev pub select_docs : List ℕ
select_docs = codes "SELECT num, arrival, body FROM docs ORDER BY num"

abbrev pub select_notes : List ℕ
select_notes = codes "SELECT num, doc, author, kind, value, arrival, body FROM notes ORDER BY num"

abbrev pub select_queries : List ℕ
select_queries = codes "SELECT num, owner, name, source, arrival FROM queries ORDER BY num"

abbrev pub select_runs : List ℕ
select_runs = codes "SELECT num, query, moment FROM runs ORDER BY num"

abbrev pub select_picks : List ℕ
select_picks = codes "SELECT num, query, run, doc, second FROM picks ORDER BY num"

abbrev pub select_filters : List ℕ
select_filters = codes "SELECT num, owner, source, arrival FROM filters ORDER BY num"

abbrev pub select_meta : List ℕ
select_meta = codes "SELECT id, version FROM meta ORDER BY id"

abbrev pub replace_meta : List ℕ
replace_meta = codes "INSERT OR REPLACE INTO meta (id, version) VALUES (1, 2)"
