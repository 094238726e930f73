-- How a database holds the rows of the store, and what the calls of this crate do to it.
use Rattle.std.specs.Prelude.{zero, suc, ◌+◌, ◌≡◌, ◌⊎◌, ℕ, ℤ, pos, List, [], ◌∷◌, map, IsTrue, Bool, true, false}
use Rattle.tap_rows.specs.declared.tables.Tables.{Tables}
use Rattle.sqlite_value.specs.declared.value.Value.TheVariants.{Null, Int}
use Rattle.sqlite_value.specs.Order.{Row}
use Rattle.sqlite_trees.specs.Tree.{Trees, put_row}
use Rattle.sqlite_schema.specs.declared.schema.Schema.{Schema}
use Rattle.sqlite_keyed.specs.Keyed.{IsKeyedBy}
use Rattle.sqlite.specs.Effect.{Database, IsDatabase}
use Rattle.sqlite.specs.State.{State, HasCleanDisk}
use Rattle.keeper_sql.specs.Schema.{store_schema, no_schema}
pub use Rattle.keeper_sql.specs.RowsAsValues.{only, tables_in, tables_of}
use Rattle.keeper_sql.specs.RowsAsValues.{added_rows, IsReadBack}
use Rattle.tap_rows.specs.declared.change.Change.{Change}

-- the rows of a tree, after these were put one by one
abbrev pub put_all : List Row → List Row → List Row
put_all [] tree = tree
put_all (row ∷ rows) tree = put_all rows (put_row row tree)

-- rows were put into the trees
pub record Puts (rows : ℕ → List Row) (old new : Database) : Type 0 where
  pub sound : IsDatabase old → IsDatabase new
  pub schema : new.schema ≡ store_schema
  pub meta : new.trees 0 ≡ put_all (rows 0) (old.trees 0)
  pub docs : new.trees 1 ≡ put_all (rows 1) (old.trees 1)
  pub notes : new.trees 2 ≡ put_all (rows 2) (old.trees 2)
  pub queries : new.trees 3 ≡ put_all (rows 3) (old.trees 3)
  pub runs : new.trees 4 ≡ put_all (rows 4) (old.trees 4)
  pub picks : new.trees 5 ≡ put_all (rows 5) (old.trees 5)
  pub filters : new.trees 6 ≡ put_all (rows 6) (old.trees 6)

-- these trees are empty, from this one on
abbrev pub AreEmpty : ℕ → ℕ → Trees → Type 0
AreEmpty zero tree db = Unit {0}
AreEmpty (suc n) tree db = (db tree ≡ []) × AreEmpty n (tree + 1) db

-- that many of the tables are made, and empty
pub record IsMade (made : Schema) (tables : ℕ) (db : Database) : Type 0 where
  pub schema : db.schema ≡ made
  pub empty : AreEmpty tables 0 db.trees

-- ---- the version

-- the row of the version, or none yet
abbrev pub meta_row : ℤ → Row
meta_row version = Int (pos 1) ∷ Null ∷ Int version ∷ []

-- the version's row, or none yet
abbrev pub IsMeta : List Row → Type 0
IsMeta rows = (rows ≡ []) ⊎ ((version : ℤ) × (rows ≡ meta_row version ∷ []))

-- a store with one version at most has this one
abbrev pub IsAtVersion : Database → ℤ → Type 0
IsAtVersion db version = db.schema ≡ store_schema → IsMeta (db.trees 0) → db.trees 0 ≡ meta_row version ∷ []

-- this is the version now, and nothing else is changed
pub record WritesVersion (version : ℤ) (old new : Database) : Type 0 where
  pub sound : IsDatabase old → IsDatabase new
  pub schema : new.schema ≡ store_schema
  pub meta : new.trees 0 ≡ meta_row version ∷ []
  pub docs : new.trees 1 ≡ old.trees 1
  pub notes : new.trees 2 ≡ old.trees 2
  pub queries : new.trees 3 ≡ old.trees 3
  pub runs : new.trees 4 ≡ old.trees 4
  pub picks : new.trees 5 ≡ old.trees 5
  pub filters : new.trees 6 ≡ old.trees 6

-- ---- within a transaction

-- if the database has the store's tables, these rows were put into them, and the transaction goes on
pub record RowsWritten (rows : ℕ → List Row) (old new : State) : Type 0 where
  pub was_open : IsTrue new.is_open → IsTrue old.is_open
  pub is_open : IsTrue old.is_open → IsTrue new.is_open
  pub mode : new.in_transaction ≡ true
  pub committed : new.committed ≡ old.committed
  pub puts : old.now.schema ≡ store_schema → Puts rows old.now new.now

-- empty tables that were missing were made, if those that were there were empty; if all were there, nothing changed
pub record Makes (before : Schema) (n : ℕ) (after : Schema) (m : ℕ) (old new : State) : Type 0 where
  pub was_open : IsTrue new.is_open → IsTrue old.is_open
  pub is_open : IsTrue old.is_open → IsTrue new.is_open
  pub mode : new.in_transaction ≡ true
  pub committed : new.committed ≡ old.committed
  pub made : IsMade before n old.now → IsMade after m new.now
  pub kept : old.now.schema ≡ store_schema → new.now ≡ old.now

-- the transaction goes on, and the version is 2 now
pub record Raises (old new : State) : Type 0 where
  pub was_open : IsTrue new.is_open → IsTrue old.is_open
  pub is_open : IsTrue old.is_open → IsTrue new.is_open
  pub mode : new.in_transaction ≡ true
  pub committed : new.committed ≡ old.committed
  pub writes : old.now.schema ≡ store_schema → IsMeta (old.now.trees 0) → WritesVersion (pos 2) old.now new.now

-- the version is now `version`: before, it was `version`, or it was 1 or absent and `version` is 2; nothing else changed
pub record Settles (version : ℤ) (old new : State) : Type 0 where
  pub was_open : IsTrue new.is_open → IsTrue old.is_open
  pub is_open : IsTrue old.is_open → IsTrue new.is_open
  pub mode : new.in_transaction ≡ true
  pub committed : new.committed ≡ old.committed
  pub writes : WritesVersion version old.now new.now
  pub was : (w : ℤ) → old.now.trees 0 ≡ meta_row w ∷ [] → (w ≡ version) ⊎ ((w ≡ pos 1) × (version ≡ pos 2))
  pub fresh : old.now.trees 0 ≡ [] → version ≡ pos 2

-- a store that is open was open before and has the same last commit, as after a refused statement
pub record Undone (old new : State) : Type 0 where
  pub was_open : IsTrue new.is_open → IsTrue old.is_open
  pub committed : IsTrue new.is_open → new.committed ≡ old.committed

-- ---- a whole transaction

-- these rows were put and committed
pub record Commits (rows : ℕ → List Row) (old new : State) : Type 0 where
  pub was_open : IsTrue old.is_open
  pub is_open : IsTrue new.is_open
  pub committed : new.committed ≡ new.now
  pub puts : old.now.schema ≡ store_schema → Puts rows old.now new.now

-- trees of a database into which the rows of a change were put
pub record IsAfter (change : Change) (old : State) (trees : Trees) : Type 0 where
  pub read : IsReadBack change
  pub db : Database
  pub puts : old.now.schema ≡ store_schema → Puts (added_rows change) old.now db
  pub is : trees ≡ db.trees

-- a crash leaves exactly these trees
abbrev pub LeavesOnlyTrees : State → Trees → Type 0
LeavesOnlyTrees s db = (trees : Trees) → s.may_leave trees → trees ≡ db

-- ---- the tables that a store tells

-- a row by its key and the rest
abbrev pub Cells : Type 0
Cells = ℤ × Row

abbrev pub as_row : Cells → Row
as_row x = Int x.0 ∷ x.1

-- the rows stand in order of their keys
abbrev pub AreKeyed : List Row → Type 0
AreKeyed rows = (xs : List Cells) × (rows ≡ map as_row xs) × IsKeyedBy (λ (x : Cells). x.0) xs

-- the rows of each table stand in order of their keys
pub record AreAllKeyed (db : Database) : Type 0 where
  pub docs : AreKeyed (db.trees 1)
  pub notes : AreKeyed (db.trees 2)
  pub queries : AreKeyed (db.trees 3)
  pub runs : AreKeyed (db.trees 4)
  pub picks : AreKeyed (db.trees 5)
  pub filters : AreKeyed (db.trees 6)

-- a database of this program: it has the store's tables, or none yet
abbrev pub IsOurs : Database → Type 0
IsOurs db = ((db.schema ≡ store_schema) × IsMeta (db.trees 0)) ⊎ (db.schema ≡ no_schema)

-- the database has the store's tables and this version: it had them, and its version was this one, or absent or 1 for 2; or it
-- had no table, and now has no rows and version 2
pub record OpensTo (version : ℤ) (old new : Database) : Type 0 where
  pub schema : new.schema ≡ store_schema
  pub meta : new.trees 0 ≡ meta_row version ∷ []
  pub store : old.schema ≡ store_schema → WritesVersion version old new
  pub was : old.schema ≡ store_schema → (w : ℤ) → old.trees 0 ≡ meta_row w ∷ [] → (w ≡ version) ⊎ ((w ≡ pos 1) × (version ≡ pos 2))
  pub none : old.schema ≡ no_schema → (version ≡ pos 2) × AreEmpty 6 1 new.trees

-- the transaction goes on over such a store
pub record OpensAt (version : ℤ) (old new : State) : Type 0 where
  pub was_open : IsTrue new.is_open → IsTrue old.is_open
  pub is_open : IsTrue old.is_open → IsTrue new.is_open
  pub mode : new.in_transaction ≡ true
  pub committed : new.committed ≡ old.committed
  pub to : OpensTo version old.now new.now

-- trees of such a store
pub record IsAfterOpen (old : State) (trees : Trees) : Type 0 where
  pub db : Database
  pub to : IsOurs old.now → OpensTo (pos 2) old.now db
  pub is : trees ≡ db.trees

-- it has the store's tables, each in order of its keys
pub record HoldsStore (db : Database) : Type 0 where
  pub sound : IsDatabase db
  pub schema : db.schema ≡ store_schema
  pub meta : IsMeta (db.trees 0)
  pub docs : AreKeyed (db.trees 1)
  pub notes : AreKeyed (db.trees 2)
  pub queries : AreKeyed (db.trees 3)
  pub runs : AreKeyed (db.trees 4)
  pub picks : AreKeyed (db.trees 5)
  pub filters : AreKeyed (db.trees 6)

-- the store is clean and open, and holds these tables
pub record Tells (s : State) (t : Tables) : Type 0 where
  pub clean : HasCleanDisk s
  pub is_open : IsTrue s.is_open
  pub holds : HoldsStore s.now
  pub tables : t ≡ tables_of s.now.trees

-- it is clean and open, and has no table
pub record TellsNone (s : State) (t : Tables) : Type 0 where
  pub clean : HasCleanDisk s
  pub is_open : IsTrue s.is_open
  pub sound : IsDatabase s.now
  pub schema : s.now.schema ≡ no_schema
  pub tables : t ≡ tables_of s.now.trees

-- once it is attached, an open and clean store with these tables; before that it may also have no table
abbrev pub TellsAs : Bool → State → Tables → Type 0
TellsAs true s t = Tells s t
TellsAs false s t = Tells s t ⊎ TellsNone s t

-- a crash may leave these tables
abbrev pub MayLeave : State → Tables → Type 0
MayLeave s t = (db : Trees) × s.may_leave db × (t ≡ tables_of db)

-- an open store of an honest disk has this version: that of its row, or 2 if it has no table
pub record HasVersion (s : State) (v : ℤ) : Type 0 where
  pub clean : HasCleanDisk s
  pub is_open : IsTrue s.is_open
  pub row : ((s.now.schema ≡ no_schema) × (v ≡ pos 2)) ⊎ ((s.now.schema ≡ store_schema) × (s.now.trees 0 ≡ meta_row v ∷ []))

-- no transaction is open
abbrev pub IsIdle : State → Type 0
IsIdle s = s.in_transaction ≡ false
