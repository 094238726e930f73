-- Fronts of posting lists: documents of which no later hit changes what is stored.
use Rattle.std.specs.Prelude.{◌≡◌, ◌⊎◌, ℕ, ℤ, ◌≤ℤ◌, Bool, List, [], ◌∷◌, ◌++◌, length, map, take, option_to_list}
use Rattle.tap_rows.specs.declared.rows.Doc.{Doc}
use Rattle.tap_rows.specs.declared.results.Hit.{Hit}
use Rattle.tap_rows.specs.declared.results.Entry.{Entry}
use Rattle.tap_rows.specs.Kept.{Each}
use Rattle.tql_core.specs.declared.term.Var.{Var}
use Rattle.tql_core.specs.Row.{Row, OfDoc}
use Rattle.probe_eval.specs.declared.list_kind.ListKind.{ListKind}
use Rattle.probe_eval.specs.declared.search.Search.{Search}
use Rattle.probe_eval.specs.Nested.{hit_if, new_doc}
use Rattle.probe_eval.specs.SingleLists.{ListKey, kind_of, docs_under}
use Rattle.query_eval.specs.declared.least_hits.LeastHits.{LeastHits}
use Rattle.query_eval.specs.Lowest.{keeping}

-- no hit of the document with this mark or a later one changes the stored hits
pub record IsDone (entries : List Entry) (n : ℕ) (kept : List Hit) (b : ℤ) (d : Doc) : Type 0 where
  pub same : (mark : ℤ) (passed : Bool) → b ≤ℤ mark → kept ≡ keeping n kept (option_to_list (hit_if passed mark (new_doc entries d)))

-- the list begins with the document of this number
abbrev pub BeginsWith : ℕ → List Doc → Type 0
BeginsWith first [] = ⊥
BeginsWith first (d ∷ ds) = d.num.0 ≡ first

-- of each list of this kind that begins with this document, that many documents at its front are done
pub record IsPassed (entries : List Entry) (docs : List Doc) (n : ℕ) (kept : List Hit) (kind : ListKind) (first : ℕ) (b : ℤ) (len : ℕ) :
    Type 0 where
  pub done : (key : ListKey) → kind_of key ≡ kind → BeginsWith first (docs_under key docs)
      → Each (IsDone entries n kept b) (take len (docs_under key docs))

-- these documents are done
abbrev pub AreDoneDocs : Search → LeastHits → ℤ → List Doc → Type 0
AreDoneDocs s into b docs = Each (IsDone s.seen.now (length into.places.items) into.hits.items b) docs

-- the documents behind those that are done
pub record AreDocsBehind (s : Search) (into : LeastHits) (b : ℤ) (docs left : List Doc) : Type 0 where
  pub passed : List Doc
  pub docs_are : docs ≡ passed ++ left
  pub done : AreDoneDocs s into b passed

-- the rows of a variable behind those of the query's documents that are done
pub record AreBehind (s : Search) (into : LeastHits) (b : ℤ) (v : Var) (rows left : List Row) : Type 0 where
  pub passed : List Doc
  pub rows_are : rows ≡ map OfDoc passed ++ left
  pub done : AreDoneDocs s into b passed
  pub query_var : (passed ≡ []) ⊎ (v.0 ≡ 0)
