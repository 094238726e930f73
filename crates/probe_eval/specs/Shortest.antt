-- The lists that accesses give, and the shortest of them as it is looked for.
use Rattle.std.specs.Prelude.{◌≡◌, ℕ, ◌+◌, Bool, true, false, Option, Some, None, List, [], ◌∷◌}
use Rattle.std.specs.Prelude.{length, map, fold, nat_lt, if◌then◌else◌}
use Rattle.tap_rows.specs.declared.rows.Doc.{Doc}
use Rattle.tap_rows.specs.declared.tables.Tables.{Tables}
use Rattle.tql_core.specs.declared.atom.TextField.{TextField}
use Rattle.tql_core.specs.Row.{OfDoc}
use Rattle.tql_core.specs.Values.{Env}
use Rattle.row_index.specs.declared.text_kind.TextKind.{TextKind}
use Rattle.row_index.specs.Texts.{texts_of, with_text}
use Rattle.access_plan.specs.declared.access.Access.{Access}
use Rattle.access_plan.specs.declared.access.Access.TheVariants.{ByEntry}
use Rattle.probe_eval.specs.SingleLists.{IsSorted}
use Rattle.probe_eval.specs.Work.{rows_with, all_rows_by, is_list, access_length}

-- the documents are those under the text, of this kind
pub record IsUnderText (kind : TextKind) (text : Option (List ℕ)) (T : Tables) (docs : List Doc) : Type 0 where
  pub some : List ℕ
  pub is : text ≡ Some some
  pub docs_are : docs ≡ with_text (texts_of kind) some T.docs

-- the documents are those of the posting list that the access gives
pub record IsListOf (T : Tables) (access : Access) (env : Env) (docs : List Doc) : Type 0 where
  pub list : is_list access ≡ true
  pub sorted : IsSorted docs
  pub rows : all_rows_by access env T ≡ map OfDoc docs

-- does the access give a posting list by a text of which a document may have many?
abbrev pub is_many : Access → Bool
is_many (ByEntry l e) = true
is_many _ = false

-- how many rows have one of these texts as a field; those of one that stands twice count twice
abbrev pub count_each : TextField → Tables → List (List ℕ) → ℕ
count_each f T [] = 0
count_each f T (x ∷ xs) = length (rows_with f T x) + count_each f T xs

module _ (T : Tables) (env : Env) where
  -- of two accesses the one that gives the shorter list, of equal ones the first
  abbrev pub shorter_access : Option Access → Access → Option Access
  shorter_access None access = Some access
  shorter_access (Some best) access = if nat_lt (access_length T env access) (access_length T env best) then Some access else Some best

  -- the shortest of some accesses and one before them
  abbrev pub shortest_after : Option Access → List Access → Option Access
  shortest_after best accesses = fold shorter_access best accesses
