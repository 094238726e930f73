-- Fronts of posting lists that the boxes of queries hold.
use Rattle.std.specs.Prelude.{◌≡◌, ◌≤◌, ◌⊎◌, ℕ, List, true, length, take}
use Rattle.tap_base.specs.declared.numbers.QueryNum.{QueryNum}
use Rattle.tap_rows.specs.declared.rows.Doc.{Doc}
use Rattle.tap_rows.specs.declared.results.Entry.{Entry}
use Rattle.tap_rows.specs.Kept.{Each, In}
use Rattle.little_box.specs.Boxes.{is_in}
use Rattle.probe_eval.specs.declared.list_kind.ListKind.{ListKind}
use Rattle.probe_eval.specs.SingleLists.{ListKey, kind_of, docs_under}
use Rattle.query_eval.specs.declared.box_front.BoxFront.{BoxFront}
use Rattle.query_eval.specs.Fronts.{BeginsWith}

-- the front's document is stored, and of each posting list of its kind that begins with it, that many documents are there and in
-- the box
pub record IsInBox (entries : List Entry) (docs : List Doc) (front : BoxFront) : Type 0 where
  pub stored : front.first.0 ≤ length docs
  pub there : (key : ListKey) → kind_of key ≡ front.kind → BeginsWith front.first.0 (docs_under key docs)
      → front.len ≤ length (docs_under key docs)
  pub boxed : (key : ListKey) → kind_of key ≡ front.kind → BeginsWith front.first.0 (docs_under key docs)
      → Each (λ d. is_in d.num.0 entries ≡ true) (take front.len (docs_under key docs))

-- each front of this query is in its box
abbrev pub AreInBox : QueryNum → List Entry → List Doc → List BoxFront → Type 0
AreInBox query entries docs fronts = Each (λ front. front.query ≡ query → IsInBox entries docs front) fronts

-- each front is one of those before, or one of this query that is in its box
abbrev pub AddsFronts : QueryNum → List Entry → List Doc → List BoxFront → List BoxFront → Type 0
AddsFronts query entries docs old new =
    Each (λ front. In front old ⊎ ((front.query ≡ query) × IsInBox entries docs front)) new

-- each front is one of those before, or this one
abbrev pub AddsFront : BoxFront → List BoxFront → List BoxFront → Type 0
AddsFront added old new = Each (λ front. In front old ⊎ (front ≡ added)) new

-- that many documents at the front of a list are there and in the box
pub record IsBoxedFront (entries : List Entry) (len : ℕ) (docs : List Doc) : Type 0 where
  pub there : len ≤ length docs
  pub boxed : Each (λ d. is_in d.num.0 entries ≡ true) (take len docs)

-- of each posting list of this kind that begins with this document, that many documents at the front are there and in the box
pub record IsBoxed (entries : List Entry) (docs : List Doc) (kind : ListKind) (first len : ℕ) : Type 0 where
  pub lists : (key : ListKey) → kind_of key ≡ kind → BeginsWith first (docs_under key docs) → IsBoxedFront entries len (docs_under key docs)

-- the front is that of this query and of the list of this kind that begins with this document
pub record IsBoxFrontOf (query : QueryNum) (kind : ListKind) (first : ℕ) (front : BoxFront) : Type 0 where
  pub query_is : front.query ≡ query
  pub kind_is : front.kind ≡ kind
  pub first_is : front.first.0 ≡ first
