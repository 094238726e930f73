-- Fronts of posting lists that a run knows: of the documents that are done, and of those that are in the box.
use Rattle.std.specs.Prelude.{◌≡◌, ◌≤◌, ℕ, List, length}
use Rattle.tap_rows.specs.declared.rows.Doc.{Doc}
use Rattle.tap_rows.specs.declared.results.Hit.{Hit}
use Rattle.tap_rows.specs.declared.results.Entry.{Entry}
use Rattle.tap_rows.specs.Kept.{Each, In}
use Rattle.probe_eval.specs.declared.list_kind.ListKind.{ListKind}
use Rattle.probe_eval.specs.declared.search.Search.{Search}
use Rattle.query_eval.specs.declared.least_hits.LeastHits.{LeastHits}
use Rattle.query_eval.specs.declared.fronts.Front.{Front}
use Rattle.query_eval.specs.declared.fronts.Fronts.{Fronts}
use Rattle.query_eval.specs.Fronts.{IsPassed}
use Rattle.query_eval.specs.BoxFronts.{AreInBox, IsBoxed}

-- the front is that of the list of this kind that begins with this document
pub record IsFrontOf (kind : ListKind) (first : ℕ) (front : Front) : Type 0 where
  pub kind_is : front.kind ≡ kind
  pub first_is : front.first.0 ≡ first

-- the front is one of these, and that of the list of this kind that begins with this document
pub record IsKnownFront (kind : ListKind) (first : ℕ) (fronts : List Front) (front : Front) : Type 0 where
  pub own : IsFrontOf kind first front
  pub known : In front fronts

-- the front's document is stored, its documents are done, and as many as it says are in the box
pub record IsFrontPassed (entries : List Entry) (docs : List Doc) (n : ℕ) (kept : List Hit) (front : Front) : Type 0 where
  pub stored : front.first.0 ≤ length docs
  pub done : IsPassed entries docs n kept front.kind front.first.0 front.mark front.len
  pub boxed : IsBoxed entries docs front.kind front.first.0 front.boxed

-- each front is such
pub record ArePassed (entries : List Entry) (docs : List Doc) (n : ℕ) (kept : List Hit) (fronts : List Front) : Type 0 where
  pub each : Each (IsFrontPassed entries docs n kept) fronts

-- each front of a run is such by the rows and deliveries of a search, and those of earlier runs are in its box
pub record AreDone (s : Search) (into : LeastHits) (fronts : Fronts) : Type 0 where
  pub passed : ArePassed s.seen.now s.index.now.docs (length into.places.items) into.hits.items fronts.fronts.items
  pub boxes : AreInBox fronts.boxes.query s.seen.now s.index.now.docs fronts.boxes.fronts.items
