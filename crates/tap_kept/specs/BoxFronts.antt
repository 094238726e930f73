-- Fronts of posting lists that the boxes of cached queries hold.
use Rattle.std.specs.Prelude.{◌≡◌, ◌≤◌, List, length}
use Rattle.tap_rows.specs.declared.rows.Doc.{Doc}
use Rattle.tap_rows.specs.Kept.{Each, In}
use Rattle.query_eval.specs.declared.box_front.BoxFront.{BoxFront}
use Rattle.query_eval.specs.BoxFronts.{IsInBox}
use Rattle.tap_kept.specs.declared.cached_query.CachedQuery.{CachedQuery}

-- the front is in the box of the query of its number, which is at most how many queries there are
pub record IsFrontOfBox (docs : List Doc) (queries : List CachedQuery) (front : BoxFront) : Type 0 where
  pub there : front.query.0 ≤ length queries
  pub boxed : (kept : CachedQuery) → In kept queries → front.query ≡ kept.row.num → IsInBox kept.entries docs front

-- each front is in the box of its query
abbrev pub AreFrontsOfBoxes : List Doc → List CachedQuery → List BoxFront → Type 0
AreFrontsOfBoxes docs queries fronts = Each (IsFrontOfBox docs queries) fronts
