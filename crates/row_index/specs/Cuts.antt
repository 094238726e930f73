-- Comparisons that cut a list of documents in order.
use Rattle.std.specs.Prelude.{ℕ, ℤ, pos, Bool, true, false, Option, Some, None, List, slice_get, int_le, int_lt}
use Rattle.tap_rows.specs.declared.rows.Doc.{Doc}
use Rattle.row_index.specs.declared.cut.Order.{Order}
use Rattle.row_index.specs.declared.cut.Order.TheVariants.{Arrival, Number}
use Rattle.row_index.specs.declared.cut.Limit.{Limit}
use Rattle.row_index.specs.declared.cut.Limit.TheVariants.{Below, UpTo, From, Above}
use Rattle.row_index.specs.declared.cut.ListCut.{ListCut}

-- the arrival of a document, or its number
abbrev pub rank : Order → Doc → ℤ
rank Arrival doc = doc.arrival
rank Number doc = pos doc.num.0

-- does the number pass?
abbrev pub passes : Limit → ℤ → ℤ → Bool
passes Below bound number = int_lt number bound
passes UpTo bound number = int_le number bound
passes From bound number = int_le bound number
passes Above bound number = int_lt bound number

-- does what passes come before what doesn't?
abbrev pub is_front : Limit → Bool
is_front Below = true
is_front UpTo = true
is_front From = false
is_front Above = false

-- does the document pass the comparison?
abbrev pub keeps : ListCut → Doc → Bool
keeps cut doc = passes cut.limit cut.bound (rank cut.order doc)

-- the arrival or number of a document that may be absent, then 0
abbrev pub cut_rank : Order → Option Doc → ℤ
cut_rank order None = pos 0
cut_rank order (Some doc) = rank order doc

abbrev pub place_rank_by : Order → List Doc → ℕ → ℤ
place_rank_by order docs place = cut_rank order (slice_get docs place)

-- does the document at a place?
abbrev pub keeps_place : List Doc → ListCut → ℕ → Bool
keeps_place docs cut place = passes cut.limit cut.bound (place_rank_by cut.order docs place)
