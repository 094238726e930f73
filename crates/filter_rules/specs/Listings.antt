-- A box in the order of its documents' ratings.
use Rattle.std.specs.Prelude.{ℕ, List, [], ◌∷◌, map, Bool, not, ◌&&◌, ◌||◌, nat_lt, int_lt, Option, Some, None, codes, if◌then◌else◌}
use Rattle.tap_rows.specs.declared.rows.Doc.{Doc}
use Rattle.tap_rows.specs.declared.results.Entry.{Entry}
use Rattle.tap_rows.specs.declared.results.Listed.{Listed}
use Rattle.tap_rows.specs.WellFormed.{row_at}
use Rattle.filter_rules.specs.Rules.{Rule}
use Rattle.filter_rules.specs.Ratings.{priority_of, class_of}

-- an entry with the rating of its document; without a document, with that of no rules
abbrev pub listed_of : List Rule → Entry → Option Doc → Listed
listed_of rules entry None = record { entry = entry; priority = 0; class = codes "other" }
listed_of rules entry (Some doc) = record { entry = entry; priority = priority_of rules doc; class = class_of rules doc }

-- an entry with the rating of its document among these
abbrev pub rated_entry : List Rule → List Doc → Entry → Listed
rated_entry rules docs entry = listed_of rules entry (row_at entry.doc.0 docs)

-- does x come before y? By priority from the greatest, then by first second, then by document number
abbrev pub is_above : Listed → Listed → Bool
is_above x y =
    nat_lt y.priority x.priority
    || (not (nat_lt x.priority y.priority)
    && (int_lt x.entry.first y.entry.first || (not (int_lt y.entry.first x.entry.first) && nat_lt x.entry.doc.0 y.entry.doc.0)))

-- sorted rows with one more: after those that come before it
abbrev pub put_by : {X : Type 0} → (X → X → Bool) → X → List X → List X
put_by above x [] = x ∷ []
put_by above x (y ∷ ys) = if above y x then y ∷ put_by above x ys else x ∷ y ∷ ys

-- rows in order; those of which neither comes before the other stay in theirs
abbrev pub sorted_by : {X : Type 0} → (X → X → Bool) → List X → List X
sorted_by above [] = []
sorted_by above (x ∷ xs) = put_by above x (sorted_by above xs)

-- the entries of a box with their ratings, by priority from the greatest, then first second, then number
abbrev pub listing_of : List Rule → List Doc → List Entry → List Listed
listing_of rules docs entries = sorted_by is_above (map (rated_entry rules docs) entries)
