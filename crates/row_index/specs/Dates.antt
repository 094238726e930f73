-- Documents in order of date.
use Rattle.std.specs.Prelude.{◌≡◌, ℤ, pos, ◌-◌, Bool, ◌&&◌, ◌||◌, not}
use Rattle.std.specs.Prelude.{List, [], ◌∷◌, int_lt, nat_lt, filter, map, fold, if◌then◌else◌}
use Rattle.std.specs.Option.{is_some, unwrap_or}
use Rattle.tap_rows.specs.declared.rows.Doc.{Doc}
use Rattle.row_index.specs.declared.dates.Dated.{Dated}
use Rattle.row_index.specs.declared.dates.Dates.{Dates}
use Rattle.row_index.specs.Orders.{in_window}
use Rattle.tap_rows.specs.Fields.{fields}

-- has the document a date?
abbrev pub has_date : Doc → Bool
has_date doc = is_some (fields doc).date

-- the date of a document that has one
abbrev pub stored_date : Doc → ℤ
stored_date doc = unwrap_or (fields doc).date (pos 0)

-- does the one stand before the other? By date, then by number
abbrev pub is_earlier : Doc → Doc → Bool
is_earlier x y = int_lt (stored_date x) (stored_date y) || (not (int_lt (stored_date y) (stored_date x)) && nat_lt x.num.0 y.num.0)

-- a document at its place among documents in order
abbrev pub put_dated : Doc → List Doc → List Doc
put_dated doc [] = doc ∷ []
put_dated doc (other ∷ docs) = if is_earlier doc other then doc ∷ other ∷ docs else other ∷ put_dated doc docs

-- the documents that have a date, in order of date, then of number
abbrev pub in_date_order : List Doc → List Doc
in_date_order docs = fold (λ sorted doc. put_dated doc sorted) [] (filter has_date docs)

-- the dated documents whose date is from low up to, and without, high
abbrev pub dated_in : ℤ → ℤ → List Doc → List Doc
dated_in low high docs = in_window stored_date low high (in_date_order docs)

-- a document's date and place
abbrev pub dated : Doc → Dated
dated doc = record { date = stored_date doc; place = doc.num.0 - 1 }

-- the dates are those of the documents
abbrev pub DatePosts : List Doc → Dates → Type 0
DatePosts docs dates = dates.set.keys ≡ map dated (in_date_order docs)
