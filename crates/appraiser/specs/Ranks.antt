-- The rank of a row of a list.
use Rattle.tap_rows.specs.declared.results.Listed.{Listed}
use Rattle.appraiser.specs.declared.listings.Rank.{Rank}

-- the priority from the greatest, the first second, the document
abbrev pub rank_of : Listed → Rank
rank_of row = record { priority = record { 0 = row.priority }; first = row.entry.first; doc = row.entry.doc.0 }
