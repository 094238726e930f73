-- Documents that arrived one after another.
use Rattle.std.specs.Prelude.{ℕ, suc, ◌≡◌, ℤ, ◌≤ℤ◌, List, [], ◌∷◌}
use Rattle.tap_rows.specs.declared.rows.Doc.{Doc}

-- the documents are numbered from num on, and their arrivals never fall, from the second `low` on
abbrev pub Arrived : ℕ → ℤ → List Doc → Type 0
Arrived num low [] = Unit {0}
Arrived num low (doc ∷ docs) = (low ≤ℤ doc.arrival) × (doc.num.0 ≡ num) × Arrived (suc num) doc.arrival docs
