-- Tables to which only later documents and notes were added.
use Rattle.std.specs.Prelude.{◌≡◌, ℤ, ◌≤ℤ◌, List, ◌++◌}
use Rattle.tap_rows.specs.declared.tables.Tables.{Tables}
use Rattle.tap_rows.specs.declared.rows.Doc.{Doc}
use Rattle.tap_rows.specs.declared.rows.Note.{Note}
use Rattle.tap_rows.specs.Kept.{Each}

-- documents and notes that arrived at t or later were appended; nothing is said of other rows
pub record Grown (t : ℤ) (tables later : Tables) : Type 0 where
  pub new_docs : List Doc
  pub new_notes : List Note
  pub docs : later.docs ≡ tables.docs ++ new_docs
  pub notes : later.notes ≡ tables.notes ++ new_notes
  pub late_docs : Each (λ doc. t ≤ℤ doc.arrival) new_docs
  pub late_notes : Each (λ note. t ≤ℤ note.arrival) new_notes
