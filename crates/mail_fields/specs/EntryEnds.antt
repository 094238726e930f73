-- How the entries of a field's value end.
use Rattle.std.specs.Prelude.{ℕ, List, false}
use Rattle.std.specs.List.{position_or_len}
use Rattle.tap_base.specs.Bytes.{is_blank}
use Rattle.tap_rows.specs.Entries.{listed, referred}
use Rattle.mail_fields.specs.declared.entries.EntryEnd.{EntryEnd}
use Rattle.mail_fields.specs.declared.entries.EntryEnd.TheVariants.{Comma, Blank}
use Rattle.mail_fields.specs.Rests.{comma_place}

-- the entries of a value in which each ends so
abbrev pub entries_by : EntryEnd → List ℕ → List (List ℕ)
entries_by Comma = listed
entries_by Blank = referred

-- how many bytes come before the end of the first entry
abbrev pub entry_length : EntryEnd → List ℕ → ℕ
entry_length Comma value = comma_place false value
entry_length Blank value = position_or_len is_blank value
