use Rattle.std.proofs.Common.{◌≡◌, ◌++◌, drop}
use Rattle.std.specs.List.{flat_map}
use Rattle.tap_rows.specs.Headers.{values_of}
use Rattle.mail_fields.specs.EntryEnds.{entries_by}
use Rattle.mail_fields.proofs.values.all_entries.Given as goal

-- the entries are those so far and those of the fields that are left
abbrev pub invariant-loop-field : goal.invariant-loop-field
invariant-loop-field l = flat_map (entries_by l.end) (values_of l.name l.fields)
    ≡ l.texts ++ flat_map (entries_by l.end) (values_of l.name (drop l.field-index l.fields))
