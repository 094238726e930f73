use Rattle.std.proofs.Common.{◌≡◌, ◌+◌, ◌≤◌, take, length}
use Rattle.std.specs.List.{suffix_len}
use Rattle.tap_base.specs.Bytes.{is_blank}
use Rattle.mail_fields.proofs.bytes.len_without_blank_end.Given as goal

-- the blanks at the end are those so far and those of what is left
abbrev pub invariant-loop-len : goal.invariant-loop-len
invariant-loop-len l = record {
  within : l.len ≤ length l.bytes;
  blanks : l.len + suffix_len is_blank l.bytes ≡ length l.bytes + suffix_len is_blank (take l.len l.bytes);
}

abbrev pub decreases-loop-len : goal.decreases-loop-len
decreases-loop-len l = l.len
