use Rattle.std.proofs.Common.{◌≡◌, ◌+◌, drop}
use Rattle.std.specs.List.{position_or_len}
use Rattle.tap_base.specs.Bytes.{is_blank}
use Rattle.tap_base.proofs.line_words.blank_place.Given as goal

-- the end is among the bytes that are left
abbrev pub invariant-loop-i : goal.invariant-loop-i
invariant-loop-i l = position_or_len is_blank l.bytes ≡ l.i + position_or_len is_blank (drop l.i l.bytes)
