use Rattle.std.proofs.Common.{◌≡◌, drop}
use Rattle.std.specs.Str.{bytes_eq, str_to_ascii_lowercase}
use Rattle.tap_base.proofs.message_words.is_lowered.Given as goal

-- the bytes so far are the same
abbrev pub invariant-loop-i : goal.invariant-loop-i
invariant-loop-i l = bytes_eq l.word (str_to_ascii_lowercase l.part) ≡ bytes_eq (drop l.i l.word) (str_to_ascii_lowercase (drop l.i l.part))
