use Rattle.std.proofs.Common.{◌≡◌, ◌+◌, drop}
use Rattle.tap_model.specs.Verdicts.{bytes_of_all}
use Rattle.tap_engine.proofs.docs.total.Given as goal

-- the bytes so far, and those of the messages that are left
abbrev pub invariant-loop-text : goal.invariant-loop-text
invariant-loop-text l = bytes_of_all l.texts ≡ l.bytes + bytes_of_all (drop l.text-index l.texts)
