use Rattle.std.proofs.Common.{◌≡◌, ◌++◌, drop}
use Rattle.tap_base.proofs.texts.Texts.copy.Given as goal

-- the texts are those that were copied, and then those that are left
abbrev pub invariant-loop-text : goal.invariant-loop-text
invariant-loop-text l = l.self ≡ l.texts ++ drop l.text-index l.self
