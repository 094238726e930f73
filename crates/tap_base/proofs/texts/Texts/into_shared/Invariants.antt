use Rattle.std.proofs.Common.{◌≡◌, ◌++◌}
use Rattle.tap_base.proofs.texts.Texts.into_shared.Given as goal

-- the texts are those that were moved, and then those that are left
abbrev pub invariant-loop-text : goal.invariant-loop-text
invariant-loop-text l = l.fn.self ≡ l.shared.items ++ l.text-iterator.rest.items
