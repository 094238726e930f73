use Rattle.std.proofs.Common.{◌≡◌, ◌≤◌, length, take}
use Rattle.little_box.proofs.LittleBox.cut.Given as goal

-- the first entries are left, and no fewer than are to stay
abbrev pub invariant-loop-self : goal.invariant-loop-self
invariant-loop-self l = (l.self ≡ take (length l.self) l.fn.self) × (l.n ≤ length l.self)

abbrev pub decreases-loop-self : goal.decreases-loop-self
decreases-loop-self l = length l.self
