use Rattle.std.proofs.Common.{◌≡◌, ◌+◌, drop}
use Rattle.tap_rows.specs.WellFormed.{docs_stand}
use Rattle.tap_rows.proofs.fits.docs_fit.Given as goal

-- the documents stand if those that are left do
abbrev pub invariant-loop-i : goal.invariant-loop-i
invariant-loop-i l = docs_stand l.fn.place l.fn.low l.docs ≡ docs_stand (l.fn.place + l.i) l.last (drop l.i l.docs)
