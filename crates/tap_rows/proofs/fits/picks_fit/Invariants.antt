use Rattle.std.proofs.Common.{◌≡◌, ◌+◌, ◌++◌, ◌∷◌, [], drop, take, length}
use Rattle.std.specs.Option.{option_copied}
use Rattle.tap_rows.specs.WellFormed.{picks_stand}
use Rattle.tap_rows.specs.Fits.{last_row}
use Rattle.tap_rows.proofs.fits.picks_fit.Given as goal

-- the picks stand if those that are left do, behind those stored and those seen
abbrev pub invariant-loop-i : goal.invariant-loop-i
invariant-loop-i l =
    picks_stand (l.runs ++ l.run ∷ []) l.docs l.stored (length l.stored + 1) (last_row l.stored) l.picks
    ≡ picks_stand (l.runs ++ l.run ∷ []) l.docs (l.stored ++ take l.i l.picks) (length l.stored + 1 + l.i) (option_copied l.before)
    (drop l.i l.picks)
