use Rattle.std.proofs.Common.{◌≡◌, drop, length}
use Rattle.tap_kept.specs.Starting.{summed}
use Rattle.tap_kept.proofs.sums.Sums.add_notes.Given as goal

-- the sums with all rows are those with the rows that are left
abbrev pub invariant-loop-note : goal.invariant-loop-note
invariant-loop-note l = summed (λ note. note.arrival) (λ note. length note.text) l.fn.self l.notes
    ≡ summed (λ note. note.arrival) (λ note. length note.text) l.sums (drop l.note-index l.notes)
