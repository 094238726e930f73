use Rattle.std.proofs.Common.{◌≡◌, ◌++◌, ◌+◌, map, length}
use Rattle.script_lang.specs.Rows.{note_text}
use Rattle.tap_kept.proofs.lines.note_lines.Given as goal

-- the lines are those so far and those of the notes that are left
abbrev pub invariant-notes : goal.invariant-notes
invariant-notes g l = record {
  lines : map note_text l.fn.notes ≡ l.lines ++ map note_text l.notes;
  steps : l.steps + length l.notes ≡ l.fn.steps + length l.fn.notes;
}

abbrev pub decreases-notes : goal.decreases-notes
decreases-notes g l = length l.notes
