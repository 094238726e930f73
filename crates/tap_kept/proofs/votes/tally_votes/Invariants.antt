use Rattle.std.proofs.Common.{◌≡◌, take}
use Rattle.vote_scores.specs.Tally.{tally}
use Rattle.tap_kept.proofs.votes.tally_votes.Given as goal

-- the notes before this place are tallied
abbrev pub invariant-loop-note : goal.invariant-loop-note
invariant-loop-note l = l.votes ≡ tally (take l.note-index l.notes)
