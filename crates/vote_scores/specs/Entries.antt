-- The entries of the map of votes.
use Rattle.std.specs.Prelude.{ℤ}
use Rattle.tap_rows.specs.declared.rows.Note.{Note}
use Rattle.vote_scores.specs.declared.vote_key.VoteKey.{VoteKey}
use Rattle.vote_scores.specs.Tally.{Vote}

-- an entry of the map as a vote
abbrev pub vote_at : VoteKey × ℤ → Vote
vote_at entry = record { kind = entry.0.kind; doc = entry.0.doc; author = entry.0.author; value = entry.1 }

-- what the vote of a note is looked up by
abbrev pub key_of : Note → VoteKey
key_of note = record { kind = note.kind; doc = note.doc.0; author = note.author }
