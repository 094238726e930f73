-- The tally: for each kind, document and author the value of the author's last note of the kind on the document.
use Rattle.std.specs.Prelude.{ℕ, zero, suc, ◌≡◌, ◌<◌, ◌+◌, ℤ, List, [], ◌∷◌, length, take, fold, Bool, false, ◌&&◌, ◌==◌}
use Rattle.std.specs.Prelude.{Option, Some, None, if◌then◌else◌}
use Rattle.std.specs.List.{list_any}
use Rattle.std.specs.Str.{bytes_eq}
use Rattle.tap_rows.specs.declared.rows.Note.{Note}
use Rattle.vote_scores.specs.declared.undo.VoteUndo.{VoteUndo}

-- the vote of an author on a document: the value of the author's last note of the kind
pub record Vote : Type 0 where
  pub kind : List ℕ
  pub doc : ℕ
  pub author : List ℕ
  pub value : ℤ

-- is it the vote of the note's kind, document and author?
abbrev pub is_by : Note → Vote → Bool
is_by note vote = bytes_eq note.kind vote.kind && ((note.doc.0 == vote.doc) && bytes_eq note.author vote.author)

-- the votes with a note's value at the vote of its kind, document and author, which is appended if there is none
abbrev pub with_vote : Note → List Vote → List Vote
with_vote note [] = record { kind = note.kind; doc = note.doc.0; author = note.author; value = note.value } ∷ []
with_vote note (vote ∷ votes) = if is_by note vote then record vote { value = note.value } ∷ votes else vote ∷ with_vote note votes

-- the votes after each of the notes in turn
abbrev pub tally : List Note → List Vote
tally notes = fold (λ votes note. with_vote note votes) [] notes

-- the place, from 0, of the vote of a note's kind, document and author; the number of votes if there is none
abbrev pub vote_place : Note → List Vote → ℕ
vote_place note [] = 0
vote_place note (vote ∷ votes) = if is_by note vote then 0 else suc (vote_place note votes)

-- the value of the vote of a note's kind, document and author, if there is one
abbrev pub vote_value : Note → List Vote → Option ℤ
vote_value note [] = None
vote_value note (vote ∷ votes) = if is_by note vote then Some vote.value else vote_value note votes

-- the votes with this value at a place, from 0
abbrev pub with_value : ℕ → ℤ → List Vote → List Vote
with_value place value [] = []
with_value zero value (vote ∷ votes) = record vote { value = value } ∷ votes
with_value (suc place) value (vote ∷ votes) = vote ∷ with_value place value votes

-- the votes with the old value at a place, or without those from the place on if there was none
abbrev pub restored : ℕ → Option ℤ → List Vote → List Vote
restored place None votes = take place votes
restored place (Some value) votes = with_value place value votes

-- the votes before a vote was added
abbrev pub without_vote : VoteUndo → List Vote → List Vote
without_vote undo votes = restored undo.at undo.old votes

-- there is a vote at the place, and it is the last one if it was appended
pub record CanUndoVote (undo : VoteUndo) (votes : List Vote) : Type 0 where
  pub place : undo.at < length votes
  pub last : undo.old ≡ None → undo.at + 1 ≡ length votes

-- are the votes of one kind, document and author?
abbrev pub is_same : Vote → Vote → Bool
is_same vote other = bytes_eq vote.kind other.kind && ((vote.doc == other.doc) && bytes_eq vote.author other.author)

-- no two votes are of one kind, document and author
abbrev pub VotesAreDistinct : List Vote → Type 0
VotesAreDistinct [] = Unit {0}
VotesAreDistinct (vote ∷ votes) = (list_any (is_same vote) votes ≡ false) × VotesAreDistinct votes
