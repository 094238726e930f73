-- Votes: notes of one kind, of which each author's last one on a document counts.
use Rattle.std.specs.Prelude.{ℕ, ◌≤◌, ℤ, pos, ◌+ℤ◌, List, [], ◌∷◌, length, Bool, ◌&&◌, ◌||◌, ◌==◌, not, nat_lt, int_lt}
use Rattle.std.specs.Prelude.{filter}
use Rattle.std.specs.Prelude.{Option, Some, None, if◌then◌else◌}
use Rattle.std.specs.List.{filter_map, list_any}
use Rattle.std.specs.Str.{bytes_eq}
use Rattle.tap_base.specs.declared.numbers.DocNum.{DocNum}
use Rattle.tap_rows.specs.declared.rows.Doc.{Doc}
use Rattle.tap_rows.specs.declared.rows.Note.{Note}
use Rattle.tap_rows.specs.declared.tables.Tables.{Tables}
use Rattle.tap_rows.specs.Arrivals.{Arrived}
use Rattle.tap_rows.specs.Kept.{Each}
use Rattle.tap_rows.specs.declared.score.Score.{Score}

-- is the note a vote of this kind on the document of this number?
abbrev pub is_vote : List ℕ → ℕ → Note → Bool
is_vote kind doc note = bytes_eq note.kind kind && (note.doc.0 == doc)

-- have two notes one author?
abbrev pub is_of_author : Note → Note → Bool
is_of_author note other = bytes_eq note.author other.author

-- each author's last note
abbrev pub last_notes : List Note → List Note
last_notes [] = []
last_notes (note ∷ notes) = if list_any (is_of_author note) notes then last_notes notes else note ∷ last_notes notes

-- the votes of a kind on the document of this number: each author's last note among them
abbrev pub votes_on : List ℕ → ℕ → List Note → List Note
votes_on kind doc notes = last_notes (filter (is_vote kind doc) notes)

-- the sum of the values of some votes
abbrev pub sum_of : List Note → ℤ
sum_of [] = pos 0
sum_of (vote ∷ votes) = vote.value +ℤ sum_of votes

-- the score of a document by the votes on it, if there are any
abbrev pub score_by : DocNum → List Note → Option Score
score_by doc [] = None
score_by doc (vote ∷ votes) = Some (record { doc = doc; voters = length (vote ∷ votes); sum = sum_of (vote ∷ votes) })

-- the score of a document by the notes of a kind, if there are any on it
abbrev pub score_of : List ℕ → List Note → Doc → Option Score
score_of kind notes doc = score_by doc.num (votes_on kind doc.num.0 notes)

-- is the score x before the score y, by sum from the greatest and then by document?
abbrev pub score_is_before : Score → Score → Bool
score_is_before x y = int_lt y.sum x.sum || (not (int_lt x.sum y.sum) && nat_lt x.doc.0 y.doc.0)

-- the scores in order, with one more at its place
abbrev pub put_score : Score → List Score → List Score
put_score score [] = score ∷ []
put_score score (other ∷ scores) = if score_is_before score other then score ∷ other ∷ scores else other ∷ put_score score scores

-- the scores in order of sum from the greatest, then of document
abbrev pub scores_in_order : List Score → List Score
scores_in_order [] = []
scores_in_order (score ∷ scores) = put_score score (scores_in_order scores)

-- the scores of a kind: one of each document that has a note of it, in order
abbrev pub scores_of : List ℕ → Tables → List Score
scores_of kind tables = scores_in_order (filter_map (score_of kind tables.notes) tables.docs)

-- the documents are numbered by their places, and each note is on one of them
pub record AreNumbered (tables : Tables) : Type 0 where
  pub docs : Arrived 1 (pos 0) tables.docs
  pub notes : Each (λ note. (1 ≤ note.doc.0) × (note.doc.0 ≤ length tables.docs)) tables.notes
