-- Scores as they are counted, vote by vote.
use Rattle.std.specs.Prelude.{ℕ, ◌≡◌, ◌+◌, ◌*◌, ◌≤◌, ◌==◌, ℤ, pos, neg_ℤ, ◌+ℤ◌, ◌≤ℤ◌}
use Rattle.std.specs.Prelude.{List, [], ◌∷◌, map, if◌then◌else◌}
use Rattle.std.specs.Str.{bytes_eq}
use Rattle.std.specs.Map.{keys_of, values_of}
use Rattle.tap_rows.specs.Kept.{Each, In}
use Rattle.tap_rows.specs.declared.score.Score.{Score}
use Rattle.vote_scores.specs.Tally.{Vote}

-- the scores with one more vote on a document: its score has it, or a new one at the end
abbrev pub with_vote_counted : ℕ → ℤ → List Score → List Score
with_vote_counted doc value [] = record { doc = record { 0 = doc }; voters = 1; sum = value } ∷ []
with_vote_counted doc value (score ∷ scores) =
    if doc == score.doc.0 then record score { voters = score.voters + 1; sum = score.sum +ℤ value } ∷ scores
    else score ∷ with_vote_counted doc value scores

-- the scores with one more vote, if it is of the kind
abbrev pub counted_if : List ℕ → Vote → List Score → List Score
counted_if kind vote scores = if bytes_eq vote.kind kind then with_vote_counted vote.doc vote.value scores else scores

-- the scores with each of the votes of a kind in turn
abbrev pub counted_from : List ℕ → List Score → List Vote → List Score
counted_from kind scores [] = scores
counted_from kind scores (vote ∷ votes) = counted_from kind (counted_if kind vote scores) votes

-- each score has at most n votes of 64 bits
abbrev pub AreSmall : ℕ → List Score → Type 0
AreSmall n scores =
    Each (λ score.
    (score.voters ≤ n) × (neg_ℤ (pos (9223372036854775808 * n)) ≤ℤ score.sum) × (score.sum ≤ℤ pos (9223372036854775808 * n))) scores

-- no two are of one document
abbrev pub ScoresAreApart : List Score → Type 0
ScoresAreApart [] = Unit {0}
ScoresAreApart (score ∷ scores) = ((other : Score) → In other scores → other.doc.0 ≡ score.doc.0 → ⊥) × ScoresAreApart scores

-- the scores of a map stand under their documents
abbrev pub AreUnderTheirDocuments : List (ℕ × Score) → Type 0
AreUnderTheirDocuments entries = keys_of entries ≡ map (λ (score : Score). score.doc.0) (values_of entries)
