-- The entries of the map, seen as votes.
use Rattle.std.proofs.Common.{◌≡◌, ◌∙◌, refl, ap, ℕ, zero, suc, false, ℤ, List, [], ◌∷◌, length, map, take, Option}
use Rattle.std.specs.List.{list_any, IsDistinct, AllByRecursion}
use Rattle.std.specs.Map.{keys_of}
use Rattle.indexmap.specs.IndexMap.{set_value_at}
use Rattle.vote_scores.specs.declared.undo.VoteUndo.{VoteUndo}
use Rattle.vote_scores.specs.declared.vote_key.VoteKey.{VoteKey}
use Rattle.vote_scores.specs.contracts.vote_key.VoteKeyPartialEq.TheImpl as key
use Rattle.vote_scores.specs.Tally.{Vote, is_same, VotesAreDistinct, with_value, restored, without_vote}
use Rattle.vote_scores.specs.Entries.{vote_at}

-- a value that is written

pub written : (entries : List (VoteKey × ℤ)) (place : ℕ) (value : ℤ)
    → map vote_at (set_value_at entries place value) ≡ with_value place value (map vote_at entries)
written [] place value = refl
written (entry ∷ entries) zero value = refl
written (entry ∷ entries) (suc place) value = ap (λ votes. vote_at entry ∷ votes) (written entries place value)

pub written-length : (entries : List (VoteKey × ℤ)) (place : ℕ) (value : ℤ) → length (set_value_at entries place value) ≡ length entries
written-length [] place value = refl
written-length (entry ∷ entries) zero value = refl
written-length (entry ∷ entries) (suc place) value = ap suc (written-length entries place value)

-- entries that are cut off

pub cut : (n : ℕ) (entries : List (VoteKey × ℤ)) → map vote_at (take n entries) ≡ take n (map vote_at entries)
cut zero entries = refl
cut (suc n) [] = refl
cut (suc n) (entry ∷ entries) = ap (λ votes. vote_at entry ∷ votes) (cut n entries)

-- what an undo gives, by its old value

pub undone-old : (undo : VoteUndo) (old : Option ℤ) (votes : List Vote) → undo.old ≡ old
    → without_vote undo votes ≡ restored undo.at old votes
undone-old undo old votes e = ap (λ o. restored undo.at o votes) e

-- distinct keys

same_key : (k l : VoteKey) (v w : ℤ) → is_same (vote_at (k, v)) (vote_at (l, w)) ≡ key.ghosts.eq k l
same_key k l v w = refl

none_same : (k : VoteKey) (v : ℤ) (entries : List (VoteKey × ℤ)) → AllByRecursion (λ l. key.ghosts.eq k l ≡ false) (keys_of entries)
    → list_any (is_same (vote_at (k, v))) (map vote_at entries) ≡ false
none_same k v [] all = refl
none_same k v (entry ∷ entries) all = rw (same_key k entry.0 v entry.1 ∙ all.0) (none_same k v entries all.1)

pub distinct : (entries : List (VoteKey × ℤ)) → IsDistinct key.ghosts.eq (keys_of entries) → VotesAreDistinct (map vote_at entries)
unfolding IsDistinct
distinct [] d = tt
distinct (entry ∷ entries) d = (none_same entry.0 entry.1 entries d.0, distinct entries d.1)
