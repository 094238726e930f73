-- A vote that is added.
use Rattle.std.proofs.Common.{◌≡◌, ◌∙◌, refl, sym, ap, arith, ℕ, suc, ◌+◌, ◌<◌, ◌≤◌, Bool, true, false, ℤ, List, [], ◌∷◌, length, map}
use Rattle.std.proofs.Common.{Option, Some, None, if◌then◌else◌}
use Rattle.std.specs.Prelude.{not}
use Rattle.std.specs.List.{position_or_len}
use Rattle.std.specs.Map.{keys_of, lookup}
use Rattle.indexmap.specs.IndexMap.{insert_entry}
use Rattle.tap_rows.specs.declared.rows.Note.{Note}
use Rattle.vote_scores.specs.declared.undo.VoteUndo.{VoteUndo}
use Rattle.vote_scores.specs.declared.vote_key.VoteKey.{VoteKey}
use Rattle.vote_scores.specs.contracts.vote_key.VoteKeyPartialEq.TheImpl as key
use Rattle.vote_scores.specs.Tally.{Vote, is_by, with_vote, vote_place, vote_value, restored, without_vote, CanUndoVote}
use Rattle.vote_scores.specs.Entries.{vote_at, key_of}

-- the entries after an insert

pub inserted : (note : Note) (entries : List (VoteKey × ℤ))
    → map vote_at (insert_entry key.ghosts.eq entries (key_of note) note.value) ≡ with_vote note (map vote_at entries)
inserted note [] = refl
inserted note (entry ∷ entries) = go (is_by note (vote_at entry)) (inserted note entries) where
  go : (b : Bool) → map vote_at (insert_entry key.ghosts.eq entries (key_of note) note.value) ≡ with_vote note (map vote_at entries)
      → map vote_at (if b then (entry.0, note.value) ∷ entries else entry ∷ insert_entry key.ghosts.eq entries (key_of note) note.value)
      ≡ (if b then record (vote_at entry) { value = note.value } ∷ map vote_at entries
      else vote_at entry ∷ with_vote note (map vote_at entries))
  go true rest = refl
  go false rest = ap (λ votes. vote_at entry ∷ votes) rest

position_next : {X : Type 0} (test : X → Bool) (x : X) (xs : List X)
    → position_or_len test (x ∷ xs) ≡ (if test x then 0 else suc (position_or_len test xs))
position_next test x xs = go (test x) where
  next : (n : ℕ) → 1 + n ≡ suc n
  next n = omega arith

  go : (b : Bool) → (if not b then 1 + position_or_len test xs else 0) ≡ (if b then 0 else suc (position_or_len test xs))
  go true = refl
  go false = next (position_or_len test xs)

pub placed : (note : Note) (entries : List (VoteKey × ℤ))
    → position_or_len (key.ghosts.eq (key_of note)) (keys_of entries) ≡ vote_place note (map vote_at entries)
placed note [] = refl
placed note (entry ∷ entries) =
    position_next (key.ghosts.eq (key_of note)) entry.0 (keys_of entries)
    ∙ ap (λ n. if is_by note (vote_at entry) then 0 else suc n) (placed note entries)

pub looked_up : (note : Note) (entries : List (VoteKey × ℤ))
    → lookup (key.ghosts.eq (key_of note)) entries ≡ vote_value note (map vote_at entries)
looked_up note [] = refl
looked_up note (entry ∷ entries) = ap (λ rest. if is_by note (vote_at entry) then Some entry.1 else rest) (looked_up note entries)

-- what undoes it

back : (note : Note) (votes : List Vote) → restored (vote_place note votes) (vote_value note votes) (with_vote note votes) ≡ votes
back note [] = refl
back note (vote ∷ votes) = go (is_by note vote) (back note votes) where
  tail : (place : ℕ) (old : Option ℤ) → restored place old (with_vote note votes) ≡ votes
      → restored (suc place) old (vote ∷ with_vote note votes) ≡ vote ∷ votes
  tail place None e = ap (λ rest. vote ∷ rest) e
  tail place (Some value) e = ap (λ rest. vote ∷ rest) e

  go : (b : Bool) → restored (vote_place note votes) (vote_value note votes) (with_vote note votes) ≡ votes
      → restored (if b then 0 else suc (vote_place note votes)) (if b then Some vote.value else vote_value note votes)
      (if b then record vote { value = note.value } ∷ votes else vote ∷ with_vote note votes) ≡ vote ∷ votes
  go true rest = refl
  go false rest = tail (vote_place note votes) (vote_value note votes) rest

pub undoes : (note : Note) (votes : List Vote) (undo : VoteUndo) → undo.at ≡ vote_place note votes → undo.old ≡ vote_value note votes
    → without_vote undo (with_vote note votes) ≡ votes
undoes note votes undo at old = ap (λ n. restored n undo.old (with_vote note votes)) at
    ∙ ap (λ o. restored (vote_place note votes) o (with_vote note votes)) old ∙ back note votes

within : (note : Note) (votes : List Vote) → vote_place note votes < length (with_vote note votes)
within note [] = omega arith
within note (vote ∷ votes) = go (is_by note vote) (within note votes) where
  go : (b : Bool) → vote_place note votes < length (with_vote note votes) → (if b then 0 else suc (vote_place note votes))
      < length (if b then record vote { value = note.value } ∷ votes else vote ∷ with_vote note votes)
  go true rest = omega arith
  go false rest = omega (arith, rest)

last : (note : Note) (votes : List Vote) → vote_value note votes ≡ None → vote_place note votes + 1 ≡ length (with_vote note votes)
last note [] none = refl
last note (vote ∷ votes) none = go (is_by note vote) (last note votes) none where
  go : (b : Bool) → (vote_value note votes ≡ None → vote_place note votes + 1 ≡ length (with_vote note votes))
      → (if b then Some vote.value else vote_value note votes) ≡ None → (if b then 0 else suc (vote_place note votes)) + 1
      ≡ length (if b then record vote { value = note.value } ∷ votes else vote ∷ with_vote note votes)
  go true rest none = absurd cc
  go false rest none = let r = rest none in omega (arith, r)

pub can_undo : (note : Note) (votes : List Vote) (undo : VoteUndo) → undo.at ≡ vote_place note votes → undo.old ≡ vote_value note votes
    → CanUndoVote undo (with_vote note votes)
can_undo note votes undo at old = record {
  place = let w = within note votes in omega (arith, w, at);
  last = λ none. let l = last note votes (sym old ∙ none) in omega (arith, l, at);
}

pub one_more : (note : Note) (votes : List Vote) → length (with_vote note votes) ≤ length votes + 1
one_more note [] = omega arith
one_more note (vote ∷ votes) = go (is_by note vote) (one_more note votes) where
  go : (b : Bool) → length (with_vote note votes) ≤ length votes + 1
      → length (if b then record vote { value = note.value } ∷ votes else vote ∷ with_vote note votes) ≤ length (vote ∷ votes) + 1
  go true h = omega arith
  go false h = omega (arith, h)
