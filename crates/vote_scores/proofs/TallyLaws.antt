-- The tally, note by note.
use Rattle.std.proofs.Common.{◌≡◌, arith, ◌+◌, ◌≤◌, List, [], ◌∷◌, ◌++◌, length, fold}
use Rattle.std.proofs.lemmas.List.Sums.{fold-append}
use Rattle.tap_rows.specs.declared.rows.Note.{Note}
use Rattle.vote_scores.specs.Tally.{Vote, with_vote, tally}
use Rattle.vote_scores.proofs.AddLaws.{one_more}

-- one more note is one more vote
pub tally-more : (notes : List Note) (note : Note) → tally (notes ++ note ∷ []) ≡ with_vote note (tally notes)
tally-more notes note = fold-append (λ votes note. with_vote note votes) [] notes (note ∷ [])

few_from : (notes : List Note) (votes : List Vote)
    → length (fold (λ votes note. with_vote note votes) votes notes) ≤ length votes + length notes
few_from [] votes = omega arith
few_from (note ∷ notes) votes = let h = one_more note votes in let r = few_from notes (with_vote note votes) in omega (arith, h, r)

-- there are at most as many votes as notes
pub tally-few : (notes : List Note) → length (tally notes) ≤ length notes
tally-few notes = let h = few_from notes [] in omega (arith, h)
