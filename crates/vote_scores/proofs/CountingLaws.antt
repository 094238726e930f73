-- The count of votes, vote by vote.
use Rattle.std.proofs.Common.{◌≡◌, ◌∙◌, refl, sym, ap, subst, arith, ℕ, suc, ◌+◌, ◌-◌, ◌<◌, ◌≤◌, ◌^◌, Bool, true, false, ℤ, FitsSigned, w64}
use Rattle.std.proofs.Common.{List, [], ◌∷◌, length, map, if◌then◌else◌}
use Rattle.std.specs.Str.{bytes_eq}
use Rattle.tap_rows.specs.declared.score.Score.{Score}
use Rattle.vote_scores.specs.declared.vote_key.VoteKey.{VoteKey}
use Rattle.vote_scores.specs.Counts.{with_vote_counted, counted_if, counted_from, AreSmall}
use Rattle.vote_scores.specs.Entries.{vote_at}
use Rattle.vote_scores.specs.Tally.{Vote}
use Rattle.vote_scores.proofs.SmallLaws.{small_up, small_more}

-- the counts are of the votes before the entries that are left
abbrev pub Counting : List ℕ → List Vote → List Score → List (VoteKey × ℤ) → Type 0
Counting kind votes counts left = (counted_from kind [] votes ≡ counted_from kind counts (map vote_at left)) × (length left ≤ length votes)
    × AreSmall (length votes - length left) counts

entries_few : (votes : List Vote) (entries : List (VoteKey × ℤ)) → length entries < 2 ^ 32 → map vote_at entries ≡ votes
    → length votes < 2 ^ 32
entries_few votes entries few is = subst (λ n. n < 2 ^ 32) (sym (same entries) ∙ ap length is) few where
  same : (es : List (VoteKey × ℤ)) → length (map vote_at es) ≡ length es
  same [] = refl
  same (e ∷ es) = ap suc (same es)

module _ (kind : List ℕ) (votes : List Vote) (counts : List Score) (entry : VoteKey × ℤ) (left rest : List (VoteKey × ℤ))
    (is : left ≡ entry ∷ rest) (so_far : Counting kind votes counts left) where
  shorter : length left ≡ suc (length rest)
  shorter = ap length is

  pub small_enough : (entries : List (VoteKey × ℤ)) → length entries < 2 ^ 32 → map vote_at entries ≡ votes → AreSmall 4294967294 counts
  small_enough entries few seen =
      let n = entries_few votes entries few seen in
      small_up (length votes - length left) 4294967294 counts (let s = shorter in omega (arith, s, n)) so_far.2

  from_here : counted_from kind [] votes ≡ counted_from kind counts (map vote_at (entry ∷ rest))
  from_here = so_far.0 ∙ ap (λ es. counted_from kind counts (map vote_at es)) is

  fewer : length rest ≤ length votes
  fewer = let s = shorter in let l = so_far.1 in omega (arith, s, l)

  one_more : (length votes - length left) + 1 ≡ length votes - length rest
  one_more = let s = shorter in let l = so_far.1 in omega (arith, s, l)

  grown : FitsSigned w64 entry.1 → (b : Bool)
      → AreSmall (length votes - length rest) (if b then with_vote_counted entry.0.doc entry.1 counts else counts)
  grown fits true = subst (λ n. AreSmall n (with_vote_counted entry.0.doc entry.1 counts)) one_more
      (small_more (length votes - length left) entry.0.doc entry.1 counts fits so_far.2)
  grown fits false =
      small_up (length votes - length left) (length votes - length rest) counts (let o = one_more in omega (arith, o)) so_far.2

  pub one_counted : (new : List Score) → FitsSigned w64 entry.1 → new ≡ counted_if kind (vote_at entry) counts
      → Counting kind votes new rest
  one_counted new fits is_new = (
    from_here ∙ ap (λ scores. counted_from kind scores (map vote_at rest)) (sym is_new),
    fewer,
    subst (AreSmall (length votes - length rest)) (sym is_new) (grown fits (bytes_eq entry.0.kind kind)),
  )
