-- The score of a document among counted ones.
use Rattle.std.proofs.Common.{◌≡◌, ◌∙◌, refl, sym, ap, arith, ℕ, zero, suc, ◌+◌, Bool, true, false, ℤ, ◌+ℤ◌, List, [], ◌∷◌, length, Option}
use Rattle.std.proofs.Common.{Some, None, inl, inr, if◌then◌else◌}
use Rattle.std.specs.Prelude.{◌⊎◌, ◌&&◌, ◌==◌}
use Rattle.std.specs.Str.{bytes_eq}
use Rattle.std.proofs.lemmas.Int.{ints}
use Rattle.std.proofs.lemmas.Bool.{true≢false, eqb-true}
use Rattle.tap_base.specs.declared.numbers.DocNum.{DocNum}
use Rattle.tap_rows.specs.declared.rows.Note.{Note}
use Rattle.tap_rows.specs.Kept.{In}
use Rattle.tap_rows.specs.declared.score.Score.{Score}
use Rattle.tap_rows.specs.Votes.{votes_on, sum_of, score_by}
use Rattle.tap_rows.proofs.Tests.{nat_flip}
use Rattle.vote_scores.specs.Tally.{Vote, tally}
use Rattle.vote_scores.specs.Counts.{with_vote_counted, counted_if, counted_from, ScoresAreApart}
use Rattle.vote_scores.proofs.Ballots.{Ballot, weigh}
use Rattle.vote_scores.proofs.VoteBallots.{ballots, voters_are, sum_is}

-- the score of a document
abbrev pub found : ℕ → List Score → Option Score
found doc [] = None
found doc (score ∷ scores) = if doc == score.doc.0 then Some score else found doc scores

-- a score with one more vote
abbrev grown : ℕ → ℤ → Option Score → Score
grown doc value None = record { doc = record { 0 = doc }; voters = 1; sum = value }
grown doc value (Some score) = record score { voters = score.voters + 1; sum = score.sum +ℤ value }

-- a score after each of some ballots in turn
abbrev scored : ℕ → Option Score → List Ballot → Option Score
scored doc score [] = score
scored doc score (b ∷ bs) = scored doc (Some (grown doc b.1 score)) bs

own_number : (n : ℕ) → (n == n) ≡ true
own_number n = grind arith

found_same : (doc : ℕ) (value : ℤ) (scores : List Score)
    → found doc (with_vote_counted doc value scores) ≡ Some (grown doc value (found doc scores))
found_same doc value [] = ap (λ b. if b then Some (grown doc value None) else None) (own_number doc)
found_same doc value (score ∷ scores) = go (doc == score.doc.0) refl (found_same doc value scores) where
  go : (b : Bool) → (doc == score.doc.0) ≡ b → found doc (with_vote_counted doc value scores) ≡ Some (grown doc value (found doc scores))
      → found doc (if b then record score { voters = score.voters + 1; sum = score.sum +ℤ value } ∷ scores
      else score ∷ with_vote_counted doc value scores) ≡ Some (grown doc value (if b then Some score else found doc scores))
  go true e i = ap (λ b. if b then Some (grown doc value (Some score)) else found doc scores) e
  go false e i = ap (λ b. if b then Some score else found doc (with_vote_counted doc value scores)) e ∙ i

found_other : (doc other : ℕ) (value : ℤ) (scores : List Score) → (doc == other) ≡ false
    → found doc (with_vote_counted other value scores) ≡ found doc scores
found_other doc other value [] e = ap (λ b. if b then Some (grown other value None) else None) e
found_other doc other value (score ∷ scores) e = go (other == score.doc.0) refl (found_other doc other value scores e) where
  go : (b : Bool) → (other == score.doc.0) ≡ b → found doc (with_vote_counted other value scores) ≡ found doc scores
      → found doc (if b then record score { voters = score.voters + 1; sum = score.sum +ℤ value } ∷ scores
      else score ∷ with_vote_counted other value scores) ≡ (if doc == score.doc.0 then Some score else found doc scores)
  go true q i =
      let no : (doc == score.doc.0) ≡ false = ap (λ n. doc == n) (sym (eqb-true other score.doc.0 q)) ∙ e in
      ap (λ b. if b then Some (grown other value (Some score)) else found doc scores) no
      ∙ sym (ap (λ b. if b then Some score else found doc scores) no)
  go false q i = ap (λ rest. if doc == score.doc.0 then Some score else rest) i

found_from : (kind : List ℕ) (doc : ℕ) (scores : List Score) (votes : List Vote)
    → found doc (counted_from kind scores votes) ≡ scored doc (found doc scores) (ballots kind doc votes)
found_from kind doc scores [] = refl
found_from kind doc scores (vote ∷ votes) = found_from kind doc (counted_if kind vote scores) votes
    ∙ go (bytes_eq vote.kind kind) (vote.doc == doc) refl where
      go : (k d : Bool) → (vote.doc == doc) ≡ d
          → scored doc (found doc (if k then with_vote_counted vote.doc vote.value scores else scores)) (ballots kind doc votes)
          ≡ scored doc (found doc scores) (if k && d then (vote.author, vote.value) ∷ ballots kind doc votes else ballots kind doc votes)
      go false d q = refl
      go true true q =
          let is : vote.doc ≡ doc = eqb-true vote.doc doc q in
          ap (λ o. scored doc o (ballots kind doc votes))
          (ap (λ n. found doc (with_vote_counted n vote.value scores)) is ∙ found_same doc vote.value scores)
      go true false q =
          ap (λ o. scored doc o (ballots kind doc votes)) (found_other doc vote.doc vote.value scores (nat_flip doc vote.doc ∙ q))

-- in one step

abbrev some_score : DocNum → ℕ → ℤ → Option Score
some_score doc voters sum = Some (record { doc = doc; voters = voters; sum = sum })

score_is : (doc : DocNum) (m n : ℕ) (s t : ℤ) → m ≡ n → s ≡ t → some_score doc m s ≡ some_score doc n t
score_is doc m n s t e f = ap (λ x. some_score doc x s) e ∙ ap (λ x. some_score doc n x) f

scored_some : (doc : ℕ) (score : Score) (bs : List Ballot)
    → scored doc (Some score) bs ≡ some_score score.doc (score.voters + length bs) (score.sum +ℤ weigh (λ value. value) bs)
scored_some doc score [] = score_is score.doc score.voters (score.voters + 0) score.sum _ (omega arith) (omega (arith, ints))
scored_some doc score (b ∷ bs) =
    scored_some doc (grown doc b.1 (Some score)) bs
    ∙ score_is score.doc (score.voters + 1 + length bs) (score.voters + suc (length bs)) _ _ (omega arith) (omega (arith, ints))

-- the score of that many votes with a sum
abbrev score_in : DocNum → ℕ → ℤ → Option Score
score_in doc zero sum = None
score_in doc (suc n) sum = some_score doc (suc n) sum

scored_none : (doc : ℕ) (bs : List Ballot) → scored doc None bs ≡ score_in (record { 0 = doc }) (length bs) (weigh (λ value. value) bs)
scored_none doc [] = refl
scored_none doc (b ∷ bs) = scored_some doc (grown doc b.1 None) bs
    ∙ score_is (record { 0 = doc }) (1 + length bs) (suc (length bs)) _ _ (omega arith) refl

by_in : (doc : DocNum) (votes : List Note) → score_by doc votes ≡ score_in doc (length votes) (sum_of votes)
by_in doc [] = refl
by_in doc (vote ∷ votes) = refl

-- the counted score of a document is that of its notes
pub found_is : (kind : List ℕ) (doc : DocNum) (notes : List Note)
    → found doc.0 (counted_from kind [] (tally notes)) ≡ score_by doc (votes_on kind doc.0 notes)
found_is kind doc notes =
    found_from kind doc.0 [] (tally notes) ∙ scored_none doc.0 (ballots kind doc.0 (tally notes))
    ∙ ap (λ n. score_in doc n (weigh (λ value. value) (ballots kind doc.0 (tally notes)))) (voters_are kind doc.0 notes)
    ∙ ap (λ s. score_in doc (length (votes_on kind doc.0 notes)) s) (sum_is kind doc.0 notes)
    ∙ sym (by_in doc (votes_on kind doc.0 notes))

-- counted scores are of distinct documents

in_counted : (doc : ℕ) (value : ℤ) (scores : List Score) (x : Score) → In x (with_vote_counted doc value scores)
    → (x.doc.0 ≡ doc) ⊎ ((y : Score) × In y scores × (x.doc.0 ≡ y.doc.0))
in_counted doc value [] x (inl e) = inl (ap (λ (s : Score). s.doc.0) e)
in_counted doc value [] x (inr i) = absurd i
in_counted doc value (score ∷ scores) x i = go (doc == score.doc.0) i (λ j. in_counted doc value scores x j) where
  deeper : (x.doc.0 ≡ doc) ⊎ ((y : Score) × In y scores × (x.doc.0 ≡ y.doc.0))
      → (x.doc.0 ≡ doc) ⊎ ((y : Score) × In y (score ∷ scores) × (x.doc.0 ≡ y.doc.0))
  deeper (inl e) = inl e
  deeper (inr q) = inr (q.0, inr q.1, q.2)

  go : (b : Bool) → In x (if b then record score { voters = score.voters + 1; sum = score.sum +ℤ value } ∷ scores
      else score ∷ with_vote_counted doc value scores)
      → (In x (with_vote_counted doc value scores) → (x.doc.0 ≡ doc) ⊎ ((y : Score) × In y scores × (x.doc.0 ≡ y.doc.0)))
      → (x.doc.0 ≡ doc) ⊎ ((y : Score) × In y (score ∷ scores) × (x.doc.0 ≡ y.doc.0))
  go true (inl e) rest = inr (score, inl refl, ap (λ (s : Score). s.doc.0) e)
  go true (inr j) rest = inr (x, inr j, refl)
  go false (inl e) rest = inr (score, inl refl, ap (λ (s : Score). s.doc.0) e)
  go false (inr j) rest = deeper (rest j)

counted_apart : (doc : ℕ) (value : ℤ) (scores : List Score) → ScoresAreApart scores → ScoresAreApart (with_vote_counted doc value scores)
counted_apart doc value [] apart = ((λ y i. absurd i), tt)
counted_apart doc value (score ∷ scores) apart = go (doc == score.doc.0) refl (counted_apart doc value scores apart.1) where
  other : (doc == score.doc.0) ≡ false → (y : Score) → (y.doc.0 ≡ doc) ⊎ ((z : Score) × In z scores × (y.doc.0 ≡ z.doc.0))
      → y.doc.0 ≡ score.doc.0 → ⊥
  other e y (inl d) same = absurd (true≢false (sym (own_number score.doc.0) ∙ ap (λ n. n == score.doc.0) (sym same ∙ d) ∙ e))
  other e y (inr q) same = apart.0 q.0 q.1 (sym q.2 ∙ same)

  go : (b : Bool) → (doc == score.doc.0) ≡ b → ScoresAreApart (with_vote_counted doc value scores) → ScoresAreApart (if b
      then record score { voters = score.voters + 1; sum = score.sum +ℤ value } ∷ scores else score ∷ with_vote_counted doc value scores)
  go true e rest = apart
  go false e rest = ((λ y i. other e y (in_counted doc value scores y i)), rest)

pub counted_from_apart : (kind : List ℕ) (scores : List Score) (votes : List Vote) → ScoresAreApart scores
    → ScoresAreApart (counted_from kind scores votes)
counted_from_apart kind scores [] apart = apart
counted_from_apart kind scores (vote ∷ votes) apart =
    counted_from_apart kind (counted_if kind vote scores) votes (go (bytes_eq vote.kind kind)) where
      go : (b : Bool) → ScoresAreApart (if b then with_vote_counted vote.doc vote.value scores else scores)
      go true = counted_apart vote.doc vote.value scores apart
      go false = apart

-- what is found is among the scores

pub found_in : (doc : ℕ) (scores : List Score) (score : Score) → found doc scores ≡ Some score → In score scores
found_in doc [] score e = absurd cc
found_in doc (other ∷ scores) score e = go (doc == other.doc.0) e (λ f. found_in doc scores score f) where
  go : (b : Bool) → (if b then Some other else found doc scores) ≡ Some score → (found doc scores ≡ Some score → In score scores)
      → In score (other ∷ scores)
  go true e rest = inl (let is : score ≡ other = cc in is)
  go false e rest = inr (rest e)

pub in_found : (scores : List Score) (score : Score) → ScoresAreApart scores → In score scores → found score.doc.0 scores ≡ Some score
in_found [] score apart i = absurd i
in_found (other ∷ scores) score apart (inl e) = ap (λ b. if b then Some other else found score.doc.0 scores)
    (ap (λ (s : Score). s.doc.0 == other.doc.0) e ∙ own_number other.doc.0) ∙ ap Some (sym e)
in_found (other ∷ scores) score apart (inr i) = go (score.doc.0 == other.doc.0) refl (in_found scores score apart.1 i) where
  go : (b : Bool) → (score.doc.0 == other.doc.0) ≡ b → found score.doc.0 scores ≡ Some score
      → (if b then Some other else found score.doc.0 scores) ≡ Some score
  go true e rest = absurd (apart.0 score i (eqb-true score.doc.0 other.doc.0 e))
  go false e rest = rest
