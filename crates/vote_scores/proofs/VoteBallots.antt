-- The ballots of votes and of notes, of one kind on one document.
use Rattle.std.proofs.Common.{◌≡◌, ◌∙◌, refl, sym, ap, arith, ℕ, suc, Bool, true, false, ◌+ℤ◌, List, [], ◌∷◌, length, map, filter, fold}
use Rattle.std.proofs.Common.{if◌then◌else◌}
use Rattle.std.specs.Prelude.{◌&&◌, ◌||◌, ◌==◌}
use Rattle.std.specs.List.{list_any}
use Rattle.std.specs.Str.{bytes_eq}
use Rattle.std.proofs.lemmas.Bool.{and_parts, eqb-true}
use Rattle.tap_rows.specs.declared.rows.Note.{Note}
use Rattle.tap_rows.specs.Votes.{is_vote, is_of_author, last_notes, votes_on, sum_of}
use Rattle.tap_rows.proofs.Tests.{bytes_same, bytes_itself}
use Rattle.vote_scores.specs.Tally.{Vote, is_by, with_vote, tally}
use Rattle.vote_scores.proofs.Ballots.{Ballot, put, lasts, has, weigh, all_put, all_count}

-- is the vote of this kind on this document?
abbrev pub is_on : List ℕ → ℕ → Vote → Bool
is_on kind doc vote = bytes_eq vote.kind kind && (vote.doc == doc)

-- the ballots of votes
abbrev pub ballots : List ℕ → ℕ → List Vote → List Ballot
ballots kind doc [] = []
ballots kind doc (vote ∷ votes) = if is_on kind doc vote then (vote.author, vote.value) ∷ ballots kind doc votes else ballots kind doc votes

-- the ballot of a note
abbrev ballot : Note → Ballot
ballot note = (note.author, note.value)

own_number : (n : ℕ) → (n == n) ≡ true
own_number n = grind arith

-- the vote of a note is of its kind and document
of_note : (kind : List ℕ) (doc : ℕ) (note : Note) (vote : Vote) → is_by note vote ≡ true
    → (is_on kind doc vote ≡ is_vote kind doc note) × (bytes_eq note.author vote.author ≡ true)
of_note kind doc note vote e =
    let k = and_parts (bytes_eq note.kind vote.kind) ((note.doc.0 == vote.doc) && bytes_eq note.author vote.author) e in
    let d = and_parts (note.doc.0 == vote.doc) (bytes_eq note.author vote.author) k.1 in (
      ap (λ x. bytes_eq x kind && (vote.doc == doc)) (sym (bytes_same note.kind vote.kind k.0))
          ∙ ap (λ n. bytes_eq note.kind kind && (n == doc)) (sym (eqb-true note.doc.0 vote.doc d.0)),
      d.1,
    )

-- of one kind and document the author decides
by_author : (kind : List ℕ) (doc : ℕ) (note : Note) (vote : Vote) → is_vote kind doc note ≡ true → is_on kind doc vote ≡ true
    → is_by note vote ≡ bytes_eq note.author vote.author
by_author kind doc note vote n v =
    let p = and_parts (bytes_eq note.kind kind) (note.doc.0 == doc) n in
    let q = and_parts (bytes_eq vote.kind kind) (vote.doc == doc) v in
    let k : note.kind ≡ vote.kind = bytes_same note.kind kind p.0 ∙ sym (bytes_same vote.kind kind q.0) in
    let d : note.doc.0 ≡ vote.doc = eqb-true note.doc.0 doc p.1 ∙ sym (eqb-true vote.doc doc q.1) in
    let kinds : bytes_eq note.kind vote.kind ≡ true = ap (λ x. bytes_eq x vote.kind) k ∙ bytes_itself vote.kind in
    let docs : (note.doc.0 == vote.doc) ≡ true = ap (λ n. n == vote.doc) d ∙ own_number vote.doc in
    ap (λ b. b && ((note.doc.0 == vote.doc) && bytes_eq note.author vote.author)) kinds
    ∙ ap (λ b. b && bytes_eq note.author vote.author) docs

-- the ballots after one more vote
one_more : (kind : List ℕ) (doc : ℕ) (note : Note) (votes : List Vote) → ballots kind doc (with_vote note votes)
    ≡ (if is_vote kind doc note then put (ballot note) (ballots kind doc votes) else ballots kind doc votes)
one_more kind doc note [] = refl
one_more kind doc note (vote ∷ votes) = go (is_by note vote) refl (one_more kind doc note votes) where
  step : (on of : Bool) → is_on kind doc vote ≡ on → is_vote kind doc note ≡ of → is_by note vote ≡ false
      → ballots kind doc (with_vote note votes) ≡ (if of then put (ballot note) (ballots kind doc votes) else ballots kind doc votes)
      → (if on then (vote.author, vote.value) ∷ ballots kind doc (with_vote note votes) else ballots kind doc (with_vote note votes))
      ≡ (if of then put (ballot note) (if on then (vote.author, vote.value) ∷ ballots kind doc votes else ballots kind doc votes)
      else (if on then (vote.author, vote.value) ∷ ballots kind doc votes else ballots kind doc votes))
  step true true on of not i =
      ap (λ bs. (vote.author, vote.value) ∷ bs) i ∙ sym (ap (λ b. if b then (vote.author, note.value) ∷ ballots kind doc votes
      else (vote.author, vote.value) ∷ put (ballot note) (ballots kind doc votes)) (sym (by_author kind doc note vote of on) ∙ not))
  step true false on of not i = ap (λ bs. (vote.author, vote.value) ∷ bs) i
  step false true on of not i = i
  step false false on of not i = i

  found : (on : Bool) → is_on kind doc vote ≡ on → is_vote kind doc note ≡ on → bytes_eq note.author vote.author ≡ true
      → (if on then (vote.author, note.value) ∷ ballots kind doc votes else ballots kind doc votes)
      ≡ (if on then put (ballot note) (if on then (vote.author, vote.value) ∷ ballots kind doc votes else ballots kind doc votes)
      else (if on then (vote.author, vote.value) ∷ ballots kind doc votes else ballots kind doc votes))
  found true on of same = sym (ap (λ b. if b then (vote.author, note.value) ∷ ballots kind doc votes
      else (vote.author, vote.value) ∷ put (ballot note) (ballots kind doc votes)) same)
  found false on of same = refl

  whole : (on of : Bool) → is_on kind doc vote ≡ on → is_vote kind doc note ≡ of
      → ((if on then (vote.author, note.value) ∷ ballots kind doc votes else ballots kind doc votes)
      ≡ (if of then put (ballot note) (if on then (vote.author, vote.value) ∷ ballots kind doc votes else ballots kind doc votes)
      else (if on then (vote.author, vote.value) ∷ ballots kind doc votes else ballots kind doc votes)))
      → (if is_on kind doc vote then (vote.author, note.value) ∷ ballots kind doc votes else ballots kind doc votes)
      ≡ (if is_vote kind doc note then put (ballot note)
      (if is_on kind doc vote then (vote.author, vote.value) ∷ ballots kind doc votes else ballots kind doc votes)
      else (if is_on kind doc vote then (vote.author, vote.value) ∷ ballots kind doc votes else ballots kind doc votes))
  whole on of p q e =
      ap (λ b. if b then (vote.author, note.value) ∷ ballots kind doc votes else ballots kind doc votes) p ∙ e
      ∙ sym (ap (λ b. if is_vote kind doc note then put (ballot note) (if b then (vote.author, vote.value) ∷ ballots kind doc votes else
      ballots kind doc votes) else (if b then (vote.author, vote.value) ∷ ballots kind doc votes else ballots kind doc votes)) p
      ∙ ap (λ b. if b then put (ballot note) (if on then (vote.author, vote.value) ∷ ballots kind doc votes else ballots kind doc votes)
      else (if on then (vote.author, vote.value) ∷ ballots kind doc votes else ballots kind doc votes)) q)

  go : (t : Bool) → is_by note vote ≡ t → ballots kind doc (with_vote note votes)
      ≡ (if is_vote kind doc note then put (ballot note) (ballots kind doc votes) else ballots kind doc votes)
      → ballots kind doc (if t then record vote { value = note.value } ∷ votes else vote ∷ with_vote note votes)
      ≡ (if is_vote kind doc note then put (ballot note) (ballots kind doc (vote ∷ votes)) else ballots kind doc (vote ∷ votes))
  go true e i =
      let o = of_note kind doc note vote e in
      whole (is_on kind doc vote) (is_on kind doc vote) refl (sym o.0) (found (is_on kind doc vote) refl (sym o.0) o.1)
  go false e i = step (is_on kind doc vote) (is_vote kind doc note) refl refl e i

-- the ballots after each of the notes in turn
all_from : (kind : List ℕ) (doc : ℕ) (notes : List Note) (votes : List Vote)
    → ballots kind doc (fold (λ votes note. with_vote note votes) votes notes)
    ≡ fold (λ done b. put b done) (ballots kind doc votes) (map ballot (filter (is_vote kind doc) notes))
all_from kind doc [] votes = refl
all_from kind doc (note ∷ notes) votes =
    all_from kind doc notes (with_vote note votes)
    ∙ ap (λ bs. fold (λ done b. put b done) bs (map ballot (filter (is_vote kind doc) notes))) (one_more kind doc note votes)
    ∙ go (is_vote kind doc note)
  where
    go : (t : Bool) → fold (λ done b. put b done) (if t then put (ballot note) (ballots kind doc votes) else ballots kind doc votes)
        (map ballot (filter (is_vote kind doc) notes)) ≡ fold (λ done b. put b done) (ballots kind doc votes)
        (map ballot (if t then note ∷ filter (is_vote kind doc) notes else filter (is_vote kind doc) notes))
    go true = refl
    go false = refl

-- each author's last note, as ballots
some_author : (note : Note) (notes : List Note) → list_any (is_of_author note) notes ≡ has note.author (map ballot notes)
some_author note [] = refl
some_author note (other ∷ notes) = ap (λ b. bytes_eq note.author other.author || b) (some_author note notes)

last_ballots : (notes : List Note) → map ballot (last_notes notes) ≡ lasts (map ballot notes)
last_ballots [] = refl
last_ballots (note ∷ notes) =
    go (list_any (is_of_author note) notes)
    ∙ ap (λ t. if t then map ballot (last_notes notes) else ballot note ∷ map ballot (last_notes notes)) (some_author note notes)
    ∙ ap (λ bs. if has note.author (map ballot notes) then bs else ballot note ∷ bs) (last_ballots notes)
  where
    go : (t : Bool) → map ballot (if t then last_notes notes else note ∷ last_notes notes)
        ≡ (if t then map ballot (last_notes notes) else ballot note ∷ map ballot (last_notes notes))
    go true = refl
    go false = refl

length_ballots : (notes : List Note) → length (map ballot notes) ≡ length notes
length_ballots [] = refl
length_ballots (note ∷ notes) = ap suc (length_ballots notes)

sum_ballots : (notes : List Note) → weigh (λ value. value) (map ballot notes) ≡ sum_of notes
sum_ballots [] = refl
sum_ballots (note ∷ notes) = ap (λ s. note.value +ℤ s) (sum_ballots notes)

-- as many ballots as votes, with their sum
pub voters_are : (kind : List ℕ) (doc : ℕ) (notes : List Note) → length (ballots kind doc (tally notes)) ≡ length (votes_on kind doc notes)
voters_are kind doc notes =
    ap length (all_from kind doc notes []) ∙ all_count (map ballot (filter (is_vote kind doc) notes))
    ∙ sym (ap length (last_ballots (filter (is_vote kind doc) notes))) ∙ length_ballots (votes_on kind doc notes)

pub sum_is : (kind : List ℕ) (doc : ℕ) (notes : List Note)
    → weigh (λ value. value) (ballots kind doc (tally notes)) ≡ sum_of (votes_on kind doc notes)
sum_is kind doc notes =
    ap (weigh (λ value. value)) (all_from kind doc notes []) ∙ all_put (λ value. value) (map ballot (filter (is_vote kind doc) notes))
    ∙ sym (ap (weigh (λ value. value)) (last_ballots (filter (is_vote kind doc) notes))) ∙ sum_ballots (votes_on kind doc notes)
