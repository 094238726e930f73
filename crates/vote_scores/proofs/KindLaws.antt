-- The counted scores of a kind are those of its documents.
use Rattle.std.proofs.Common.{◌≡◌, ◌∙◌, refl, sym, ap, arith, ℕ, suc, ◌+◌, ◌<◌, ◌≤◌, Bool, true, false, ℤ, pos, List, [], ◌∷◌}
use Rattle.std.proofs.Common.{length, filter, Option, Some, None, inl, inr, if◌then◌else◌}
use Rattle.std.specs.Prelude.{◌⊎◌, ◌&&◌, ◌==◌}
use Rattle.std.specs.List.{cons_option, filter_map}
use Rattle.std.specs.Str.{bytes_eq}
use Rattle.std.proofs.lemmas.Bool.{true≢false}
use Rattle.tap_base.specs.declared.numbers.DocNum.{DocNum}
use Rattle.tap_rows.specs.declared.rows.Doc.{Doc}
use Rattle.tap_rows.specs.declared.rows.Note.{Note}
use Rattle.tap_rows.specs.declared.tables.Tables.{Tables}
use Rattle.tap_rows.specs.Arrivals.{Arrived}
use Rattle.tap_rows.specs.Kept.{In}
use Rattle.tap_rows.specs.declared.score.Score.{Score}
use Rattle.tap_rows.specs.Votes.{is_vote, last_notes, votes_on, score_by, score_of, scores_in_order, scores_of, AreNumbered}
use Rattle.tap_rows.proofs.LaterLaws.{each-in}
use Rattle.vote_scores.specs.Tally.{tally}
use Rattle.vote_scores.specs.Counts.{counted_from, ScoresAreApart}
use Rattle.vote_scores.proofs.ScoreOrder.{same_order}
use Rattle.vote_scores.proofs.FoundLaws.{found_is, counted_from_apart, found_in, in_found}

-- lists

module _ (f : Doc → Option Score) where
  in_map : (docs : List Doc) (score : Score) → In score (filter_map f docs) → (doc : Doc) × In doc docs × (f doc ≡ Some score)
  in_map [] score i = absurd i
  in_map (doc ∷ docs) score i = go (f doc) refl i (λ j. in_map docs score j) where
    deeper : (d : Doc) × In d docs × (f d ≡ Some score) → (d : Doc) × In d (doc ∷ docs) × (f d ≡ Some score)
    deeper q = (q.0, inr q.1, q.2)

    go : (o : Option Score) → f doc ≡ o → In score (cons_option o (filter_map f docs))
        → (In score (filter_map f docs) → (d : Doc) × In d docs × (f d ≡ Some score)) → (d : Doc) × In d (doc ∷ docs) × (f d ≡ Some score)
    go None e i rest = deeper (rest i)
    go (Some x) e (inl is) rest = (doc, inl refl, e ∙ ap Some (sym is))
    go (Some x) e (inr j) rest = deeper (rest j)

  map_in : (docs : List Doc) (doc : Doc) (score : Score) → In doc docs → f doc ≡ Some score → In score (filter_map f docs)
  map_in [] doc score i e = absurd i
  map_in (other ∷ docs) doc score (inl is) e = go (f other) (ap f (sym is) ∙ e) where
    go : (o : Option Score) → o ≡ Some score → In score (cons_option o (filter_map f docs))
    go None e = absurd cc
    go (Some x) e = inl (let q : score ≡ x = cc in q)
  map_in (other ∷ docs) doc score (inr i) e = go (f other) (map_in docs doc score i e) where
    go : (o : Option Score) → In score (filter_map f docs) → In score (cons_option o (filter_map f docs))
    go None j = j
    go (Some x) j = inr j

-- numbers of documents

above : (num : ℕ) (low : ℤ) (docs : List Doc) (doc : Doc) → Arrived num low docs → In doc docs → num ≤ doc.num.0
above num low [] doc a i = absurd i
above num low (other ∷ docs) doc a (inl e) = let n : doc.num.0 ≡ num = ap (λ (d : Doc). d.num.0) e ∙ a.1 in omega (arith, n)
above num low (other ∷ docs) doc a (inr i) = let r = above (suc num) other.arrival docs doc a.2 i in omega (arith, r)

numbered : (num : ℕ) (low : ℤ) (docs : List Doc) (n : ℕ) → Arrived num low docs → num ≤ n → n < num + length docs
    → (doc : Doc) × In doc docs × (doc.num.0 ≡ n)
numbered num low [] n a from to = absurd (omega (arith, from, to))
numbered num low (doc ∷ docs) n a from to = go (num == n) refl (λ f. numbered (suc num) doc.arrival docs n a.2 f (omega (arith, to))) where
  next : (num == n) ≡ false → suc num ≤ n
  next e = grind (arith, from, e)

  same : (num == n) ≡ true → num ≡ n
  same e = grind (arith, e)

  deeper : (d : Doc) × In d docs × (d.num.0 ≡ n) → (d : Doc) × In d (doc ∷ docs) × (d.num.0 ≡ n)
  deeper q = (q.0, inr q.1, q.2)

  go : (b : Bool) → (num == n) ≡ b → (suc num ≤ n → (d : Doc) × In d docs × (d.num.0 ≡ n)) → (d : Doc) × In d (doc ∷ docs) × (d.num.0 ≡ n)
  go true e rest = (doc, inl refl, a.1 ∙ same e)
  go false e rest = deeper (rest (next e))

-- the score of a document

of_doc : (doc : DocNum) (votes : List Note) (score : Score) → score_by doc votes ≡ Some score → score.doc ≡ doc
of_doc doc [] score e = absurd cc
of_doc doc (vote ∷ votes) score e = let is : score.doc ≡ doc = cc in is

module _ (kind : List ℕ) (notes : List Note) where
  scores_apart : (num : ℕ) (low : ℤ) (docs : List Doc) → Arrived num low docs → ScoresAreApart (filter_map (score_of kind notes) docs)
  scores_apart num low [] a = tt
  scores_apart num low (doc ∷ docs) a = go (score_of kind notes doc) refl (scores_apart (suc num) doc.arrival docs a.2) where
    other : (score : Score) → score_of kind notes doc ≡ Some score → (y : Score) → (d : Doc) × In d docs × (score_of kind notes d ≡ Some y)
        → y.doc.0 ≡ score.doc.0 → ⊥
    other score e y q same =
        let high = above (suc num) doc.arrival docs q.0 a.2 q.1 in
        let mine : score.doc.0 ≡ num = ap (λ (n : DocNum). n.0) (of_doc doc.num (votes_on kind doc.num.0 notes) score e) ∙ a.1 in
        let its : y.doc.0 ≡ q.0.num.0 = ap (λ (n : DocNum). n.0) (of_doc q.0.num (votes_on kind q.0.num.0 notes) y q.2) in
        absurd (omega (arith, high, mine, its, same))

    go : (o : Option Score) → score_of kind notes doc ≡ o → ScoresAreApart (filter_map (score_of kind notes) docs)
        → ScoresAreApart (cons_option o (filter_map (score_of kind notes) docs))
    go None e rest = rest
    go (Some score) e rest = ((λ y i. other score e y (in_map (score_of kind notes) docs y i)), rest)

some_vote : (kind : List ℕ) (doc : ℕ) (notes : List Note)
    → (filter (is_vote kind doc) notes ≡ []) ⊎ ((note : Note) × In note notes × (note.doc.0 ≡ doc))
some_vote kind doc [] = inl refl
some_vote kind doc (note ∷ notes) = go (is_vote kind doc note) refl (some_vote kind doc notes) where
  second : (a b : Bool) → (a && b) ≡ true → b ≡ true
  second true b e = e
  second false b e = absurd (true≢false (sym e))

  same : (m n : ℕ) → (m == n) ≡ true → m ≡ n
  same m n e = grind (arith, e)

  go : (b : Bool) → is_vote kind doc note ≡ b → (filter (is_vote kind doc) notes ≡ []) ⊎ ((n : Note) × In n notes × (n.doc.0 ≡ doc))
      → ((if b then note ∷ filter (is_vote kind doc) notes else filter (is_vote kind doc) notes) ≡ [])
      ⊎ ((n : Note) × In n (note ∷ notes) × (n.doc.0 ≡ doc))
  go true e rest = inr (note, inl refl, same note.doc.0 doc (second (bytes_eq note.kind kind) (note.doc.0 == doc) e))
  go false e (inl none) = inl none
  go false e (inr q) = inr (q.0, inr q.1, q.2)

module _ (kind : List ℕ) (tables : Tables) (sound : AreNumbered tables) where
  abbrev mine : List Score
  mine = counted_from kind [] (tally tables.notes)

  abbrev theirs : List Score
  theirs = filter_map (score_of kind tables.notes) tables.docs

  mine_apart : ScoresAreApart mine
  mine_apart = counted_from_apart kind [] (tally tables.notes) tt

  to : (score : Score) → In score mine → In score theirs
  to score i = by (some_vote kind score.doc.0 tables.notes) where
    is : score_by score.doc (votes_on kind score.doc.0 tables.notes) ≡ Some score
    is = sym (found_is kind score.doc tables.notes) ∙ in_found mine score mine_apart i

    nothing : score_by score.doc (last_notes []) ≡ Some score → ⊥
    nothing e = absurd cc

    on : (note : Note) × In note tables.notes × (note.doc.0 ≡ score.doc.0) → (doc : Doc) × In doc tables.docs × (doc.num.0 ≡ score.doc.0)
    on q =
        let within = each-in (λ (note : Note). (1 ≤ note.doc.0) × (note.doc.0 ≤ length tables.docs)) tables.notes q.0 sound.notes q.1 in
        numbered 1 (pos 0) tables.docs score.doc.0 sound.docs (let w = within.0 in let n = q.2 in omega (arith, w, n))
        (let w = within.1 in let n = q.2 in omega (arith, w, n))

    listed : (doc : Doc) × In doc tables.docs × (doc.num.0 ≡ score.doc.0) → In score theirs
    listed q = map_in (score_of kind tables.notes) tables.docs q.0 score
        q.1 (ap (λ n. score_by (record { 0 = n }) (votes_on kind n tables.notes)) q.2 ∙ is)

    by : (filter (is_vote kind score.doc.0) tables.notes ≡ []) ⊎ ((note : Note) × In note tables.notes × (note.doc.0 ≡ score.doc.0))
        → In score theirs
    by (inl none) = absurd (nothing (ap (λ ns. score_by score.doc (last_notes ns)) (sym none) ∙ is))
    by (inr q) = listed (on q)

  back : (score : Score) → In score theirs → In score mine
  back score i = at (in_map (score_of kind tables.notes) tables.docs score i) where
    at : (doc : Doc) × In doc tables.docs × (score_of kind tables.notes doc ≡ Some score) → In score mine
    at q = found_in q.0.num.0 mine score (found_is kind q.0.num tables.notes ∙ q.2)

  -- in order both are the same
  pub same_scores : scores_in_order (counted_from kind [] (tally tables.notes)) ≡ scores_of kind tables
  same_scores = same_order mine theirs mine_apart (scores_apart kind tables.notes 1 (pos 0) tables.docs sound.docs) to back
