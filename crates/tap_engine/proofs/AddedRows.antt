-- What an index owns of the tables, and what is left of it.
use Rattle.std.proofs.Common.{◌≡◌, ◌∙◌, sym, refl, ap, subst, arith, ℕ, zero, suc, ◌+◌, ◌<◌, ◌≤◌, List, [], ◌∷◌, ◌++◌, length, take}
use Rattle.std.specs.Prelude.{◌≤ℤ◌, true, ℤ, drop, nat_le, slice_index_or}
use Rattle.std.proofs.lemmas.List.{append_assoc, length-append}
use Rattle.std.proofs.lemmas.Bool.{and_parts}
use Rattle.tap_kept.proofs.NewLaws.{back-more}
use Rattle.tap_rows.specs.declared.rows.Doc.{Doc}
use Rattle.tap_rows.specs.declared.change.Change.TheVariants.{Docs}
use Rattle.tap_rows.specs.Kept.{Each}
use Rattle.tap_rows.specs.Tables.{after}
use Rattle.tap_model.specs.Replies.{docs_from}
use Rattle.tap_model.specs.Verdicts.{are_short}
use Rattle.tap_rows.specs.declared.tables.Tables.{Tables}
use Rattle.tap_engine.specs.declared.engine.Engine.{Engine}
use Rattle.tap_engine.specs.Standing.{Represents}

pub docs-are : {e : Engine} {t : Tables} → Represents e t → e.index.docs ≡ t.docs
docs-are represents = ap (λ (rows : Tables). rows.docs) represents.rows

pub notes-are : {e : Engine} {t : Tables} → Represents e t → e.index.notes ≡ t.notes
notes-are represents = ap (λ (rows : Tables). rows.notes) represents.rows

item-at : {A : Type 0} (i : ℕ) (xs : List A) (x : A) → i < length xs → x ≡ slice_index_or xs i x → drop i xs ≡ x ∷ drop (i + 1) xs
item-at i [] x lt is = absurd (omega (arith, lt))
item-at zero (y ∷ xs) x lt is = ap (λ z. z ∷ xs) (sym is)
item-at (suc i) (y ∷ xs) x lt is =
    let up : suc i + 1 ≡ suc (i + 1) = omega arith in
    rw up (item-at i xs x (omega (arith, lt)) is)

-- the documents of the messages that are left, once one more is added
pub push-rows : (old now new : Tables) (m : ℤ) (texts : List (List ℕ)) (text : List ℕ) (i : ℕ) → i < length texts
    → text ≡ slice_index_or texts i text
    → new ≡ after now (Docs (docs_from (length now.docs + 1) m (text ∷ [])))
    → old ≡ after now (Docs (docs_from (length now.docs + 1) m (drop i texts)))
    → old ≡ after new (Docs (docs_from (length new.docs + 1) m (drop (i + 1) texts)))
push-rows old now new m texts text i lt is is-new rows =
    let n : ℕ = length now.docs + 1 in
    let doc : Doc = record { num = record { 0 = n }; arrival = m; text = text } in
    let rest : List (List ℕ) = drop (i + 1) texts in
    rows ∙ ap (λ l. after now (Docs (docs_from n m l))) (item-at i texts text lt is)
    ∙ ap (λ l. record now { docs = l }) (sym (append_assoc now.docs (doc ∷ []) (docs_from (n + 1) m rest)))
    ∙ ap (λ k. after (after now (Docs (doc ∷ []))) (Docs (docs_from (k + 1) m rest))) (sym (length-append now.docs (doc ∷ [])))
    ∙ ap (λ t. after t (Docs (docs_from (length t.docs + 1) m rest))) (sym is-new)

-- those that were there before are unchanged
pub push-back : (old now new : Tables) (docs : List Doc) (n : ℕ) → n ≤ length now.docs → new ≡ after now (Docs docs)
    → record now { docs = take n now.docs } ≡ old → record new { docs = take n new.docs } ≡ old
push-back old now new docs n le is-new back = ap (λ (t : Tables). record t { docs = take n t.docs }) is-new
    ∙ ap (λ l. record now { docs = l }) (back-more n now.docs docs le) ∙ back

pub push-count : (now new : Tables) (doc : Doc) (k i : ℕ) → new ≡ after now (Docs (doc ∷ [])) → length now.docs ≡ k + i
    → length new.docs ≡ k + (i + 1)
push-count now new doc k i is-new count = ap (λ (t : Tables). length t.docs) is-new ∙ length-append now.docs (doc ∷ [])
    ∙ one (length now.docs) k i count where
      one : (n k i : ℕ) → n ≡ k + i → n + 1 ≡ k + (i + 1)
      one n k i e = omega (arith, e)

each-more : (m : ℤ) (docs : List Doc) (doc : Doc) → Each (λ other. other.arrival ≤ℤ m) docs → doc.arrival ≤ℤ m
    → Each (λ other. other.arrival ≤ℤ m) (docs ++ doc ∷ [])
each-more m [] doc each le = (le, tt)
each-more m (x ∷ docs) doc each le = (each.0, each-more m docs doc each.1 le)

pub push-by : (now new : Tables) (m : ℤ) (doc : Doc) → new ≡ after now (Docs (doc ∷ [])) → doc.arrival ≤ℤ m
    → Each (λ other. other.arrival ≤ℤ m) now.docs → Each (λ other. other.arrival ≤ℤ m) new.docs
push-by now new m doc is-new le each =
    subst (λ (t : Tables). Each (λ other. other.arrival ≤ℤ m) t.docs) (sym is-new) (each-more m now.docs doc each le)

nat-le : (a b : ℕ) → nat_le a b ≡ true → a ≤ b
nat-le a b e = grind arith

-- the next message is short, and so are those after it
pub push-short : (texts : List (List ℕ)) (text : List ℕ) (i : ℕ) → i < length texts → text ≡ slice_index_or texts i text
    → are_short (drop i texts) ≡ true → (length text ≤ 1048576) × (are_short (drop (i + 1) texts) ≡ true)
push-short texts text i lt is short =
    let both = and_parts (nat_le (length text) 1048576) (are_short (drop (i + 1) texts))
    (sym (ap are_short (item-at i texts text lt is)) ∙ short) in
    (nat-le (length text) 1048576 both.0, both.1)

docs-many : (num : ℕ) (m : ℤ) (texts : List (List ℕ)) → length (docs_from num m texts) ≡ length texts
docs-many num m [] = refl
docs-many num m (text ∷ texts) = ap suc (docs-many (num + 1) m texts)

-- how many documents there are with those of some messages
pub docs-room : (now new : Tables) (num : ℕ) (m : ℤ) (texts : List (List ℕ)) (room : ℕ) → new ≡ after now (Docs (docs_from num m texts))
    → length now.docs + length texts ≤ room → length new.docs ≤ room
docs-room now new num m texts room is le =
    let many : length new.docs ≡ length now.docs + length texts = ap (λ (t : Tables). length t.docs) is
    ∙ length-append now.docs (docs_from num m texts) ∙ ap (λ n. length now.docs + n) (docs-many num m texts) in
    omega (arith, many, le)
