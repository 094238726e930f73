-- Rows in order after others, one after another.
use Rattle.std.proofs.Common.{◌≡◌, ◌∙◌, sym, ap, subst, arith, ℕ, ◌+◌, ℤ, List, [], ◌∷◌, ◌++◌}
use Rattle.std.specs.Prelude.{◌≤ℤ◌}
use Rattle.std.proofs.lemmas.Int.{ints}
use Rattle.std.proofs.lemmas.List.{append_assoc, length-append}
use Rattle.tap_rows.specs.declared.tables.Tables.{Tables}
use Rattle.tap_rows.specs.declared.rows.Doc.{Doc}
use Rattle.tap_rows.specs.declared.rows.Note.{Note}
use Rattle.tap_rows.specs.declared.change.Change.TheVariants.{Docs, OneNote}
use Rattle.tap_rows.specs.Kept.{Each}
use Rattle.tap_rows.specs.Tables.{after}
use Rattle.tap_kept.specs.Starting.{AreInOrder, FollowInOrder, with_notes}

each-up : {A : Type 0} (f : A → ℤ) (m n : ℤ) (rows : List A) → m ≤ℤ n → Each (λ row. f row ≤ℤ m) rows → Each (λ row. f row ≤ℤ n) rows
each-up f m n [] le each = tt
each-up f m n (row ∷ rows) le each = (omega (arith, ints, each.0, le), each-up f m n rows le each.1)

each-one : {A : Type 0} (f : A → ℤ) (rows : List A) (x : A) → Each (λ row. f row ≤ℤ f x) rows → Each (λ row. f row ≤ℤ f x) (rows ++ x ∷ [])
each-one f [] x each = (omega (arith, ints), tt)
each-one f (row ∷ rows) x each = (each.0, each-one f rows x each.1)

-- none of the others arrived later
pub left-after : {A : Type 0} (number : A → ℕ) (arrival : A → ℤ) (others : List A) (x : A) (rows : List A)
    → FollowInOrder number arrival others (x ∷ rows) → Each (λ other. arrival other ≤ℤ arrival x) others
left-after number arrival others x rows left = each-up arrival left.low (arrival x) others left.stand.1 left.before

-- the next row is one of the others
pub left-next : {A : Type 0} (number : A → ℕ) (arrival : A → ℤ) (others : List A) (x : A) (rows : List A)
    → FollowInOrder number arrival others (x ∷ rows) → FollowInOrder number arrival (others ++ x ∷ []) rows
left-next number arrival others x rows left = record {
  low = arrival x;
  before = each-one arrival others x (left-after number arrival others x rows left);
  stand = subst (λ n. AreInOrder number arrival (n + 1) (arrival x) rows) (sym (length-append others (x ∷ []))) left.stand.3;
}

pub docs-next : (now new : Tables) (doc : Doc) (rest : List Doc) → new ≡ after now (Docs (doc ∷ []))
    → after now (Docs (doc ∷ rest)) ≡ after new (Docs rest)
docs-next now new doc rest is = ap (λ l. record now { docs = l }) (sym (append_assoc now.docs (doc ∷ []) rest))
    ∙ ap (λ t. after t (Docs rest)) (sym is)

pub notes-next : (now new : Tables) (note : Note) (rest : List Note) → new ≡ after now (OneNote note)
    → with_notes now (note ∷ rest) ≡ with_notes new rest
notes-next now new note rest is = ap (λ l. record now { notes = l }) (sym (append_assoc now.notes (note ∷ []) rest))
    ∙ ap (λ t. with_notes t rest) (sym is)
