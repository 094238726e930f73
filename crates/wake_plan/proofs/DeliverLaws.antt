-- One turn of the search for one document beside a driving row.
use Rattle.std.proofs.Common.{◌≡◌, ◌∙◌, ℕ, ◌+◌, ◌≤◌, Bool, true, false, Some, None, List, [], ◌∷◌, ◌++◌, sym, ap, refl, inl, inr}
use Rattle.std.proofs.Common.{if◌then◌else◌}
use Rattle.std.specs.List.{flat_map}
use Rattle.std.proofs.lemmas.Bool.{cases_Bool}
use Rattle.tap_base.specs.declared.numbers.DocNum.{DocNum}
use Rattle.tap_rows.specs.declared.rows.Doc.{Doc}
use Rattle.tap_rows.specs.declared.results.Entry.{Entry}
use Rattle.tap_rows.specs.declared.results.Hit.{Hit}
use Rattle.probe_eval.specs.Nested.{was_seen, new_doc}
use Rattle.wake_plan.specs.Turns.{has_hit}

none_first : (xs ys : List Hit) → has_hit xs ≡ false → has_hit (xs ++ ys) ≡ has_hit ys
none_first [] ys e = refl
none_first (x ∷ xs) ys e = absurd cc

some_first : (xs ys : List Hit) → has_hit xs ≡ true → has_hit (xs ++ ys) ≡ true
some_first [] ys e = absurd cc
some_first (x ∷ xs) ys e = refl

module _ {A : Type 0} where
  -- the row that was handed out has no hit
  pub next_row : (f : A → List Hit) (whole : Bool) (rows left : List A) (r : A) (now : Bool) → whole ≡ has_hit (flat_map f rows)
      → rows ≡ r ∷ left → now ≡ has_hit (f r) → now ≡ false → whole ≡ has_hit (flat_map f left)
  next_row f whole rows left r now h e g q = h ∙ ap (λ z. has_hit (flat_map f z)) e ∙ none_first (f r) (flat_map f left) (sym g ∙ q)

  -- the row that was handed out has a hit
  pub found_row : (f : A → List Hit) (whole : Bool) (rows left : List A) (r : A) (now : Bool) → whole ≡ has_hit (flat_map f rows)
      → rows ≡ r ∷ left → now ≡ has_hit (f r) → now ≡ true → true ≡ whole
  found_row f whole rows left r now h e g q =
      sym (h ∙ ap (λ z. has_hit (flat_map f z)) e ∙ some_first (f r) (flat_map f left) (sym g ∙ q))

-- the steps for a document that isn't in the box
pub unseen_cost : (entries : List Entry) (d : Doc) (num : DocNum) → Some num ≡ new_doc entries d → (s now cost : ℕ) → now ≤ s + cost
    → now ≤ s + (if was_seen entries d then 0 else cost)
unseen_cost entries d num e s now cost h = elim (cases_Bool (was_seen entries d)) [
  | inl k ↦
      let none : new_doc entries d ≡ None = rw k refl in
      absurd (some_none (e ∙ none))
  | inr k ↦ rw k h
]
  where
    some_none : {x : DocNum} → Some x ≡ None → ⊥
    some_none q = cc
