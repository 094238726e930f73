-- What is found among rows, and what follows of a verdict.
use Rattle.std.proofs.Common.{◌≡◌, ◌∙◌, sym, refl, ap, List, [], ◌∷◌, Option, Some, None, Bool, true, false, inl, inr, if◌then◌else◌}
use Rattle.std.specs.Prelude.{find}
use Rattle.tap_rows.specs.declared.rows.QueryRow.{QueryRow}
use Rattle.tap_rows.specs.Kept.{In, IsOfTheSecond}
use Rattle.tql_core.proofs.OfTheSecond.{of-the-second}
use Rattle.script_lang.specs.declared.refusal.Refusal.{Refusal}
use Rattle.tap_model.specs.Queries.{condition_by, query_truth}
use Rattle.tap_model.specs.Verdicts.{first_refusal}

pub some-none : (x : Refusal) → Some x ≡ None → ⊥
some-none x e = cc

some-row : (x y : QueryRow) → Some x ≡ Some y → x ≡ y
some-row x y e = cc

no-row : (x : QueryRow) → None ≡ Some x → ⊥
no-row x e = cc

-- what is found is there
pub find-in : (p : QueryRow → Bool) (qs : List QueryRow) (q : QueryRow) → find p qs ≡ Some q → In q qs
find-in p [] q e = absurd (no-row q e)
find-in p (x ∷ qs) q e = go (p x) refl (find-in p qs q) where
  go : (b : Bool) → p x ≡ b → (find p qs ≡ Some q → In q qs) → In q (x ∷ qs)
  go true y rest = inl (sym (some-row x q (sym (ap (λ b. if b then Some x else find p qs) y) ∙ e)))
  go false n rest = inr (rest (sym (ap (λ b. if b then Some x else find p qs) n) ∙ e))

pub second-none : (x y : Option Refusal) (rest : List (Option Refusal)) → first_refusal (x ∷ y ∷ rest) ≡ None → y ≡ None
second-none None None rest e = refl
second-none None (Some y) rest e = e
second-none (Some x) None rest e = refl
second-none (Some x) (Some y) rest e = absurd (some-none x e)

-- a query's truth looks at nothing but the documents and notes that arrived by its second
pub truth-of-second : (q : QueryRow) → IsOfTheSecond (query_truth q)
truth-of-second q = of-the-second (condition_by q)
