-- A query that is looked at behind others.
use Rattle.std.proofs.Common.{◌≡◌, ◌∙◌, sym, ap, arith, ℕ, suc, ◌+◌, ◌<◌, ℤ, Option, Some, None, List, [], ◌∷◌, ◌++◌, length, map, take}
use Rattle.std.proofs.Common.{drop, get_or, append_assoc, inl, inr}
use Rattle.std.specs.Prelude.{◌⊎◌, Ok}
use Rattle.std.specs.Option.{option_or}
use Rattle.std.proofs.Math.Seq.{drop-cons, take-suc}
use Rattle.std.proofs.lemmas.List.{map-append}
use Rattle.tap_rows.specs.declared.rows.QueryRow.{QueryRow}
use Rattle.tql_core.specs.declared.cond.Cond.{Cond}
use Rattle.tql_core.specs.Condition.{condition}
use Rattle.restart_core.specs.declared.fault.TableName.TheVariants.{Queries}
use Rattle.restart_core.specs.declared.fault.RestartFault.{RestartFault}
use Rattle.restart_core.specs.declared.fault.RestartFault.TheVariants.{Memory}
use Rattle.restart_core.specs.Damages.{row_damage, query_reason, queries_damage}
use Rattle.restart_core.specs.Earlier.{named_of}
use Rattle.restart_core.specs.Readings.{reading_of, readings_of, as_read}

-- the list at one of its places
split : {A : Type 0} (xs : List A) (i : ℕ) (x : A) → i < length xs → x ≡ get_or xs i x
    → (drop i xs ≡ x ∷ drop (i + 1) xs) × (take (i + 1) xs ≡ take i xs ++ x ∷ [])
split xs i x lt is = (
  drop-cons xs i x lt ∙ ap (λ y. y ∷ drop (suc i) xs) (sym is) ∙ ap (λ k. x ∷ drop k xs) (one-more i),
  ap (λ k. take k xs) (sym (one-more i)) ∙ take-suc xs i x lt ∙ ap (λ y. take i xs ++ y ∷ []) (sym is),
) where
  one-more : (n : ℕ) → suc n ≡ n + 1
  one-more n = omega arith

-- one that has no reason leaves the damage to those behind it
pub damage-on : (queries : List QueryRow) (i : ℕ) (low : ℤ) (query : QueryRow) (all : Option RestartFault) → i < length queries
    → query ≡ get_or queries i query
    → all ≡ queries_damage (take i queries) (i + 1) low (drop i queries) → query_reason (take i queries) (i + 1) low query ≡ None
    → all ≡ queries_damage (take (i + 1) queries) (i + 1 + 1) query.arrival (drop (i + 1) queries)
damage-on queries i low query all lt is left none =
    let parts = split queries i query lt is in
    left ∙ ap (queries_damage (take i queries) (i + 1) low) parts.0
    ∙ ap (λ why. option_or (row_damage Queries (i + 1) why)
    (queries_damage (take i queries ++ query ∷ []) (i + 1 + 1) query.arrival (drop (i + 1) queries))) none
    ∙ ap (λ earlier. queries_damage earlier (i + 1 + 1) query.arrival (drop (i + 1) queries)) (sym parts.1)

-- the damage of one that has a reason is the first
pub damage-here : (queries : List QueryRow) (i : ℕ) (low : ℤ) (query : QueryRow) (all : Option RestartFault) (fault : RestartFault)
    → i < length queries → query ≡ get_or queries i query
    → all ≡ queries_damage (take i queries) (i + 1) low (drop i queries)
    → (fault ≡ Memory) ⊎ (row_damage Queries (i + 1) (query_reason (take i queries) (i + 1) low query) ≡ Some fault)
    → (fault ≡ Memory) ⊎ (all ≡ Some fault)
damage-here queries i low query all fault lt is left (inl memory) = inl memory
damage-here queries i low query all fault lt is left (inr damaged) =
    let parts = split queries i query lt is in
    inr (left ∙ ap (queries_damage (take i queries) (i + 1) low) parts.0
    ∙ ap (λ d. option_or d (queries_damage (take i queries ++ query ∷ []) (i + 1 + 1) query.arrival (drop (i + 1) queries))) damaged)

pub names-on : (queries : List QueryRow) (i : ℕ) (query : QueryRow) → i < length queries → query ≡ get_or queries i query
    → map named_of (take i queries ++ query ∷ []) ≡ map named_of (take (i + 1) queries)
names-on queries i query lt is = ap (map named_of) (sym (split queries i query lt is).1)

pub conds-on : (queries : List QueryRow) (i : ℕ) (query : QueryRow) (conds new : List Cond) (cond : Cond) → i < length queries
    → query ≡ get_or queries i query
    → readings_of queries ≡ as_read conds ++ readings_of (drop i queries) → reading_of query ≡ Ok (condition cond)
    → new ≡ conds ++ cond ∷ []
    → readings_of queries ≡ as_read new ++ readings_of (drop (i + 1) queries)
conds-on queries i query conds new cond lt is left read made =
    let rest = readings_of (drop (i + 1) queries) in
    left ∙ ap (λ qs. as_read conds ++ readings_of qs) (split queries i query lt is).0
    ∙ ap (λ r. as_read conds ++ r ∷ rest) read
    ∙ sym (append_assoc (as_read conds) (Ok (condition cond) ∷ []) rest)
    ∙ ap (λ l. l ++ rest) (sym (map-append (λ cond. Ok (condition cond)) conds (cond ∷ [])))
    ∙ ap (λ l. as_read l ++ rest) (sym made)
