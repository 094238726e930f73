use Rattle.std.proofs.Common.{◌≡◌, ◌∙◌, ap, sym, refl, arith, List, [], ◌∷◌, ◌++◌, length, map, inl, inr}
use Rattle.std.specs.Prelude.{◌⊎◌, Ok}
use Rattle.std.specs.Iterator.Adapters.{zip_first, zip_second}
use Rattle.std.specs.Vec.Iter.{into_iter_items}
use Rattle.std.proofs.lemmas.List.{length-map, append-nil}
use Rattle.tap_rows.specs.declared.rows.QueryRow.{QueryRow}
use Rattle.tql_core.specs.declared.cond.Cond.{Cond}
use Rattle.tql_core.specs.Condition.{condition}
use Rattle.restart_core.specs.Readings.{reading_of, readings_of, as_read}
use Rattle.tap_kept.specs.Keeping.{never_run}
use Rattle.tap_kept.proofs.cache.push_queries.Goals as goal

-- rows and conditions end together
none-left : (rows : List QueryRow) (conds : List Cond) → readings_of rows ≡ as_read conds → (length rows ≡ 0) ⊎ (length conds ≡ 0)
    → rows ≡ []
none-left [] conds e none = refl
none-left (row ∷ rows) conds e (inl none) = absurd (omega (arith, none))
none-left (row ∷ rows) conds e (inr none) =
    let len = sym (length-map (row ∷ rows) reading_of) ∙ ap length e ∙ length-map conds (λ cond. Ok (condition cond)) in
    absurd (omega (arith, len, none))

pub returns : goal.returns
returns c =
    let rows = into_iter_items (zip_first c.loop-row.row-iterator) in
    let conds = into_iter_items (zip_second c.loop-row.row-iterator) in
    let left : (length rows ≡ 0) ⊎ (length conds ≡ 0) = elim c.in-None.ensures.steps [
      | inl s ↦ inl (sym c.loop-row.invariant.rows ∙ s.1.0)
      | inr s ↦ inr (sym c.loop-row.invariant.more ∙ s.1.0)
    ] in
    sym (c.loop-row.invariant.all ∙ ap (λ some. c.loop-row.queries ++ map never_run some)
    (none-left rows conds c.loop-row.invariant.conds left) ∙ append-nil c.loop-row.queries)
