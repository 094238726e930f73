use Rattle.std.proofs.Common.{◌≡◌, ◌+◌, List, [], ◌∷◌, ◌++◌, map, take, arith, ap, ◌∙◌}
use Rattle.std.proofs.lemmas.Grind.{common_steps}
use Rattle.std.proofs.lemmas.List.{map-append}
use Rattle.sqlite_value.specs.Order.{Row}
use Rattle.sqlite.specs.Held.{state}
use Rattle.sqlite.specs.State.{HasCleanDisk, Survives}
use Rattle.sqlite.proofs.StateLemmas.{survives_then}
use Rattle.tap_rows.specs.declared.rows.Doc.{Doc}
use Rattle.keeper_sql.specs.RowsAsValues.{given_doc, doc_in, as_kept, only}
use Rattle.keeper_sql.proofs.Steps.{went_then, only_both}
use Rattle.keeper_sql.proofs.FailingLemmas.{reaches_rows}
use Rattle.keeper_sql.proofs.ReadBack.{read_more}
use Rattle.keeper_sql.proofs.docs.insert_docs.Goals as goal

pub adds-preserved : goal.adds-preserved
adds-preserved g c =
    let old = state g.S.Store c.args.tx.now.conn.now in
    let mid = state g.S.Store c.adds.tx.conn.now in
    let new = state g.S.Store c.insert_doc.new.tx.conn.now in
    let survives : Survives old new (λ _. ⊥) =
    survives_then old mid new _ _ _ (λ _ db none. none) (λ _ db none. none) c.adds.invariant.1 c.insert_doc.ensures.survives in
    let f : Doc → Row = λ x. as_kept (given_doc x) in
    let first : List Doc = take c.adds.doc-index c.args.docs.now in
    let item : Doc = c.doc-item.result in
    let more : take (c.adds.doc-index + 1) c.args.docs.now ≡ first ++ item ∷ [] = grind (arith, common_steps) in
    let rows : map f (take (c.adds.doc-index + 1) c.args.docs.now) ≡ map f first ++ f item ∷ [] = ap (map f) more
    ∙ map-append f first (item ∷ []) in (
      c.insert_doc.ensures.same_reference ∙ c.adds.invariant.0,
      survives,
      λ clean inside.
          let early : HasCleanDisk mid = omega (arith, c.insert_doc.ensures.survives.clean) in
          let was = c.adds.invariant.2 early inside in
          went_then (only 1 (map f first)) (only 1 (f item ∷ [])) _ old mid new (only_both 1 (map f first) (f item ∷ []) _ rows) was
          (c.in_default.ensures.ok clean was.mode),
      read_more doc_in f first item _ _ rows more c.adds.invariant.3 c.in_default.ensures.read,
    )

pub returns-in-Err-clause-fails : goal.returns-in-Err-clause-fails
returns-in-Err-clause-fails g c clean inside =
    let mid = c.adds.tx.conn.now in
    let early : HasCleanDisk (state g.S.Store mid) = omega (arith, c.insert_doc.ensures.survives.clean) in
    let reached = reaches_rows g.S.Store _ c.args.tx.now.conn.now mid c.adds.invariant.1 (c.adds.invariant.2 early inside) in
    (mid, reached, (c.doc-item.result, (c.adds.doc-index, omega arith, c.doc-item.is), c.in-Err.ensures.fails clean reached.mode))
