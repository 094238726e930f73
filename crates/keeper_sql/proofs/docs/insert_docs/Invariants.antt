use Rattle.std.proofs.Common.{◌≡◌, take, map, IsTrue}
use Rattle.sqlite.specs.Held.{state}
use Rattle.sqlite.specs.State.{HasCleanDisk, Survives}
use Rattle.keeper_sql.specs.RowsAsValues.{given_doc, doc_in, as_kept}
use Rattle.keeper_sql.specs.Store.{only, RowsWritten}
use Rattle.keeper_sql.proofs.docs.insert_docs.Given as goal

-- the transaction went on over the first of the rows
abbrev pub invariant-adds : goal.invariant-adds
invariant-adds g l =
    let old = state g.S.Store l.fn.tx.conn.now in
    let now = state g.S.Store l.tx.conn.now in
    (l.tx.conn.ghost_name ≡ l.fn.tx.conn.ghost_name) × Survives old now (λ _. ⊥)
    × (HasCleanDisk now → IsTrue old.in_transaction
    → RowsWritten (only 1 (map (λ x. as_kept (given_doc x)) (take l.doc-index l.docs))) old now)
    × (map doc_in (map (λ x. as_kept (given_doc x)) (take l.doc-index l.docs)) ≡ take l.doc-index l.docs)
