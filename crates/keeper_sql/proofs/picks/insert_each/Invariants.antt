use Rattle.std.proofs.Common.{◌≡◌, take, map, IsTrue}
use Rattle.sqlite.specs.Held.{state}
use Rattle.sqlite.specs.State.{HasCleanDisk, Survives}
use Rattle.keeper_sql.specs.RowsAsValues.{given_pick, pick_in, as_kept}
use Rattle.keeper_sql.specs.Store.{only, RowsWritten}
use Rattle.keeper_sql.proofs.picks.insert_each.Given as goal

-- the transaction went on over the first of the rows
abbrev pub invariant-adds : goal.invariant-adds
invariant-adds g l =
    let old = state g.S.Store l.fn.tx.conn.now in
    let now = state g.S.Store l.tx.conn.now in
    (l.tx.conn.ghost_name ≡ l.fn.tx.conn.ghost_name) × Survives old now (λ _. ⊥)
    × (HasCleanDisk now → IsTrue old.in_transaction
    → RowsWritten (only 5 (map (λ x. as_kept (given_pick x)) (take l.pick-index l.picks))) old now)
    × (map pick_in (map (λ x. as_kept (given_pick x)) (take l.pick-index l.picks)) ≡ take l.pick-index l.picks)
