use Rattle.std.proofs.Common.{◌≡◌, ◌≤◌, ◌-◌, length, take, map, IsTrue}
use Rattle.sqlite.specs.Held.{state}
use Rattle.sqlite.specs.State.{HasCleanDisk, Survives}
use Rattle.keeper_sql.specs.RowsAsValues.{given_pick, pick_in, as_kept}
use Rattle.keeper_sql.specs.Store.{only, RowsWritten}
use Rattle.keeper_sql.proofs.picks.insert_picks.Given as goal

-- the transaction went on over the first of the rows
abbrev pub invariant-eights : goal.invariant-eights
invariant-eights g l =
    let old = state g.S.Store l.fn.tx.conn.now in
    let now = state g.S.Store l.tx.conn.now in
    (l.done ≤ length l.picks) × (l.tx.conn.ghost_name ≡ l.fn.tx.conn.ghost_name) × Survives old now (λ _. ⊥)
    × (HasCleanDisk now → IsTrue old.in_transaction
    → RowsWritten (only 5 (map (λ x. as_kept (given_pick x)) (take l.done l.picks))) old now)
    × (map pick_in (map (λ x. as_kept (given_pick x)) (take l.done l.picks)) ≡ take l.done l.picks)

abbrev pub decreases-eights : goal.decreases-eights
decreases-eights g l = length l.picks - l.done
