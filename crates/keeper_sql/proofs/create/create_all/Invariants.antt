use Rattle.std.proofs.Common.{◌≡◌, IsTrue}
use Rattle.sqlite.specs.Held.{state}
use Rattle.sqlite.specs.State.{HasCleanDisk, Survives}
use Rattle.keeper_sql.specs.Schema.{schema_prefix}
use Rattle.keeper_sql.specs.Store.{Makes}
use Rattle.keeper_sql.proofs.create.create_all.Given as goal

-- the tables before this one were made
abbrev pub invariant-tables : goal.invariant-tables
invariant-tables g l =
    let old = state g.S.Store l.fn.tx.conn.now in
    let now = state g.S.Store l.tx.conn.now in
    (l.tx.conn.ghost_name ≡ l.fn.tx.conn.ghost_name) × Survives old now (λ _. ⊥)
    × (HasCleanDisk now → IsTrue old.in_transaction → Makes (schema_prefix 0) 0 (schema_prefix l.table) l.table old now)
