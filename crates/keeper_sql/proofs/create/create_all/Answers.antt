use Rattle.std.proofs.Common.{[], ◌+◌, ◌∙◌, arith}
use Rattle.std.proofs.lemmas.List.{get_or_default}
use Rattle.sqlite.specs.Held.{state}
use Rattle.sqlite.specs.State.{HasCleanDisk, Survives}
use Rattle.sqlite.proofs.StateLemmas.{survives_then}
use Rattle.keeper_sql.specs.Schema.{create_text, create_texts, schema_prefix}
use Rattle.keeper_sql.proofs.Creates.{makes_then}
use Rattle.keeper_sql.proofs.FailingLemmas.{reaches_made}
use Rattle.keeper_sql.proofs.create.create_all.Goals as goal

pub tables-preserved : goal.tables-preserved
tables-preserved g c =
    let k = c.tables.table in
    let old = state g.S.Store c.args.tx.now.conn.now in
    let mid = state g.S.Store c.tables.tx.conn.now in
    let new = state g.S.Store c.create_table.new.tx.conn.now in
    let survives : Survives old new (λ _. ⊥) =
    survives_then old mid new _ _ _ (λ _ db none. none) (λ _ db none. none) c.tables.invariant.1 c.create_table.ensures.survives in (
      c.create_table.ensures.same_reference ∙ c.tables.invariant.0,
      survives,
      λ clean inside.
          let early : HasCleanDisk mid = omega (arith, c.create_table.ensures.survives.clean) in
          let was = c.tables.invariant.2 early inside in
          makes_then (schema_prefix 0) 0 (schema_prefix k) k (schema_prefix (k + 1)) (k + 1) old mid new was
          (c.in_default.ensures.ok clean was.mode),
    )

pub returns-in-Err-clause-fails : goal.returns-in-Err-clause-fails
returns-in-Err-clause-fails g c clean inside =
    let k = c.tables.table in
    let mid = c.tables.tx.conn.now in
    let early : HasCleanDisk (state g.S.Store mid) = omega (arith, c.create_table.ensures.survives.clean) in
    let reached = reaches_made g.S.Store (schema_prefix 0) 0 (schema_prefix k) k c.args.tx.now.conn.now mid
    c.tables.invariant.1 (c.tables.invariant.2 early inside) in (
      mid,
      reached,
      (
        create_text k,
        (k, omega arith, get_or_default create_texts k [] (create_text k) (omega arith)),
        c.in-Err.ensures.fails clean reached.mode,
      ),
    )
