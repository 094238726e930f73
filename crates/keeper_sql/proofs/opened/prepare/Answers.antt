use Rattle.std.proofs.Common.{inl, inr, arith}
use Rattle.std.proofs.lemmas.Result.{on_ok_weaker}
use Rattle.sqlite.specs.Held.{state}
use Rattle.sqlite.specs.State.{HasCleanDisk}
use Rattle.keeper_sql.specs.Schema.{create_texts, schema_prefix}
use Rattle.keeper_sql.specs.Failing.{FailsAmong, FailsToPrepare, FailsToSettle}
use Rattle.keeper_sql.proofs.FailingLemmas.{reaches_made, reaches_then, then_fails, wider}
use Rattle.keeper_sql.proofs.opened.prepare.Goals as goal

pub returns-in-Err-clause-fails : goal.returns-in-Err-clause-fails
returns-in-Err-clause-fails g c clean inside =
    wider g.S.Store (FailsAmong create_texts) FailsToPrepare
    c.args.tx.now.conn.now c.create_all.new.tx.conn.now c.in-Err.error (λ a b h. inl h) (c.in-Err.ensures.fails clean inside)

pub returns-in-Ok-clause-fails : goal.returns-in-Ok-clause-fails
returns-in-Ok-clause-fails g c clean inside =
    let old = c.args.tx.now.conn.now in
    let mid = c.create_all.new.tx.conn.now in
    let new = c.settle_version.new.tx.conn.now in
    let early : HasCleanDisk (state g.S.Store mid) = omega (arith, c.settle_version.ensures.survives.clean) in
    let reached = reaches_made g.S.Store (schema_prefix 0) 0 (schema_prefix 7) 7 old mid
    c.create_all.ensures.survives (c.in-Ok.ensures.ok early inside) in
    then_fails g.S.Store FailsToSettle FailsToPrepare old mid new c.settle_version.result reached (λ a b e h. inr h) clean
    c.settle_version.ensures.fails

pub returns-in-Ok-clause-goes_on : goal.returns-in-Ok-clause-goes_on
returns-in-Ok-clause-goes_on g c clean inside =
    let old = c.args.tx.now.conn.now in
    let mid = c.create_all.new.tx.conn.now in
    let new = c.settle_version.new.tx.conn.now in
    let early : HasCleanDisk (state g.S.Store mid) = omega (arith, c.settle_version.ensures.survives.clean) in
    let reached = reaches_made g.S.Store (schema_prefix 0) 0 (schema_prefix 7) 7 old mid
    c.create_all.ensures.survives (c.in-Ok.ensures.ok early inside) in
    on_ok_weaker c.settle_version.result (λ p. reaches_then g.S.Store old mid new reached p)
    (c.settle_version.ensures.goes_on clean reached.mode)
