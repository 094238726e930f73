use Rattle.std.proofs.Common.{[], ◌∷◌, inl, inr, arith}
use Rattle.sqlite.specs.Held.{state}
use Rattle.sqlite.specs.State.{HasCleanDisk}
use Rattle.keeper_sql.specs.RowsAsValues.{only, as_kept, given_run}
use Rattle.keeper_sql.specs.Failing.{FailsToInsertPicks, FailsToInsertRows}
use Rattle.tap_rows.specs.declared.change.Change.TheVariants.{RunDone}
use Rattle.keeper_sql.proofs.FailingLemmas.{at_once, reaches_rows, then_fails}
use Rattle.keeper_sql.proofs.change.insert_run_done.Goals as goal

pub returns-in-Err-clause-fails : goal.returns-in-Err-clause-fails
returns-in-Err-clause-fails g c clean inside =
    at_once g.S.Store (FailsToInsertRows (RunDone c.args.run.now c.args.picks.now))
    c.args.tx.now.conn.now c.insert_run.new.tx.conn.now c.in-Err.error inside (inl (c.in-Err.ensures.fails clean inside))

pub returns-clause-fails : goal.returns-clause-fails
returns-clause-fails g c clean inside =
    let old = c.args.tx.now.conn.now in
    let mid = c.insert_run.new.tx.conn.now in
    let early : HasCleanDisk (state g.S.Store mid) = omega (arith, c.insert_picks.ensures.survives.clean) in
    let reached = reaches_rows g.S.Store (only 4 (as_kept (given_run c.args.run.now) ∷ [])) old mid
    c.insert_run.ensures.survives (c.in_default.ensures.ok early inside) in
    then_fails g.S.Store (FailsToInsertPicks c.args.picks.now) (FailsToInsertRows (RunDone c.args.run.now c.args.picks.now)) old mid
    c.insert_picks.new.tx.conn.now c.insert_picks.result reached (λ a b e h. inr h) clean c.insert_picks.ensures.fails
