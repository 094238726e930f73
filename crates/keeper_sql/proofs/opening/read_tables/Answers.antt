use Rattle.std.proofs.Common.{arith}
use Rattle.sqlite.specs.Held.{state}
use Rattle.sqlite.specs.State.{HasCleanDisk}
use Rattle.keeper_sql.specs.Failing.{FailsToReadTables}
use Rattle.keeper_sql.proofs.FailingLemmas.{later, reaches_read}
use Rattle.keeper_sql.proofs.opening.read_tables.Goals as goal

pub returns-in-Err-clause-fails : goal.returns-in-Err-clause-fails
returns-in-Err-clause-fails g c clean inside = c.in-Err.ensures.fails clean inside

pub returns-in-Err-read_derived-clause-fails : goal.returns-in-Err-read_derived-clause-fails
returns-in-Err-read_derived-clause-fails g c clean inside =
    let old = c.args.tx.now.conn.now in
    let mid = c.read_written.new.tx.conn.now in
    let early : HasCleanDisk (state g.S.Store mid) = omega (arith, c.read_derived.ensures.survives.clean) in
    let reached = reaches_read g.S.Store old mid c.read_written.ensures.survives inside (c.in-Ok.ensures.same early) in
    later g.S.Store FailsToReadTables old mid c.read_derived.new.tx.conn.now c.in-Err-read_derived.error reached
    (c.in-Err-read_derived.ensures.fails clean reached.mode)
