use Rattle.std.proofs.Common.{refl, arith}
use Rattle.sqlite.specs.Held.{state}
use Rattle.sqlite.specs.State.{HasCleanDisk}
use Rattle.keeper_sql.specs.Schema.{select_docs, select_notes, select_queries}
use Rattle.keeper_sql.specs.RowsAsValues.{doc_kinds, note_kinds, query_kinds}
use Rattle.keeper_sql.proofs.FailingLemmas.{reaches_same, reaches_read, reaches_then}
use Rattle.keeper_sql.proofs.opening.read_written.Goals as goal

pub returns-in-Err-clause-fails : goal.returns-in-Err-clause-fails
returns-in-Err-clause-fails g c clean inside =
    let old = c.args.tx.now.conn.now in
    (old, reaches_same g.S.Store old inside, (select_docs, doc_kinds, (0, omega arith, refl), c.in-Err.ensures.fails clean inside))

pub returns-in-Err-read_notes-clause-fails : goal.returns-in-Err-read_notes-clause-fails
returns-in-Err-read_notes-clause-fails g c clean inside =
    let old = c.args.tx.now.conn.now in
    let mid = c.read_docs.new.tx.conn.now in
    let early : HasCleanDisk (state g.S.Store mid) = omega (arith, c.read_notes.ensures.survives.clean) in
    let reached = reaches_read g.S.Store old mid c.read_docs.ensures.survives inside (c.in-Ok.ensures.same early) in
    (mid, reached, (select_notes, note_kinds, (1, omega arith, refl), c.in-Err-read_notes.ensures.fails clean reached.mode))

pub returns-in-Err-read_queries-clause-fails : goal.returns-in-Err-read_queries-clause-fails
returns-in-Err-read_queries-clause-fails g c clean inside =
    let old = c.args.tx.now.conn.now in
    let mid = c.read_docs.new.tx.conn.now in
    let next = c.read_notes.new.tx.conn.now in
    let late : HasCleanDisk (state g.S.Store next) = omega (arith, c.read_queries.ensures.survives.clean) in
    let early : HasCleanDisk (state g.S.Store mid) = omega (arith, late, c.read_notes.ensures.survives.clean) in
    let reached = reaches_read g.S.Store old mid c.read_docs.ensures.survives inside (c.in-Ok.ensures.same early) in
    let further = reaches_then g.S.Store old mid next reached
    (reaches_read g.S.Store mid next c.read_notes.ensures.survives reached.mode (c.in-Ok-read_notes.ensures.same late)) in
    (next, further, (select_queries, query_kinds, (2, omega arith, refl), c.in-Err-read_queries.ensures.fails clean further.mode))
