use Rattle.std.proofs.Common.{refl, arith}
use Rattle.sqlite.specs.Held.{state}
use Rattle.sqlite.specs.State.{HasCleanDisk}
use Rattle.keeper_sql.specs.Schema.{select_runs, select_picks, select_filters}
use Rattle.keeper_sql.specs.RowsAsValues.{run_kinds, pick_kinds, filter_kinds}
use Rattle.keeper_sql.proofs.FailingLemmas.{reaches_same, reaches_read, reaches_then}
use Rattle.keeper_sql.proofs.opening.read_derived.Goals as goal

pub returns-in-Err-clause-fails : goal.returns-in-Err-clause-fails
returns-in-Err-clause-fails g c clean inside =
    let old = c.args.tx.now.conn.now in
    (old, reaches_same g.S.Store old inside, (select_runs, run_kinds, (3, omega arith, refl), c.in-Err.ensures.fails clean inside))

pub returns-in-Err-read_picks-clause-fails : goal.returns-in-Err-read_picks-clause-fails
returns-in-Err-read_picks-clause-fails g c clean inside =
    let old = c.args.tx.now.conn.now in
    let mid = c.read_runs.new.tx.conn.now in
    let early : HasCleanDisk (state g.S.Store mid) = omega (arith, c.read_picks.ensures.survives.clean) in
    let reached = reaches_read g.S.Store old mid c.read_runs.ensures.survives inside (c.in-Ok.ensures.same early) in
    (mid, reached, (select_picks, pick_kinds, (4, omega arith, refl), c.in-Err-read_picks.ensures.fails clean reached.mode))

pub returns-in-Err-read_filters-clause-fails : goal.returns-in-Err-read_filters-clause-fails
returns-in-Err-read_filters-clause-fails g c clean inside =
    let old = c.args.tx.now.conn.now in
    let mid = c.read_runs.new.tx.conn.now in
    let next = c.read_picks.new.tx.conn.now in
    let late : HasCleanDisk (state g.S.Store next) = omega (arith, c.read_filters.ensures.survives.clean) in
    let early : HasCleanDisk (state g.S.Store mid) = omega (arith, late, c.read_picks.ensures.survives.clean) in
    let reached = reaches_read g.S.Store old mid c.read_runs.ensures.survives inside (c.in-Ok.ensures.same early) in
    let further = reaches_then g.S.Store old mid next reached
    (reaches_read g.S.Store mid next c.read_picks.ensures.survives reached.mode (c.in-Ok-read_picks.ensures.same late)) in
    (next, further, (select_filters, filter_kinds, (5, omega arith, refl), c.in-Err-read_filters.ensures.fails clean further.mode))
