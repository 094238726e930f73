use Rattle.std.specs.List.{flat_map}
use Rattle.sqlite.specs.Held.{state}
use Rattle.keeper_sql.specs.RowsAsValues.{given_pick}
use Rattle.keeper_sql.specs.Schema.{insert_eight}
use Rattle.keeper_sql.proofs.Steps.{went_by}
use Rattle.keeper_sql.proofs.FailingLemmas.{fails_by}
use Rattle.keeper_sql.proofs.EightPicks.{puts_picks}
use Rattle.keeper_sql.proofs.picks.insert_eight.Goals as goal

pub returns-in-Ok-clause-ok : goal.returns-in-Ok-clause-ok
returns-in-Ok-clause-ok g c clean inside =
    let old = state g.S.Store c.args.tx.now.conn.now in
    let new = state g.S.Store c.execute.new.self.conn.now in
    went_by _ old new insert_eight (flat_map given_pick c.args.picks.now)
    c.in-Ok.field-0 (rw c.eight_values-values.ensures.given at (c.in-Ok.ensures.runs clean inside)) (λ has ran.
    puts_picks old new c.args.picks.now c.in-Ok.field-0 c.requires has ran)

pub returns-in-Ok-clause-read : goal.returns-in-Ok-clause-read
returns-in-Ok-clause-read g c = c.eight_values-values.ensures.read

pub returns-in-Err-clause-fails : goal.returns-in-Err-clause-fails
returns-in-Err-clause-fails g c clean inside =
    let old = state g.S.Store c.args.tx.now.conn.now in
    let new = state g.S.Store c.execute.new.self.conn.now in
    fails_by old new insert_eight _ (flat_map given_pick c.args.picks.now)
    c.in-Err.error c.eight_values-values.ensures.given (c.in-Err.ensures.runs clean inside)
