use Rattle.sqlite.specs.Held.{state}
use Rattle.keeper_sql.specs.RowsAsValues.{given_pick}
use Rattle.keeper_sql.specs.Schema.{insert_pick}
use Rattle.keeper_sql.proofs.Steps.{went_by}
use Rattle.keeper_sql.proofs.FailingLemmas.{fails_by}
use Rattle.keeper_sql.proofs.ReadBack.{read_pick}
use Rattle.keeper_sql.proofs.InsertPick.{puts_pick}
use Rattle.keeper_sql.proofs.picks.insert_pick.Goals as goal

pub returns-in-Ok-clause-ok : goal.returns-in-Ok-clause-ok
returns-in-Ok-clause-ok g c clean inside =
    let old = state g.S.Store c.args.tx.now.conn.now in
    let new = state g.S.Store c.execute.new.self.conn.now in
    went_by _ old new insert_pick (given_pick c.args.pick.now)
    c.in-Ok.field-0 (rw c.pick_values-values.ensures.given at (c.in-Ok.ensures.runs clean inside)) (λ has ran.
    puts_pick old new _ _ _ _ _ c.in-Ok.field-0 has ran)

pub returns-in-Ok-clause-read : goal.returns-in-Ok-clause-read
returns-in-Ok-clause-read g c = read_pick c.args.pick.now c.pick_values-values.ensures.range

pub returns-in-Err-clause-fails : goal.returns-in-Err-clause-fails
returns-in-Err-clause-fails g c clean inside =
    let old = state g.S.Store c.args.tx.now.conn.now in
    let new = state g.S.Store c.execute.new.self.conn.now in
    fails_by old new insert_pick _ (given_pick c.args.pick.now)
    c.in-Err.error c.pick_values-values.ensures.given (c.in-Err.ensures.runs clean inside)
