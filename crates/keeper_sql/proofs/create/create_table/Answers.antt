use Rattle.sqlite.specs.Held.{state}
use Rattle.keeper_sql.proofs.Creates.{makes_table}
use Rattle.keeper_sql.proofs.create.create_table.Goals as goal

pub returns-in-Ok-clause-ok : goal.returns-in-Ok-clause-ok
returns-in-Ok-clause-ok g c clean inside =
    makes_table c.args.table c.requires (state g.S.Store c.args.tx.now.conn.now) (state g.S.Store c.execute.new.self.conn.now)
    _ c.in-Ok.field-0 c.create_text.ensures (c.in-Ok.ensures.runs clean inside)
