use Rattle.std.proofs.Common.{rules, inl}
use Rattle.keeper_sql.specs.Failing.{FailsToTakeRow}
use Rattle.keeper_sql.proofs.reading.push_row.Goals as goal

pub returns-in-Err-clause-fails : goal.returns-in-Err-clause-fails
returns-in-Err-clause-fails g c =
    let by : FailsToTakeRow g.T.TableRow.kinds c.args.shown c.no_memory.result = inl c.no_memory.ensures in
    search (rules, by)
