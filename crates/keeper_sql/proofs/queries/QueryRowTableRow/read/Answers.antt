use Rattle.std.proofs.Common.{rules, refl}
use Rattle.sqlite.specs.declared.types.Type.TheVariants.{Integer, Blob}
use Rattle.keeper_sql.specs.RowsAsValues.{query_kinds}
use Rattle.keeper_sql.specs.Failing.{FailsToTakeRow}
use Rattle.keeper_sql.proofs.TakingLemmas.{taken_of}
use Rattle.keeper_sql.proofs.queries.QueryRowTableRow.read.Goals as goal

pub returns-in_err-number-clause-fails : goal.returns-in_err-number-clause-fails
returns-in_err-number-clause-fails c =
    let by : FailsToTakeRow query_kinds c.args.row.now c.in_err-number.field-0.0 =
    taken_of query_kinds Integer c.args.row.now 0 c.in_err-number.field-0.0 refl c.in_err-number.ensures.fails in
    search (rules, by)

pub returns-in_err-owner-clause-fails : goal.returns-in_err-owner-clause-fails
returns-in_err-owner-clause-fails c =
    let by : FailsToTakeRow query_kinds c.args.row.now c.in_err-owner.field-0.0 =
    taken_of query_kinds Blob c.args.row.now 1 c.in_err-owner.field-0.0 refl c.in_err-owner.ensures.fails in
    search (rules, by)

pub returns-in_err-name-clause-fails : goal.returns-in_err-name-clause-fails
returns-in_err-name-clause-fails c =
    let by : FailsToTakeRow query_kinds c.args.row.now c.in_err-name.field-0.0 =
    taken_of query_kinds Blob c.args.row.now 2 c.in_err-name.field-0.0 refl c.in_err-name.ensures.fails in
    search (rules, by)

pub returns-in_err-source-clause-fails : goal.returns-in_err-source-clause-fails
returns-in_err-source-clause-fails c =
    let by : FailsToTakeRow query_kinds c.args.row.now c.in_err-source.field-0.0 =
    taken_of query_kinds Blob c.args.row.now 3 c.in_err-source.field-0.0 refl c.in_err-source.ensures.fails in
    search (rules, by)

pub returns-in_err-arrival-clause-fails : goal.returns-in_err-arrival-clause-fails
returns-in_err-arrival-clause-fails c =
    let by : FailsToTakeRow query_kinds c.args.row.now c.in_err-arrival.field-0.0 =
    taken_of query_kinds Integer c.args.row.now 4 c.in_err-arrival.field-0.0 refl c.in_err-arrival.ensures.fails in
    search (rules, by)
