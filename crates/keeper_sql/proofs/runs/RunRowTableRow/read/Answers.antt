use Rattle.std.proofs.Common.{rules, refl}
use Rattle.sqlite.specs.declared.types.Type.TheVariants.{Integer}
use Rattle.keeper_sql.specs.RowsAsValues.{run_kinds}
use Rattle.keeper_sql.specs.Failing.{FailsToTakeRow}
use Rattle.keeper_sql.proofs.TakingLemmas.{taken_of}
use Rattle.keeper_sql.proofs.runs.RunRowTableRow.read.Goals as goal

pub returns-in_err-num-clause-fails : goal.returns-in_err-num-clause-fails
returns-in_err-num-clause-fails c =
    let by : FailsToTakeRow run_kinds c.args.row.now c.in_err-num.field-0.0 =
    taken_of run_kinds Integer c.args.row.now 0 c.in_err-num.field-0.0 refl c.in_err-num.ensures.fails in
    search (rules, by)

pub returns-in_err-number-clause-fails : goal.returns-in_err-number-clause-fails
returns-in_err-number-clause-fails c =
    let by : FailsToTakeRow run_kinds c.args.row.now c.in_err-number.field-0.0 =
    taken_of run_kinds Integer c.args.row.now 1 c.in_err-number.field-0.0 refl c.in_err-number.ensures.fails in
    search (rules, by)

pub returns-in_err-moment-clause-fails : goal.returns-in_err-moment-clause-fails
returns-in_err-moment-clause-fails c =
    let by : FailsToTakeRow run_kinds c.args.row.now c.in_err-moment.field-0.0 =
    taken_of run_kinds Integer c.args.row.now 2 c.in_err-moment.field-0.0 refl c.in_err-moment.ensures.fails in
    search (rules, by)
