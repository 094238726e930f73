use Rattle.std.proofs.Common.{rules, refl}
use Rattle.sqlite.specs.declared.types.Type.TheVariants.{Integer}
use Rattle.keeper_sql.specs.RowsAsValues.{pick_kinds}
use Rattle.keeper_sql.specs.Failing.{FailsToTakeRow}
use Rattle.keeper_sql.proofs.TakingLemmas.{taken_of}
use Rattle.keeper_sql.proofs.picks.PickTableRow.read.Goals as goal

pub returns-in_err-num-clause-fails : goal.returns-in_err-num-clause-fails
returns-in_err-num-clause-fails c =
    let by : FailsToTakeRow pick_kinds c.args.row.now c.in_err-num.field-0.0 =
    taken_of pick_kinds Integer c.args.row.now 0 c.in_err-num.field-0.0 refl c.in_err-num.ensures.fails in
    search (rules, by)

pub returns-in_err-number-clause-fails : goal.returns-in_err-number-clause-fails
returns-in_err-number-clause-fails c =
    let by : FailsToTakeRow pick_kinds c.args.row.now c.in_err-number.field-0.0 =
    taken_of pick_kinds Integer c.args.row.now 1 c.in_err-number.field-0.0 refl c.in_err-number.ensures.fails in
    search (rules, by)

pub returns-in_err-run-clause-fails : goal.returns-in_err-run-clause-fails
returns-in_err-run-clause-fails c =
    let by : FailsToTakeRow pick_kinds c.args.row.now c.in_err-run.field-0.0 =
    taken_of pick_kinds Integer c.args.row.now 2 c.in_err-run.field-0.0 refl c.in_err-run.ensures.fails in
    search (rules, by)

pub returns-in_err-number-2-clause-fails : goal.returns-in_err-number-2-clause-fails
returns-in_err-number-2-clause-fails c =
    let by : FailsToTakeRow pick_kinds c.args.row.now c.in_err-number-2.field-0.0 =
    taken_of pick_kinds Integer c.args.row.now 3 c.in_err-number-2.field-0.0 refl c.in_err-number-2.ensures.fails in
    search (rules, by)

pub returns-in_err-first-clause-fails : goal.returns-in_err-first-clause-fails
returns-in_err-first-clause-fails c =
    let by : FailsToTakeRow pick_kinds c.args.row.now c.in_err-first.field-0.0 =
    taken_of pick_kinds Integer c.args.row.now 4 c.in_err-first.field-0.0 refl c.in_err-first.ensures.fails in
    search (rules, by)
