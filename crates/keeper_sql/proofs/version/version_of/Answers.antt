use Rattle.std.proofs.Common.{rules, ◌≡◌, refl, Some, slice_get}
use Rattle.sqlite.specs.declared.types.Type.TheVariants.{Integer}
use Rattle.keeper_sql.specs.RowsAsValues.{version_kinds}
use Rattle.keeper_sql.specs.Failing.{FailsToTakeRows}
use Rattle.keeper_sql.proofs.TakingLemmas.{one_first, taken_of, taken_rows}
use Rattle.keeper_sql.proofs.version.version_of.Goals as goal

pub returns-in_err-integer-in-Some-clause-fails : goal.returns-in_err-integer-in-Some-clause-fails
returns-in_err-integer-in-Some-clause-fails c =
    let at : Some c.in-Some.row.now ≡ slice_get c.args.shown.now 0 = search rules in
    let e = c.in_err-integer-in-Some.field-0.0 in
    let by : FailsToTakeRows version_kinds c.args.shown.now e =
    taken_rows version_kinds c.in-Some.row.now c.args.shown.now e (one_first c.in-Some.row.now c.args.shown.now at)
    (taken_of version_kinds Integer c.in-Some.row.now 1 e refl c.in_err-integer-in-Some.ensures.fails) in
    search (rules, by)
