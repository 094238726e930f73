use Rattle.std.proofs.Common.{rules, inl, refl}
use Rattle.sqlite.specs.declared.types.Type.TheVariants.{Integer, Blob}
use Rattle.keeper_sql.specs.RowsAsValues.{doc_kinds}
use Rattle.keeper_sql.specs.Failing.{FailsToTakeRow}
use Rattle.keeper_sql.proofs.TakingLemmas.{taken_of}
use Rattle.keeper_sql.proofs.docs.DocTableRow.read.Goals as goal

pub returns-in_err-number-clause-fails : goal.returns-in_err-number-clause-fails
returns-in_err-number-clause-fails c =
    let by : FailsToTakeRow doc_kinds c.args.row.now c.in_err-number.field-0.0 =
    taken_of doc_kinds Integer c.args.row.now 0 c.in_err-number.field-0.0 refl c.in_err-number.ensures.fails in
    search (rules, by)

pub returns-in_err-arrival-clause-fails : goal.returns-in_err-arrival-clause-fails
returns-in_err-arrival-clause-fails c =
    let by : FailsToTakeRow doc_kinds c.args.row.now c.in_err-arrival.field-0.0 =
    taken_of doc_kinds Integer c.args.row.now 1 c.in_err-arrival.field-0.0 refl c.in_err-arrival.ensures.fails in
    search (rules, by)

pub returns-in_err-bytes-clause-fails : goal.returns-in_err-bytes-clause-fails
returns-in_err-bytes-clause-fails c =
    let by : FailsToTakeRow doc_kinds c.args.row.now c.in_err-bytes.field-0.0 =
    taken_of doc_kinds Blob c.args.row.now 2 c.in_err-bytes.field-0.0 refl c.in_err-bytes.ensures.fails in
    search (rules, by)

pub returns-in-Err-clause-fails : goal.returns-in-Err-clause-fails
returns-in-Err-clause-fails c =
    let by : FailsToTakeRow doc_kinds c.args.row.now c.no_memory.result = inl c.no_memory.ensures in
    search (rules, by)
