use Rattle.std.proofs.Common.{rules, refl}
use Rattle.sqlite.specs.declared.types.Type.TheVariants.{Integer, Blob}
use Rattle.keeper_sql.specs.RowsAsValues.{note_kinds}
use Rattle.keeper_sql.specs.Failing.{FailsToTakeRow}
use Rattle.keeper_sql.proofs.TakingLemmas.{taken_of}
use Rattle.keeper_sql.proofs.notes.NoteTableRow.read.Goals as goal

pub returns-in_err-number-clause-fails : goal.returns-in_err-number-clause-fails
returns-in_err-number-clause-fails c =
    let by : FailsToTakeRow note_kinds c.args.row.now c.in_err-number.field-0.0 =
    taken_of note_kinds Integer c.args.row.now 0 c.in_err-number.field-0.0 refl c.in_err-number.ensures.fails in
    search (rules, by)

pub returns-in_err-number-2-clause-fails : goal.returns-in_err-number-2-clause-fails
returns-in_err-number-2-clause-fails c =
    let by : FailsToTakeRow note_kinds c.args.row.now c.in_err-number-2.field-0.0 =
    taken_of note_kinds Integer c.args.row.now 1 c.in_err-number-2.field-0.0 refl c.in_err-number-2.ensures.fails in
    search (rules, by)

pub returns-in_err-author-clause-fails : goal.returns-in_err-author-clause-fails
returns-in_err-author-clause-fails c =
    let by : FailsToTakeRow note_kinds c.args.row.now c.in_err-author.field-0.0 =
    taken_of note_kinds Blob c.args.row.now 2 c.in_err-author.field-0.0 refl c.in_err-author.ensures.fails in
    search (rules, by)

pub returns-in_err-kind-clause-fails : goal.returns-in_err-kind-clause-fails
returns-in_err-kind-clause-fails c =
    let by : FailsToTakeRow note_kinds c.args.row.now c.in_err-kind.field-0.0 =
    taken_of note_kinds Blob c.args.row.now 3 c.in_err-kind.field-0.0 refl c.in_err-kind.ensures.fails in
    search (rules, by)

pub returns-in_err-value-clause-fails : goal.returns-in_err-value-clause-fails
returns-in_err-value-clause-fails c =
    let by : FailsToTakeRow note_kinds c.args.row.now c.in_err-value.field-0.0 =
    taken_of note_kinds Integer c.args.row.now 4 c.in_err-value.field-0.0 refl c.in_err-value.ensures.fails in
    search (rules, by)

pub returns-in_err-arrival-clause-fails : goal.returns-in_err-arrival-clause-fails
returns-in_err-arrival-clause-fails c =
    let by : FailsToTakeRow note_kinds c.args.row.now c.in_err-arrival.field-0.0 =
    taken_of note_kinds Integer c.args.row.now 5 c.in_err-arrival.field-0.0 refl c.in_err-arrival.ensures.fails in
    search (rules, by)

pub returns-in_err-text-clause-fails : goal.returns-in_err-text-clause-fails
returns-in_err-text-clause-fails c =
    let by : FailsToTakeRow note_kinds c.args.row.now c.in_err-text.field-0.0 =
    taken_of note_kinds Blob c.args.row.now 6 c.in_err-text.field-0.0 refl c.in_err-text.ensures.fails in
    search (rules, by)
