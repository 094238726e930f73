use Rattle.std.proofs.Common.{rules, IfErr}
use Rattle.keeper_sql.specs.Schema.{insert_note, insert_query, insert_filter}
use Rattle.keeper_sql.specs.RowsAsValues.{given_note, given_query, given_filter}
use Rattle.keeper_sql.specs.Failing.{FailsLater, FailsToInsertRows, FailsToWrite}
use Rattle.tap_rows.specs.declared.change.Change.TheVariants.{Docs, OneNote, OneQuery, OneFilter}
use Rattle.keeper_sql.proofs.FailingLemmas.{once_fails}
use Rattle.keeper_sql.proofs.change.insert_change.Goals as goal

pub returns-in-Docs-clause-fails : goal.returns-in-Docs-clause-fails
returns-in-Docs-clause-fails g c clean inside =
    let by : IfErr c.insert_docs.result
    (FailsLater g.S.Store c.args.tx.now.conn.now c.insert_docs.new.tx.conn.now (FailsToInsertRows (Docs c.as_slice.result.now))) =
    c.insert_docs.ensures.fails clean inside in
    search (rules, by)

pub returns-in-OneNote-clause-fails : goal.returns-in-OneNote-clause-fails
returns-in-OneNote-clause-fails g c clean inside =
    let old = c.args.tx.now.conn.now in
    let new = c.insert_note.new.tx.conn.now in
    let by : IfErr c.insert_note.result (FailsLater g.S.Store old new (FailsToInsertRows (OneNote c.in-OneNote.note))) =
    once_fails g.S.Store (FailsToWrite insert_note (given_note c.in-OneNote.note)) old new
    c.insert_note.result c.insert_note.ensures.fails clean inside in
    search (rules, by)

pub returns-in-OneQuery-clause-fails : goal.returns-in-OneQuery-clause-fails
returns-in-OneQuery-clause-fails g c clean inside =
    let old = c.args.tx.now.conn.now in
    let new = c.insert_query.new.tx.conn.now in
    let by : IfErr c.insert_query.result (FailsLater g.S.Store old new (FailsToInsertRows (OneQuery c.in-OneQuery.query))) =
    once_fails g.S.Store (FailsToWrite insert_query (given_query c.in-OneQuery.query)) old new
    c.insert_query.result c.insert_query.ensures.fails clean inside in
    search (rules, by)

pub returns-in-OneFilter-clause-fails : goal.returns-in-OneFilter-clause-fails
returns-in-OneFilter-clause-fails g c clean inside =
    let old = c.args.tx.now.conn.now in
    let new = c.insert_filter.new.tx.conn.now in
    let by : IfErr c.insert_filter.result (FailsLater g.S.Store old new (FailsToInsertRows (OneFilter c.in-OneFilter.filter))) =
    once_fails g.S.Store (FailsToWrite insert_filter (given_filter c.in-OneFilter.filter)) old new
    c.insert_filter.result c.insert_filter.ensures.fails clean inside in
    search (rules, by)
