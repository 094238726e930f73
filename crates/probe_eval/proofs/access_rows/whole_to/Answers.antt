use Rattle.std.proofs.Common.{rules, ◌≡◌, ◌∙◌, sym, ap, map, filter}
use Rattle.std.specs.Prelude.{int_le}
use Rattle.tql_core.specs.Row.{OfDoc, OfNote, arrival, rows_of}
use Rattle.row_index.specs.Orders.{up_to, doc_arrival, note_arrival}
use Rattle.probe_eval.proofs.AccessTables.{docs_by, notes_by}
use Rattle.probe_eval.proofs.access_rows.whole_to.Goals as goal

pub returns-in-Docs : goal.returns-in-Docs
returns-in-Docs c =
    let e : c.of_docs.result ≡ map OfDoc (up_to doc_arrival c.args.last c.args.index.now.docs) = search rules in
    e ∙ docs_by c.args.last c.args.index.now
    ∙ sym (ap (λ t. filter (λ row. int_le (arrival row) c.args.last) (rows_of t c.args.index.now)) c.in-Docs.is)

pub returns-in-Notes : goal.returns-in-Notes
returns-in-Notes c =
    let e : c.of_notes.result ≡ map OfNote (up_to note_arrival c.args.last c.args.index.now.notes) = search rules in
    e ∙ notes_by c.args.last c.args.index.now
    ∙ sym (ap (λ t. filter (λ row. int_le (arrival row) c.args.last) (rows_of t c.args.index.now)) c.in-Notes.is)
