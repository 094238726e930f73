use Rattle.std.proofs.Common.{rules, ◌≡◌, ◌∙◌, Some, pos, map}
use Rattle.tql_core.specs.Row.{OfNote}
use Rattle.row_index.specs.Held.{indexed_notes}
use Rattle.probe_eval.proofs.AccessLists.{no_note, notes_picked}
use Rattle.probe_eval.proofs.access_rows.with_doc.Goals as goal

pub returns-in-None : goal.returns-in-None
returns-in-None c = c.none.ensures
    ∙ no_note c.args.index.now.notes c.args.num (c.short.ensures.none c.in-None.is) c.notes-notes.ensures.documents

pub returns-in-Some : goal.returns-in-Some
returns-in-Some c =
    let k : c.args.num ≡ Some (pos c.in-Some.num) = search rules in
    let e : c.of_notes.result ≡ map OfNote (indexed_notes c.in-Some.num c.args.index.now.notes) = search rules in
    e ∙ notes_picked c.args.index.now.notes c.args.num c.in-Some.num k
