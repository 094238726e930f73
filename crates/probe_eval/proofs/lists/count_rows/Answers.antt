use Rattle.std.proofs.Common.{rules, ◌≡◌, ◌∙◌, sym, ap, length}
use Rattle.tql_core.specs.Row.{OfDoc, OfNote, rows_of}
use Rattle.row_index.proofs.ListWindows.{mapped_length}
use Rattle.probe_eval.proofs.lists.count_rows.Goals as goal

pub returns-in-Docs : goal.returns-in-Docs
returns-in-Docs c =
    let e : c.docs.result ≡ length c.args.index.now.docs = search rules in
    e ∙ sym (mapped_length OfDoc c.args.index.now.docs) ∙ sym (ap (λ t. length (rows_of t c.args.index.now)) c.in-Docs.is)

pub returns-in-Notes : goal.returns-in-Notes
returns-in-Notes c =
    let e : c.notes.result ≡ length c.args.index.now.notes = search rules in
    e ∙ sym (mapped_length OfNote c.args.index.now.notes) ∙ sym (ap (λ t. length (rows_of t c.args.index.now)) c.in-Notes.is)
