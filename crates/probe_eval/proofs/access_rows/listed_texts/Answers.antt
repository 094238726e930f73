use Rattle.std.proofs.Common.{rules, ◌≡◌, ◌∙◌, sym, ap, Some, []}
use Rattle.std.specs.Prelude.{unwrap_or}
use Rattle.tql_core.specs.Row.{OfDoc, OfNote}
use Rattle.tql_core.specs.Values.{lookup, on_row}
use Rattle.access_plan.specs.Accesses.{walked_list}
use Rattle.probe_eval.proofs.AccessLists.{none_walked}
use Rattle.probe_eval.proofs.access_rows.listed_texts.Goals as goal

pub returns-in-Some-OfDoc : goal.returns-in-Some-OfDoc
returns-in-Some-OfDoc c =
    let q : lookup c.args.var.0 c.args.env.now ≡ Some (OfDoc c.in-Some-OfDoc.doc.now) = search rules in
    c.texts_in.ensures ∙ sym (ap (λ o. unwrap_or (on_row o (walked_list c.args.list)) []) q)

pub returns-in-Some-OfNote : goal.returns-in-Some-OfNote
returns-in-Some-OfNote c =
    let q : lookup c.args.var.0 c.args.env.now ≡ Some (OfNote c.in-Some-OfNote._note.now) = search rules in
    sym (ap (λ o. unwrap_or (on_row o (walked_list c.args.list)) []) q ∙ none_walked c.args.list c.in-Some-OfNote._note.now)
