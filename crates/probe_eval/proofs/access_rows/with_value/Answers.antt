use Rattle.std.proofs.Common.{rules, ◌≡◌, ◌∙◌, Some, map}
use Rattle.tql_core.specs.Row.{OfNote}
use Rattle.row_index.specs.Numbers.{notes_valued}
use Rattle.probe_eval.proofs.AccessLists.{no_value, notes_of_value}
use Rattle.probe_eval.proofs.access_rows.with_value.Goals as goal

pub returns-in-None : goal.returns-in-None
returns-in-None c =
    c.none.ensures ∙ no_value c.args.index.now.notes c.args.num (c.signed.ensures.none c.in-None.is) c.notes-notes.ensures.values

pub returns-in-Some : goal.returns-in-Some
returns-in-Some c =
    let k : c.args.num ≡ Some c.in-Some.value = search rules in
    let e : c.of_notes.result ≡ map OfNote (notes_valued c.in-Some.value c.args.index.now.notes) = search rules in
    e ∙ notes_of_value c.args.index.now c.args.num c.in-Some.value k
