use Rattle.std.proofs.Common.{rules, ◌≡◌, ◌∙◌, Some, ap, length}
use Rattle.tql_core.specs.declared.atom.NumField.TheVariants.{Value}
use Rattle.row_index.specs.Numbers.{notes_valued}
use Rattle.probe_eval.specs.Work.{rows_of_number}
use Rattle.probe_eval.proofs.AccessLists.{no_value, notes_of_value}
use Rattle.probe_eval.proofs.ShortestLaws.{notes_counted}
use Rattle.probe_eval.proofs.lists.count_valued.Goals as goal

pub returns-in-None : goal.returns-in-None
returns-in-None c =
    ap length (no_value c.args.index.now.notes c.args.num (c.signed.ensures.none c.in-None.is) c.notes-notes.ensures.values)

pub returns-in-Some : goal.returns-in-Some
returns-in-Some c =
    let notes = notes_valued c.in-Some.value c.args.index.now.notes in
    let k : c.args.num ≡ Some c.in-Some.value = search rules in
    let e : c.count_valued.result ≡ length notes = search rules in
    e ∙ notes_counted notes (rows_of_number Value c.args.index.now c.args.num)
    (notes_of_value c.args.index.now c.args.num c.in-Some.value k)
