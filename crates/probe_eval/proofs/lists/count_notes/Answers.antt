use Rattle.std.proofs.Common.{rules, ◌≡◌, ◌∙◌, Some, pos, ap, length}
use Rattle.tql_core.specs.declared.atom.NumField.TheVariants.{DocOf}
use Rattle.row_index.specs.Held.{indexed_notes}
use Rattle.probe_eval.specs.Work.{rows_of_number}
use Rattle.probe_eval.proofs.AccessLists.{no_note, notes_picked}
use Rattle.probe_eval.proofs.ShortestLaws.{notes_counted}
use Rattle.probe_eval.proofs.lists.count_notes.Goals as goal

pub returns-in-None : goal.returns-in-None
returns-in-None c =
    ap length (no_note c.args.index.now.notes c.args.num (c.short.ensures.none c.in-None.is) c.notes-notes.ensures.documents)

pub returns-in-Some : goal.returns-in-Some
returns-in-Some c =
    let k : c.args.num ≡ Some (pos c.in-Some.num) = search rules in
    let e : c.count_on.result ≡ length (indexed_notes c.in-Some.num c.args.index.now.notes) = search rules in
    e ∙ notes_counted (indexed_notes c.in-Some.num c.args.index.now.notes) (rows_of_number DocOf c.args.index.now c.args.num)
    (notes_picked c.args.index.now.notes c.args.num c.in-Some.num k)
