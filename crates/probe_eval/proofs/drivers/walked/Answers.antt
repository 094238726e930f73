use Rattle.std.proofs.Common.{rules, ◌≡◌, ◌∙◌, [], Some, filter, map}
use Rattle.tql_core.specs.Row.{OfDoc}
use Rattle.tql_core.specs.Values.{bind, true_atom}
use Rattle.row_index.specs.Orders.{in_window, doc_arrival}
use Rattle.time_marks.specs.Seeks.{seek_window}
use Rattle.probe_eval.specs.Literals.{chosen}
use Rattle.probe_eval.specs.Searches.{searched}
use Rattle.probe_eval.specs.Tables.{table_in}
use Rattle.probe_eval.proofs.LiteralLaws.{chosen_is}
use Rattle.probe_eval.proofs.WalkedLaws.{walked_is}
use Rattle.probe_eval.proofs.drivers.walked.Goals as goal

pub under_literal-requires : goal.under_literal-requires
under_literal-requires c =
    let T = c.args.search.now.index.now in
    let path = c.args.search.now.probe.now.path in
    let k : chosen T c.args.var path c.args.seek (table_in path c.args.var.0) ≡ Some c.in-Some.guard.now = search rules in
    (chosen_is T c.args.var c.in-Some.guard.now path c.args.seek (table_in path c.args.var.0) k).3

pub returns-in-Some : goal.returns-in-Some
returns-in-Some c =
    let T = c.args.search.now.index.now in
    let path = c.args.search.now.probe.now.path in
    let s = seek_window c.args.w c.args.seek in
    let k : chosen T c.args.var path c.args.seek (table_in path c.args.var.0) ≡ Some c.in-Some.guard.now = search rules in
    let e : c.under_literal.result ≡ filter (λ row. true_atom c.in-Some.guard.now (bind c.args.var row []))
    (map OfDoc (in_window doc_arrival s.low s.high T.docs)) = search rules in
    e ∙ walked_is T c.args.w (searched c.args.search.now) c.args.seek c.args.var c.in-Some.guard.now k
