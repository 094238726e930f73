use Rattle.std.proofs.Common.{rules, ◌≡◌, ◌∙◌, Some, map}
use Rattle.tql_core.specs.Row.{OfDoc}
use Rattle.row_index.specs.Orders.{in_window, doc_arrival}
use Rattle.row_index.specs.Texts.{texts_of, with_text}
use Rattle.probe_eval.specs.Literals.{literal_kind, literal_of}
use Rattle.probe_eval.proofs.LiteralLaws.{under_literal}
use Rattle.probe_eval.proofs.literals.under_literal.Goals as goal

pub returns-in-Some : goal.returns-in-Some
returns-in-Some c =
    let k : literal_kind c.args.var c.args.guard.now ≡ Some c.in-Some.kind = search rules in
    let e : c.docs_under.result ≡ map OfDoc (in_window doc_arrival
    c.args.w.low c.args.w.high (with_text (texts_of c.in-Some.kind) (literal_of c.args.guard.now) c.args.index.now.docs)) =
    search rules in
    e ∙ under_literal c.args.var c.args.guard.now c.in-Some.kind c.args.w.low c.args.w.high c.args.index.now.docs k
