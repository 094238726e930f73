use Rattle.std.proofs.Common.{rules, ◌≡◌, ◌∙◌, pos, ap, length, arith}
use Rattle.std.specs.List.{list_any}
use Rattle.std.specs.Str.{bytes_eq}
use Rattle.std.proofs.lemmas.Int.{ints}
use Rattle.row_index.specs.Orders.{in_window, doc_arrival}
use Rattle.row_index.specs.Texts.{texts_of, with_text}
use Rattle.probe_eval.proofs.LiteralLaws.{all_in_clock}
use Rattle.probe_eval.proofs.literals.count_under.Goals as goal

pub returns : goal.returns
returns c =
    let e : c.len.result ≡ length (in_window doc_arrival (pos 0) (pos 9223372036854775807)
    (with_text (texts_of c.args.kind) c.args.text.now c.args.index.now.docs)) = search rules in
    e ∙ ap length (all_in_clock (λ d. list_any (λ other. bytes_eq c.args.text.now other) (texts_of c.args.kind d)) (pos 9223372036854775807)
    (omega (arith, ints)) c.args.index.now.docs c.docs-docs.ensures.places.moments)
