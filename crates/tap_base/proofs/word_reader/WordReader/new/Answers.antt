use Rattle.std.proofs.Common.{◌∙◌, ap, drop}
use Rattle.std.proofs.lemmas.List.{take_rest}
use Rattle.tap_base.proofs.Reading.{joined-words}
use Rattle.tap_base.proofs.word_reader.WordReader.new.Goals as goal

pub returns-clause-left : goal.returns-clause-left
returns-clause-left c =
    joined-words c.args.subject (drop c.args.body c.args.text) c.in_ok-bytes.bytes.items c.lowered.result c.as_slice.result.now _
    c.lowered.ensures c.in_ok-bytes.ensures c.as_slice.ensures (take_rest c.as_slice-2.result.now c.args.body
    ∙ ap (drop c.args.body) c.as_slice-2.ensures)
