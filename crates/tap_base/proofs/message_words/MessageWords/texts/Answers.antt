use Rattle.std.proofs.Common.{◌∙◌, ap, drop}
use Rattle.std.proofs.lemmas.List.{take_rest}
use Rattle.std.proofs.lemmas.Result.{IfOk-weaker}
use Rattle.tap_base.proofs.Reading.{texts-read}
use Rattle.tap_base.proofs.message_words.MessageWords.texts.Goals as goal

pub returns : goal.returns
returns c =
    IfOk-weaker c.into_texts.result _ _ (λ texts is. texts-read c.self.inside.subject (drop c.self.inside.body c.self.inside.text)
    c.as_slice.result.now _ c.new-set.result c.add.new.self c.add-2.new.self texts c.new-set.ensures c.as_slice.ensures
    (take_rest c.as_slice-2.result.now c.self.inside.body ∙ ap (drop c.self.inside.body) c.as_slice-2.ensures)
    c.in_ok-add.ensures c.in_ok-add-2.ensures is ∙ c.self.view_is) c.into_texts.ensures
