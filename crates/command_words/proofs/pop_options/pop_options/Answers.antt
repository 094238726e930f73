use Rattle.std.proofs.Common.{rules, ap, ap₂, true, ◌≡◌, ◌∙◌}
use Rattle.std.proofs.lemmas.Result.{IfOk-weaker}
use Rattle.clap.specs.Words.{App, app_of, rule_of, with_rule}
use Rattle.clap.specs.Simple.{app_of_fields}
use Rattle.command_words.specs.Options.{store_rule}
use Rattle.command_words.specs.PopOptions.{bare_pop_app}
use Rattle.command_words.proofs.pop_options.pop_options.Goals as goal

pub returns : goal.returns
returns c =
    let store_is : rule_of c.default_value-store.result ≡ store_rule = search rules in
    let bare_is : app_of c.no_binary_name.result ≡ bare_pop_app = ap app_of_fields c.no_binary_name.ensures
    ∙ ap (λ (a : App). record a { top = record a.top { no_binary_name = true } }) c.new-2.ensures.app in
    let one = c.in_ok-arg.ensures.shape (search rules) ∙ ap₂ with_rule bare_is store_is in
    let two = c.in_ok-arg-2.ensures.shape (search rules) ∙ ap₂ with_rule one c.required.ensures.rule in
    let three = c.in_ok-arg-3.ensures.shape (search rules) ∙ ap₂ with_rule two c.required-2.ensures.rule in
    IfOk-weaker c.arg-4.result _ _ (λ r h. h.shape (search rules) ∙ ap₂ with_rule three c.required-3.ensures.rule) c.arg-4.ensures
