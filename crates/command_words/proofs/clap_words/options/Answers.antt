use Rattle.std.proofs.Common.{rules, ap, ap₂, true, ◌≡◌, ◌∙◌, Some, None, Option, pos}
use Rattle.clap.specs.declared.builder.value_parser.ValueParser.{ValueParser}
use Rattle.clap.specs.declared.builder.value_parser.ValueParser.TheVariants as parser
use Rattle.std.proofs.lemmas.Result.{IfOk-weaker}
use Rattle.clap.specs.Words.{App, Rule, app_of, rule_of, with_rule}
use Rattle.clap.specs.Simple.{app_of_fields}
use Rattle.command_words.specs.Options.{bare_app, store_rule, sample_rule}
use Rattle.command_words.proofs.clap_words.options.Goals as goal

pub returns : goal.returns
returns c =
    let store_is : rule_of c.default_value-store.result ≡ store_rule = search rules in
    let given = c.value_parser-sample.ensures.given in
    let made : c.range.result ≡ parser.Signed (pos 1) (pos 100000) =
    rw (c.value_parser.ensures, c.new-3.ensures.start, c.new-3.ensures.end) at c.range.ensures in
    let is_q : given.0 ≡ parser.Signed (pos 1) (pos 100000) = given.2 ∙ made in
    let before : rule_of c.action-2.result ≡ record sample_rule { parser = None } = search rules in
    let sample_is : rule_of c.value_parser-sample.result ≡ sample_rule = ap rule_of c.value_parser-sample.ensures.others
    ∙ ap₂ (λ (r : Rule) (p : Option ValueParser). record r { parser = p }) before (given.1 ∙ ap Some is_q) in
    let bare_is : app_of c.no_binary_name.result ≡ bare_app = ap app_of_fields c.no_binary_name.ensures
    ∙ ap (λ (a : App). record a { top = record a.top { no_binary_name = true } }) c.new-4.ensures.app in
    IfOk-weaker c.arg-2.result _ _ (λ r h. h.shape (search rules)
    ∙ ap₂ with_rule (c.in_ok-arg.ensures.shape (search rules) ∙ ap₂ with_rule bare_is store_is) sample_is) c.arg-2.ensures
