use Rattle.std.proofs.Common.{rules, ◌≡◌, ◌∙◌, ap, true, IfErr}
use Rattle.clap.specs.Words.{takes, fault_of}
use Rattle.command_words.specs.declared.option_fault.OptionFault.TheVariants as fault
use Rattle.command_words.specs.PopOptions.{pop_app}
use Rattle.command_words.specs.PopWords.{pop_path_in, user_in, box_in, secret_in}
use Rattle.command_words.proofs.PopWorded.{worded-pop}
use Rattle.command_words.proofs.pop_words.read_pop_words.Goals as goal

pub returns-in_err-values-clause-fine : goal.returns-in_err-values-clause-fine
returns-in_err-values-clause-fine c =
    let taken : takes pop_app c.args.words.now ≡ true → IfErr c.from_residual-in_err-values.result (λ e. e ≡ fault.Memory) = search rules in
    λ path user name secret w. taken (worded-pop c.args.words.now path user name secret w).taken

pub returns-clause-named : goal.returns-clause-named
returns-clause-named c =
    let place : c.in_ok-path_text.field-0 ≡ pop_path_in c.args.words.now = search rules in
    let user : c.in_ok-value_text.field-0 ≡ user_in c.args.words.now = search rules in
    let name : c.in_ok-value_text-2.field-0 ≡ box_in c.args.words.now = search rules in
    let secret : c.in_ok-value_text-3.field-0 ≡ secret_in c.args.words.now = search rules in
    λ path u b p w.
    let asked = worded-pop c.args.words.now path u b p w in
    (place ∙ asked.place, (user ∙ asked.user_is, (name ∙ asked.name_is, secret ∙ asked.secret_is)))

pub returns-in_err-values-clause-refused : goal.returns-in_err-values-clause-refused
returns-in_err-values-clause-refused c =
    let words = ap (fault_of pop_app) c.in_ok-words.ensures in
    let by = c.in_err-values.ensures.refused in search (rules, by, words)
