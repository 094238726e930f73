use Rattle.std.proofs.Common.{rules, ◌≡◌, ◌∙◌, true, IfErr}
use Rattle.clap.specs.Words.{takes}
use Rattle.command_words.specs.declared.option_fault.OptionFault.TheVariants as fault
use Rattle.command_words.specs.Options.{app}
use Rattle.command_words.specs.Words.{path_in, sample_in}
use Rattle.command_words.proofs.Worded.{worded}
use Rattle.command_words.proofs.command_words.read_words.Goals as goal

pub returns-in_err-values-clause-fine : goal.returns-in_err-values-clause-fine
returns-in_err-values-clause-fine c =
    let taken : takes app c.args.words.now ≡ true → IfErr c.from_residual-in_err-values.result (λ e. e ≡ fault.Memory) = search rules in
    λ path number w. taken (worded c.args.words.now path number w).taken

pub returns-clause-named : goal.returns-clause-named
returns-clause-named c =
    let place : c.in_ok-path_text.field-0 ≡ path_in c.args.words.now = search rules in
    let sample : c.sample_number.result ≡ sample_in c.args.words.now = search rules in
    λ path number w. (place ∙ (worded c.args.words.now path number w).place, sample ∙ (worded c.args.words.now path number w).sample)
