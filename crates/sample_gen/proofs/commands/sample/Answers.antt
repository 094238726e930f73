use Rattle.std.proofs.Common.{arith, ◌≡◌, true, sym, subst, List}
use Rattle.std.proofs.lemmas.Grind.{common_steps}
use Rattle.std.specs.List.{list_all}
use Rattle.script_lang.specs.declared.command.Command.{Command}
use Rattle.script_lang.specs.Proper.{is_proper}
use Rattle.sample_gen.specs.Samples.{sample_of}
use Rattle.sample_gen.proofs.ProperLaws.{proper_sample}
use Rattle.sample_gen.proofs.commands.sample.Goals as goal

pub returns-clause-proper : goal.returns-clause-proper
returns-clause-proper c =
    let is : c.push_runs.new.commands ≡ sample_of c.args.n = grind (arith, common_steps) in
    subst (λ (commands : List Command). list_all is_proper commands ≡ true) (sym is) (proper_sample c.args.n)
