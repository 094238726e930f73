use Rattle.std.proofs.Common.{rules, ◌≡◌, Some, None}
use Rattle.std.specs.Prelude.{◌⊎◌, length}
use Rattle.script_lang.specs.declared.refusal.Refusal.TheVariants.{Memory}
use Rattle.tap_model.specs.Sessions.{user_of}
use Rattle.tap_model.specs.Verdicts.{first_refusal, no_moment, no_user, long_filter, filter_fault, block_text}
use Rattle.tap_engine.specs.FilterChecks.{filter_limits}
use Rattle.tap_engine.proofs.FilterLaws.{text-refused}
use Rattle.tap_engine.proofs.engine.Engine.new_filter.Goals as goal

pub returns-in_err-rules-clause-refusal : goal.returns-in_err-rules-clause-refusal
returns-in_err-rules-clause-refusal c =
    let x = c.in_err-rules.field-0.0 in
    let moment : no_moment c.args.self.now.session ≡ None = search rules in
    let user : no_user c.args.self.now.session ≡ None = search rules in
    let long : long_filter c.args.block ≡ None = search rules in
    let limits : first_refusal (filter_limits c.args.self.now (user_of c.args.self.now.session) (length (block_text c.args.block))) ≡ None =
    search rules in
    let fault : (filter_fault (block_text c.args.block) ≡ Some x) ⊎ (x ≡ Memory) = search rules in
    let by = text-refused c.args.self.now c.args.block x moment user long limits fault in search (rules, by)
