use Rattle.std.proofs.Common.{rules, ◌≡◌, ◌∙◌, sym, ap, None}
use Rattle.restart_core.specs.Starts.{condition_text}
use Rattle.restart_core.proofs.StartLaws.{stored-text}
use Rattle.tap_model.specs.Queries.{condition_in}
use Rattle.tap_model.specs.Sessions.{user_of}
use Rattle.tap_model.specs.Verdicts.{no_moment, no_user}
use Rattle.tap_engine.specs.Standing.{name_refusal}
use Rattle.tap_engine.proofs.CheckLaws.{text-refused}
use Rattle.tap_engine.proofs.engine.Engine.new_query.Goals as goal

pub returns-in_err-source-clause-refusal : goal.returns-in_err-source-clause-refusal
returns-in_err-source-clause-refusal c =
    let x = c.in_err-source.field-0.0 in
    let moment : no_moment c.args.self.now.session ≡ None = search rules in
    let user : no_user c.args.self.now.session ≡ None = search rules in
    let named : None ≡ name_refusal c.args.self.now (user_of c.args.self.now.session) c.args.name = search rules in
    let by = text-refused c.args.self.now c.args.name c.args.source x moment user named c.in_err-source.ensures.refusal in
    search (rules, by)

pub returns-clause-cond : goal.returns-clause-cond
returns-clause-cond c = c.in_ok-source.ensures.cond
    ∙ ap condition_in (sym (stored-text c.args.source) ∙ ap condition_text (sym c.in_ok-source.ensures.stored))
