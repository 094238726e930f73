use Rattle.std.proofs.Common.{rules, ◌≡◌, ◌∙◌, refl, sym, subst, inr, Some, w64, to_z, of_z}
use Rattle.tap_base.specs.Numbers.{moment_of}
use Rattle.tap_rows.specs.declared.tables.Tables.{Tables}
use Rattle.script_lang.specs.declared.command.Command.TheVariants.{Ask}
use Rattle.script_lang.specs.declared.refusal.Refusal.TheVariants.{Memory}
use Rattle.tql_core.specs.Condition.{condition}
use Rattle.tql_types.proofs.Ranges.{InRange, moment-range}
use Rattle.tap_model.specs.Stories.{Refuses}
use Rattle.tap_engine.specs.Standing.{Represents}
use Rattle.tap_engine.proofs.AskLaws.{ask-text, ask-open, answers-ask}
use Rattle.tap_engine.proofs.CostLaws.{at-second, most-ask}
use Rattle.tap_engine.proofs.engine.Engine.ask.Goals as goal
use Rattle.tap_base.specs.Numbers.{IsMoment}

pub returns-in_err-cond-clause-refusal : goal.returns-in_err-cond-clause-refusal
returns-in_err-cond-clause-refusal g c =
    let is : moment_of c.args.moment.now ≡ Some c.in-Some.second = search rules in
    let there : c.args.self.now.session.moment ≡ Some c.in-Some-moment.now = search rules in
    let ask = Ask c.args.moment.now c.args.source.now in
    let by : (t : Tables) → Refuses c.in_err-cond.field-0.0 ask c.args.self.now.session t =
    λ t. ask-text c.args.self.now.session c.args.moment.now c.args.source.now c.in-Some.second c.in-Some-moment.now is there t
    c.in_err-cond.field-0.0 c.in_err-cond.ensures.refusal in search (rules, by)

pub returns-in-Err-clause-refusal : goal.returns-in-Err-clause-refusal
returns-in-Err-clause-refusal g c =
    let is : moment_of c.args.moment.now ≡ Some c.in-Some.second = search rules in
    let there : c.args.self.now.session.moment ≡ Some c.in-Some-moment.now = search rules in
    let ask = Ask c.args.moment.now c.args.source.now in
    let by : (t : Tables) → Represents c.args.self.now t → Refuses c.in-Err.refusal ask c.args.self.now.session t =
    λ t represents. ask-open c.args.self.now.session c.args.moment.now c.args.source.now c.in-Some.second c.in-Some-moment.now is there t
    (condition c.in_ok-cond.cond) c.in-Err.refusal c.in_ok-cond.ensures.cond (search rules) in search (rules, by)

pub given_at-given-requires-clause-second : goal.given_at-given-requires-clause-second
given_at-given-requires-clause-second g c =
    let is : moment_of c.args.moment.now ≡ Some c.in-Some.second = search rules in
    let same : to_z w64 (of_z w64 c.in-Some.second) ≡ c.in-Some.second = search rules in
    subst IsMoment (sym same) (subst InRange is (moment-range c.args.moment.now))

pub returns-clause-ok : goal.returns-clause-ok
returns-clause-ok g c = record {
  answer = λ t represents sound.
      let is : moment_of c.args.moment.now ≡ Some c.in-Some.second = search rules in
      let there : c.args.self.now.session.moment ≡ Some c.in-Some-moment.now = search rules in
      let answers = answers-ask c.args.self.now.session c.args.moment.now c.args.source.now c.in-Some.second c.in-Some-moment.now is there t
      (condition c.in_ok-cond.cond) c.args.self.now.index c.in_ok-docs.docs c.in_ok-cond.ensures.cond (search rules) represents.rows
      (search rules) in search (rules, answers);
  short = search rules;
  accepted = search rules;
}

pub returns-in_err-docs-clause-most : goal.returns-in_err-docs-clause-most
returns-in_err-docs-clause-most g c =
    let is : moment_of c.args.moment.now ≡ Some c.in-Some.second = search rules in
    let same : to_z w64 (of_z w64 c.in-Some.second) ≡ c.in-Some.second = search rules in
    let steps = at-second c.args.self.now.index (condition c.in_ok-cond.cond) _ c.in-Some.second _ _ same c.given_at-given.ensures.steps in
    most-ask c.args.self.now c.args.moment.now c.args.source.now c.in-Some.second (condition c.in_ok-cond.cond) _ _ is
    c.in_ok-cond.ensures.cond steps

pub returns-clause-most : goal.returns-clause-most
returns-clause-most g c =
    let is : moment_of c.args.moment.now ≡ Some c.in-Some.second = search rules in
    let same : to_z w64 (of_z w64 c.in-Some.second) ≡ c.in-Some.second = search rules in
    let steps = at-second c.args.self.now.index (condition c.in_ok-cond.cond) _ c.in-Some.second _ _ same c.given_at-given.ensures.steps in
    most-ask c.args.self.now c.args.moment.now c.args.source.now c.in-Some.second (condition c.in_ok-cond.cond) _ _ is
    c.in_ok-cond.ensures.cond steps

pub returns-in_err-docs-clause-refusal : goal.returns-in_err-docs-clause-refusal
returns-in_err-docs-clause-refusal g c =
    let is : moment_of c.args.moment.now ≡ Some c.in-Some.second = search rules in
    let there : c.args.self.now.session.moment ≡ Some c.in-Some-moment.now = search rules in
    let by : (t : Tables) → Refuses Memory (Ask c.args.moment.now c.args.source.now) c.args.self.now.session t =
    λ t. ask-text c.args.self.now.session c.args.moment.now c.args.source.now c.in-Some.second c.in-Some-moment.now is there t Memory
    (inr refl) in search (rules, by)
