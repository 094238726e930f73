use Rattle.std.proofs.Common.{rules, ◌≡◌, Some, None, w64, to_z, of_z}
use Rattle.std.specs.Option.{option_or}
use Rattle.tap_base.specs.Numbers.{moment_of}
use Rattle.tap_model.specs.Verdicts.{is_back}
use Rattle.tap_model.proofs.HeldLaws.{moment-in-range}
use Rattle.tap_engine.proofs.ReadyLaws.{ready-at}
use Rattle.tap_engine.proofs.engine.Engine.at.Goals as goal

pub returns-clause-ok : goal.returns-clause-ok
returns-clause-ok c = record {
  answer = search rules;
  represents = search rules;
  undo = search rules;
  ready = let is : moment_of c.args.text.now ≡ Some c.in-Some.second = search rules in
      let same : to_z w64 (of_z w64 c.in-Some.second) ≡ c.in-Some.second = search rules in
      let back : is_back (option_or c.args.self.now.session.moment c.args.self.now.greatest) (Some c.in-Some.second) ≡ None =
      search rules in
      rw same (ready-at c.args.self.now c.in-Some.second c.requires.ready (moment-in-range c.args.text.now c.in-Some.second is) back);
  running = search rules;
  short = search rules;
  accepted = search rules;
}
