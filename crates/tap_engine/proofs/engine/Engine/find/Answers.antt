use Rattle.tap_engine.proofs.LookupLaws.{each-reply, each-refusal, most-lookup}
use Rattle.tap_engine.proofs.engine.Engine.find.Goals as goal

pub returns-clause-ok : goal.returns-clause-ok
returns-clause-ok g c =
    each-reply c.args.lookup c.args.self.now c.look_up.result c.docs-docs.ensures.places.numbered c.look_up.ensures.ok

pub returns-clause-refusal : goal.returns-clause-refusal
returns-clause-refusal g c =
    each-refusal c.args.lookup c.args.self.now c.look_up.result c.docs-docs.ensures.places.numbered c.look_up.ensures.refusal

pub returns-clause-most : goal.returns-clause-most
returns-clause-most g c = most-lookup c.args.lookup c.args.self.now c.look_up.new.steps c.args.steps.now c.look_up.ensures.steps
