use Rattle.std.proofs.Common.{◌∙◌, ap, Some, None}
use Rattle.tap_engine.proofs.LetterLaws.{listed-is}
use Rattle.tap_engine.proofs.engine.Engine.listing.Goals as goal

pub returns-in_ok-rated-in-Some : goal.returns-in_ok-rated-in-Some
returns-in_ok-rated-in-Some g c = λ t represents sound.
    ap Some c.in_ok-rated-in-Some.ensures
    ∙ listed-is c.args.self.now c.args.user.now c.args.name.now (Some c.in-Some.kept.now) c.in-Some.ensures t represents sound

pub returns-in-None : goal.returns-in-None
returns-in-None g c =
    λ t represents sound. listed-is c.args.self.now c.args.user.now c.args.name.now None c.in-None.ensures t represents sound
