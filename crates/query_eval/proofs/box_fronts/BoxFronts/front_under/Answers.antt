use Rattle.query_eval.proofs.FrontLaws.{got_in}
use Rattle.query_eval.proofs.box_fronts.BoxFronts.front_under.Goals as goal

pub returns-in-Some : goal.returns-in-Some
returns-in-Some c = got_in c.args.self.now.fronts.items _ _ c.front_at.ensures
