use Rattle.std.proofs.Common.{refl}
use Rattle.query_eval.proofs.BoxLaws.{added_none}
use Rattle.query_eval.proofs.fronts.store_box.Goals as goal

pub returns-else-front-gt0-clause-fronts : goal.returns-else-front-gt0-clause-fronts
returns-else-front-gt0-clause-fronts c = added_none _ c.args.boxes.now.fronts.items _ refl
