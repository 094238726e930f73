use Rattle.std.proofs.Common.{refl}
use Rattle.query_eval.proofs.BoxLaws.{added_none, added_at, added_behind}
use Rattle.query_eval.proofs.box_fronts.BoxFronts.put.Goals as goal

pub returns-then-slot-len-clause-fronts : goal.returns-then-slot-len-clause-fronts
returns-then-slot-len-clause-fronts c = added_none c.args.front c.args.self.now.fronts.items _ refl

pub returns-then-place-len-clause-fronts : goal.returns-then-place-len-clause-fronts
returns-then-place-len-clause-fronts c = added_at c.args.front c.args.self.now.fronts.items _ c.index.result.now refl

pub returns-in-Ok-clause-fronts : goal.returns-in-Ok-clause-fronts
returns-in-Ok-clause-fronts c = added_behind c.args.front c.args.self.now.fronts.items _ c.append.ensures.fronts

pub returns-else-len-capacity-clause-fronts : goal.returns-else-len-capacity-clause-fronts
returns-else-len-capacity-clause-fronts c = added_none c.args.front c.args.self.now.fronts.items _ refl
