use Rattle.std.proofs.Common.{rules, ◌≡◌, true}
use Rattle.tap_rows.specs.Kept.{In}
use Rattle.query_eval.specs.BoxFronts.{IsBoxFrontOf}
use Rattle.query_eval.proofs.BoxLaws.{box_known, box_none}
use Rattle.query_eval.proofs.box_fronts.BoxFronts.boxed.Goals as goal

pub returns-in-None : goal.returns-in-None
returns-in-None c = λ entries docs a. box_none c.args.self.now.query entries docs c.args.kind c.args.first.0

pub returns-then-is_box_front_of : goal.returns-then-is_box_front_of
returns-then-is_box_front_of c = λ entries docs a.
    let i : In c.in-Some.front c.args.self.now.fronts.items = search rules in
    let t : c.is_box_front_of.result ≡ true = search rules in
    let by = c.is_box_front_of.ensures t in
    let o : IsBoxFrontOf c.args.self.now.query c.args.kind c.args.first.0 c.in-Some.front = search (rules, by) in
    box_known c.args.self.now.query entries docs c.args.self.now.fronts.items c.in-Some.front c.args.kind c.args.first.0 a i o

pub returns-else-is_box_front_of : goal.returns-else-is_box_front_of
returns-else-is_box_front_of c = λ entries docs a. box_none c.args.self.now.query entries docs c.args.kind c.args.first.0
