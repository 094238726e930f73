use Rattle.std.proofs.Common.{rules, ◌≡◌, true}
use Rattle.probe_eval.specs.contracts.list_kind.ListKindPartialEq.TheImpl as kind
use Rattle.query_eval.proofs.BoxLaws.{query_is}
use Rattle.query_eval.proofs.FrontLaws.{kind_is}
use Rattle.query_eval.proofs.box_fronts.is_box_front_of.Goals as goal

pub returns : goal.returns
returns c = λ t.
    let k : kind.ghosts.eq c.args.front.now.kind c.args.kind ≡ true = search rules in
    let f : c.args.front.now.first.0 ≡ c.args.first.0 = search rules in
    let q : c.args.front.now.query.0 ≡ c.args.query.0 = search rules in
    record {
      query_is = query_is c.args.front.now.query c.args.query q;
      kind_is = kind_is c.args.front.now.kind c.args.kind k;
      first_is = f;
    }
