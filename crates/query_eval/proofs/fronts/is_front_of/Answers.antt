use Rattle.std.proofs.Common.{rules, ◌≡◌, true}
use Rattle.probe_eval.specs.contracts.list_kind.ListKindPartialEq.TheImpl as kind
use Rattle.query_eval.proofs.FrontLaws.{kind_is}
use Rattle.query_eval.proofs.fronts.is_front_of.Goals as goal

pub returns : goal.returns
returns c = λ t.
    let k : kind.ghosts.eq c.args.front.now.kind c.args.kind ≡ true = search rules in
    let f : c.args.front.now.first.0 ≡ c.args.first.0 = search rules in
    record {
      kind_is = kind_is c.args.front.now.kind c.args.kind k;
      first_is = f;
    }
