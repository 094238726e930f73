use Rattle.std.proofs.Common.{rules, ◌≡◌, sym, subst}
use Rattle.query_eval.specs.RunFronts.{ArePassed}
use Rattle.query_eval.proofs.fronts.Fronts.store.Goals as goal

pub returns-clause-fronts : goal.returns-clause-fronts
returns-clause-fronts c = λ entries docs n kept a.
    let e : c.deref.result.now ≡ c.args.self.now.fronts.items = search rules in
    c.store_boxes.ensures.fronts entries docs n kept (subst (ArePassed entries docs n kept) (sym e) a)
