use Rattle.query_eval.proofs.FrontLaws.{known_passed}
use Rattle.query_eval.proofs.behind.known_front.Goals as goal

pub returns-in-Some-clause-own : goal.returns-in-Some-clause-own
returns-in-Some-clause-own c = c.in-Some.ensures.own

pub returns-in-Some-clause-passed : goal.returns-in-Some-clause-passed
returns-in-Some-clause-passed c = λ n kept a.
    known_passed c.args.search.now.seen.now c.args.search.now.index.now.docs n kept c.args.fronts.now.fronts.items c.args.found.now.kind
    c.args.first.0 c.in-Some.front a c.in-Some.ensures

pub returns-in-None-clause-passed : goal.returns-in-None-clause-passed
returns-in-None-clause-passed c = λ n kept a. c.box_front.ensures.passed n kept
