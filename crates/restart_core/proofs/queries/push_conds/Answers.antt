use Rattle.std.proofs.Common.{◌∙◌, [], pos, take, rules, to_z, w64}
use Rattle.restart_core.specs.Damages.{queries_damage}
use Rattle.restart_core.proofs.QueryLaws.{damage-on, damage-here, names-on, conds-on}
use Rattle.restart_core.proofs.queries.push_conds.Goals as goal

pub returns-in_err-read_query-clause-fault : goal.returns-in_err-read_query-clause-fault
returns-in_err-read_query-clause-fault c =
    let here = damage-here c.args.queries.now c.loop-i.i (to_z w64 c.loop-i.low-bits)
    c.index-queries-i.result (queries_damage [] 1 (pos 0) c.args.queries.now)
    c.in_err-read_query.field-0.0 c.loop-i-test.true c.index-queries-i.is c.loop-i.invariant.left
    (c.in_err-read_query.ensures.fault (take c.loop-i.i c.args.queries.now) c.loop-i.invariant.names) in
    search (rules, here)

pub loop-i-preserved : goal.loop-i-preserved
loop-i-preserved c =
    let earlier = take c.loop-i.i c.args.queries.now in
    record {
      left = damage-on c.args.queries.now c.loop-i.i (to_z w64 c.loop-i.low-bits)
          c.index-queries-i.result (queries_damage [] 1 (pos 0) c.args.queries.now) c.loop-i-test.true c.index-queries-i.is
          c.loop-i.invariant.left (c.in_ok-read_query.ensures.stands earlier c.loop-i.invariant.names) ∙ search rules;
      names = c.in_ok-read_query.ensures.names earlier c.loop-i.invariant.names
          ∙ names-on c.args.queries.now c.loop-i.i c.index-queries-i.result c.loop-i-test.true c.index-queries-i.is;
      conds = conds-on c.args.queries.now c.loop-i.i c.index-queries-i.result c.loop-i.conds c.push.new.self c.in_ok-read_query.field-0
          c.loop-i-test.true c.index-queries-i.is c.loop-i.invariant.conds c.in_ok-read_query.ensures.cond c.in_ok-push.ensures.ok;
    }
