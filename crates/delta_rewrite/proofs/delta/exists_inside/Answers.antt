use Rattle.std.proofs.Common.{◌∙◌, ap}
use Rattle.std.specs.Prelude.{map}
use Rattle.tql_core.specs.Condition.{condition}
use Rattle.time_marks.proofs.GrownPools.{all_still_kept, same_probes}
use Rattle.delta_rewrite.specs.declared.asked.Ask.TheVariants as A
use Rattle.delta_rewrite.specs.Asking.{asked}
use Rattle.delta_rewrite.proofs.Appended.{joined_kept, joined_probes}
use Rattle.delta_rewrite.proofs.delta.exists_inside.Goals as goal

pub ask_all-requires-clause-kept : goal.ask_all-requires-clause-kept
ask_all-requires-clause-kept c =
    all_still_kept c.args.pool.now c.own_probe.new.pool c.in_ok-own.ensures.nodes c.args.inner c.requires.kept

pub returns-in_ok-all-clause-nodes : goal.returns-in_ok-all-clause-nodes
returns-in_ok-all-clause-nodes c id x h = c.in_ok-asked.ensures.nodes id x (c.in_ok-own.ensures.nodes id x h)

pub returns-in_ok-all-clause-kept : goal.returns-in_ok-all-clause-kept
returns-in_ok-all-clause-kept c =
    joined_kept c.own_probe.new.pool c.ask_all.new.pool c.in_ok-asked.ensures.nodes c.in_ok-own.own c.in_ok-asked.asked c.in_ok-all.all
    c.in_ok-all.ensures c.in_ok-own.ensures.kept c.in_ok-asked.ensures.kept

pub returns-in_ok-all-clause-probes : goal.returns-in_ok-all-clause-probes
returns-in_ok-all-clause-probes c =
    let f = map (asked (A.SomeRow c.args.var c.args.table) (condition c.args.cond.now)) in
    let inner = same_probes c.args.pool.now c.own_probe.new.pool c.in_ok-own.ensures.nodes c.args.inner c.requires.kept in
    rw c.if-up.true (joined_probes c.own_probe.new.pool c.ask_all.new.pool c.in_ok-asked.ensures.nodes c.in_ok-own.own c.in_ok-asked.asked
    c.in_ok-all.all _ _ c.in_ok-all.ensures c.in_ok-own.ensures.kept c.in_ok-own.ensures.probes
    (c.in_ok-asked.ensures.probes ∙ ap f inner))
