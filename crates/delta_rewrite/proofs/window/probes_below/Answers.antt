use Rattle.std.proofs.Common.{◌≡◌, rules, pos, true}
use Rattle.std.specs.Prelude.{int_lt}
use Rattle.tql_core.specs.Condition.{condition}
use Rattle.time_marks.specs.Marks.{arrival_term, document_var, fixed_term, body}
use Rattle.time_marks.specs.Views.{probes_in}
use Rattle.delta_rewrite.specs.Delta.{probe_if}
use Rattle.delta_rewrite.proofs.Appended.{joined_kept, joined_probes}
use Rattle.delta_rewrite.proofs.window.probes_below.Goals as goal

pub returns-clause-kept : goal.returns-clause-kept
returns-clause-kept c =
    let both = joined_kept c.asking_if.new.pool c.delta.new.pool c.in_ok-rising.ensures.nodes c.in_ok-own.own c.in_ok-rising.rising
    c.in_ok-both.both c.in_ok-both.ensures c.in_ok-own.ensures.kept c.in_ok-rising.ensures.kept in
    joined_kept c.delta.new.pool c.asking_if-2.new.pool c.in_ok-first.ensures.nodes c.in_ok-both.both c.in_ok-first.first c.in_ok-all.all
    c.in_ok-all.ensures both c.in_ok-first.ensures.kept

pub returns-clause-probes : goal.returns-clause-probes
returns-clause-probes c =
    let x = condition c.args.cond.now in
    let start = fixed_term c.args.start in
    let at = arrival_term document_var in
    let own : probes_in c.asking_if.new.pool c.in_ok-own.own ≡ probe_if true at (body x at) = search rules in
    let first : probes_in c.asking_if-2.new.pool c.in_ok-first.first ≡ probe_if (int_lt (pos 0) c.args.start) start (body x start) =
    search rules in
    let kept = joined_kept c.asking_if.new.pool c.delta.new.pool c.in_ok-rising.ensures.nodes c.in_ok-own.own c.in_ok-rising.rising
    c.in_ok-both.both c.in_ok-both.ensures c.in_ok-own.ensures.kept c.in_ok-rising.ensures.kept in
    let both = joined_probes c.asking_if.new.pool c.delta.new.pool c.in_ok-rising.ensures.nodes c.in_ok-own.own c.in_ok-rising.rising
    c.in_ok-both.both _ _ c.in_ok-both.ensures c.in_ok-own.ensures.kept own c.in_ok-rising.ensures.probes in
    joined_probes c.delta.new.pool c.asking_if-2.new.pool c.in_ok-first.ensures.nodes c.in_ok-both.both c.in_ok-first.first c.in_ok-all.all
    _ _ c.in_ok-all.ensures kept both first
