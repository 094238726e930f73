use Rattle.std.proofs.Common.{sym, subst}
use Rattle.time_marks.specs.Distinct.{HasSameMeaning}
use Rattle.time_marks.specs.Views.{probes_of}
use Rattle.time_marks.proofs.Repeats.{repeats_find_nothing}
use Rattle.incremental_rewrite.proofs.Kept.{solved_kept, solved_probes}
use Rattle.incremental_rewrite.proofs.ranges.incremental.Goals as goal

pub invariant_of-result : goal.invariant_of-result
invariant_of-result c = record {
  kept = solved_kept c.args.query.pool c.len-nodes.ensures.is_pool c.in_ok-parts.parts c.args.query.probes
      c.args.query.kept c.in_ok-parts.ensures;
}

pub returns-clause-distinct : goal.returns-clause-distinct
returns-clause-distinct c = solved_probes c.args.query.pool c.len-nodes.ensures.is_pool c.in_ok-parts.parts c.args.query.probes
    c.args.query.kept c.in_ok-parts.ensures

pub returns-clause-meaning : goal.returns-clause-meaning
returns-clause-meaning c =
    subst (λ X. HasSameMeaning X (probes_of c.args.query)) (sym (solved_probes c.args.query.pool c.len-nodes.ensures.is_pool
    c.in_ok-parts.parts c.args.query.probes c.args.query.kept c.in_ok-parts.ensures)) (repeats_find_nothing (probes_of c.args.query))
