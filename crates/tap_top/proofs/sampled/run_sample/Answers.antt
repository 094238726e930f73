use Rattle.std.proofs.Common.{subst, ap, Err}
use Rattle.keeper_core.specs.Keeping.{IsDurable}
use Rattle.sample_gen.specs.Samples.{sample_of}
use Rattle.tap_model.specs.Sound.{IsSound}
use Rattle.tap_top.specs.Codes.{is_all_ok}
use Rattle.tap_top.specs.Samples.{FirstPerformed, NextUncommitted}
use Rattle.tap_top.proofs.Samples.{FirstPerformed-none, Sampled-put, Sampled-cut, at-start}
use Rattle.tap_top.proofs.Ends.{memory-run, uncommitted-run, summed-run}
use Rattle.tap_top.proofs.sampled.run_sample.Goals as goal

pub returns-in_default-clause-ends : goal.returns-in_default-clause-ends
returns-in_default-clause-ends g c = λ t honest at. memory-run t c.args.n _ _ _ _
    (FirstPerformed-none t _ (sample_of c.args.n) _ (subst (λ s. IsSound t s) c.requires.session at.sound) at.holds)

pub returns-in-Err-Keeper-clause-ends : goal.returns-in-Err-Keeper-clause-ends
returns-in-Err-Keeper-clause-ends g c = λ t honest at.
    uncommitted-run t c.args.n _ _ _ _ (at-start (λ x cs. NextUncommitted t x cs (g.P.Keeper.may_leave c.perform_all.new.keeper)) _ _
    c.args.n c.requires.session c.in-Ok.ensures.value (c.in-Err-Keeper.ensures.keeper (ap Err c.in-Err-Keeper.field-0-is) t honest at))

pub returns-in-Err-Memory-clause-ends : goal.returns-in-Err-Memory-clause-ends
returns-in-Err-Memory-clause-ends g c = λ t honest at. memory-run t c.args.n _ _ _ _ (at-start (λ x cs.
    FirstPerformed t x cs (IsDurable (g.P.Keeper.tells c.perform_all.new.keeper) (g.P.Keeper.may_leave c.perform_all.new.keeper))) _ _
    c.args.n c.requires.session c.in-Ok.ensures.value (c.in-Err-Memory.ensures.memory (ap Err c.in-Err-Memory.field-0-is) t honest at))

pub returns-clause-ends : goal.returns-clause-ends
returns-clause-ends g c = λ t honest at.
    summed-run t c.args.n _ _ _ _ c.put_summary.result c.put_summary.ensures.statuses
    (λ low. Sampled-put t c.args.n c.args.engine.now.session c.in-Ok.commands c.perform_all.new.engine
    (g.P.Keeper.tells c.perform_all.new.keeper) (g.P.Keeper.may_leave c.perform_all.new.keeper) c.in-Ok-perform_all.tally _
    c.sum_up-summary.result c.len-count.result _ _ (is_all_ok c.put_summary.result)
    c.len-count.ensures c.requires.session c.in-Ok.ensures.value (c.in-Ok-perform_all.ensures.ok t honest at)
    c.sum_up-summary.ensures (c.put_summary.ensures.whole low) (c.put_summary.ensures.ok low))
    (λ is.
    Sampled-cut t c.args.n c.args.engine.now.session c.in-Ok.commands c.perform_all.new.engine (g.P.Keeper.tells c.perform_all.new.keeper)
    (g.P.Keeper.may_leave c.perform_all.new.keeper) c.in-Ok-perform_all.tally _ c.sum_up-summary.result c.len-count.result _ _
    c.len-count.ensures c.requires.session c.in-Ok.ensures.value (c.in-Ok-perform_all.ensures.ok t honest at)
    c.sum_up-summary.ensures (c.put_summary.ensures.cut is))
