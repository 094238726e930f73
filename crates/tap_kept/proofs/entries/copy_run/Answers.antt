use Rattle.std.proofs.Common.{◌∙◌, ap, ◌++◌}
use Rattle.std.specs.Prelude.{option_to_list, slice_get, take}
use Rattle.tap_model.specs.Replies.{entries_in_run}
use Rattle.tap_kept.proofs.PlanLaws.{take-next}
use Rattle.tap_kept.proofs.RunLaws.{run-append}
use Rattle.tap_kept.proofs.entries.copy_run.Goals as goal

pub loop-place-preserved : goal.loop-place-preserved
loop-place-preserved c =
    c.in_ok-push_of_run.ensures
    ∙ ap (λ l. l ++ entries_in_run c.args.run (option_to_list (slice_get c.args.entries.now c.loop-place.place))) c.loop-place.invariant
    ∙ run-append c.args.run (take c.loop-place.place c.args.entries.now) (option_to_list (slice_get c.args.entries.now c.loop-place.place))
    ∙ ap (entries_in_run c.args.run) (take-next c.loop-place.place c.args.entries.now)
