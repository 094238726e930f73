use Rattle.std.proofs.Common.{◌∙◌, ap, ◌++◌}
use Rattle.std.specs.Prelude.{option_to_list, slice_get}
use Rattle.tap_kept.proofs.PlanLaws.{take-next}
use Rattle.tap_kept.proofs.entries.copy_entries.Goals as goal

pub loop-place-preserved : goal.loop-place-preserved
loop-place-preserved c = c.in_ok-push_at.ensures
    ∙ ap (λ l. l ++ option_to_list (slice_get c.args.entries.now c.loop-place.place)) c.loop-place.invariant
    ∙ take-next c.loop-place.place c.args.entries.now
