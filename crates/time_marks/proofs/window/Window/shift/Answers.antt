use Rattle.std.proofs.Common.{◌≡◌, ◌∙◌, ap, rules, to_z, of_z, w64}
use Rattle.time_marks.specs.declared.window.Window.{Window}
use Rattle.time_marks.specs.Windows.{is_within, moved}
use Rattle.time_marks.proofs.WindowLaws.{moved-within}
use Rattle.time_marks.proofs.window.Window.shift.Goals as goal

pub returns-clause-seconds : goal.returns-clause-seconds
returns-clause-seconds c =
    let same : ◌≡◌ {A = Window} (record { low = to_z w64 (of_z w64 c.moved_end.result); high = to_z w64 (of_z w64 c.moved_end-2.result) })
    (moved c.args.self c.args.by) = search rules in
    λ x. ap (λ w. is_within w x) same ∙ moved-within c.args.self c.args.by x
