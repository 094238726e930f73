use Rattle.std.proofs.Common.{◌≡◌, ◌∙◌, ap, rules, to_z, of_z, w64}
use Rattle.time_marks.specs.declared.window.Window.{Window}
use Rattle.time_marks.specs.Windows.{is_within, days_window}
use Rattle.time_marks.proofs.WindowLaws.{days-within}
use Rattle.time_marks.proofs.window.Window.to_days.Goals as goal

pub returns-clause-seconds : goal.returns-clause-seconds
returns-clause-seconds c =
    let same : ◌≡◌ {A = Window} (record { low = to_z w64 (of_z w64 c.day_end.result); high = to_z w64 (of_z w64 c.day_end-2.result) })
    (days_window c.args.self) = search rules in
    λ x. ap (λ w. is_within w x) same ∙ days-within c.args.self x
