use Rattle.std.proofs.Common.{◌≡◌, ◌∙◌, ap, rules, to_z, of_z, w64}
use Rattle.std.specs.Prelude.{◌&&◌, int_le, int_lt}
use Rattle.time_marks.specs.declared.window.Window.{Window}
use Rattle.time_marks.specs.Windows.{is_within}
use Rattle.time_marks.proofs.WindowLaws.{met}
use Rattle.time_marks.proofs.window.Window.meet.Goals as goal

pub returns : goal.returns
returns c =
    let same : ◌≡◌ {A = Window} (record { low = to_z w64 (of_z w64 c.later.result); high = to_z w64 (of_z w64 c.earlier.result) })
    (record { low = c.later.result; high = c.earlier.result }) = search rules in
    λ x.
    let low : int_le c.later.result x ≡ (int_le c.args.self.low x && int_le c.args.other.low x) = search rules in
    let high : int_lt x c.earlier.result ≡ (int_lt x c.args.self.high && int_lt x c.args.other.high) = search rules in
    ap (λ w. is_within w x) same ∙ met c.args.self c.args.other c.later.result c.earlier.result x low high
