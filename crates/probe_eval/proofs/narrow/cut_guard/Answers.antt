use Rattle.std.proofs.Common.{rules, ◌≡◌, false}
use Rattle.probe_eval.specs.Cuts.{is_half_guard}
use Rattle.probe_eval.proofs.NarrowLaws.{cut_half}
use Rattle.probe_eval.proofs.narrow.cut_guard.Goals as goal

pub returns-else-is_half_guard : goal.returns-else-is_half_guard
returns-else-is_half_guard c =
    let h : is_half_guard c.args.guard.now ≡ false = search rules in
    cut_half c.args.var c.args.env.now c.args.guard.now c.args.docs h
