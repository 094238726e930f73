use Rattle.std.proofs.Common.{rules, ◌≡◌, true, false, ◌&&◌}
use Rattle.access_plan.specs.Accesses.{is_other}
use Rattle.probe_eval.specs.Cuts.{is_own_time}
use Rattle.probe_eval.specs.Open.{base_known}
use Rattle.probe_eval.proofs.CutLaws.{first_time, second_time, no_time}
use Rattle.probe_eval.proofs.cuts.kept_by_times.Goals as goal

pub returns-then-first : goal.returns-then-first
returns-then-first c d =
    let h : (is_own_time c.args.var c.args.x && base_known (is_other c.args.var) c.args.y.base) ≡ true = search rules in
    first_time c.args.var c.args.env.now d c.args.op c.args.x c.args.y _ _ h c.value.ensures (c.kept_by.ensures d)

pub returns-then-second : goal.returns-then-second
returns-then-second c d =
    let h : (is_own_time c.args.var c.args.y && base_known (is_other c.args.var) c.args.x.base) ≡ true = search rules in
    second_time c.args.var c.args.env.now d c.args.op c.args.x c.args.y _ _ c.turned_op.result h c.value-then-second.ensures
    c.turned_op.ensures (c.kept_by-then-second.ensures d)

pub returns : goal.returns
returns c d =
    let h : (is_own_time c.args.var c.args.x && base_known (is_other c.args.var) c.args.y.base) ≡ false = search rules in
    let k : (is_own_time c.args.var c.args.y && base_known (is_other c.args.var) c.args.x.base) ≡ false = search rules in
    no_time c.args.var c.args.env.now d c.args.op c.args.x c.args.y h k
