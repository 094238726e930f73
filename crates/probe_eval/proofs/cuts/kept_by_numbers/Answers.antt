use Rattle.std.proofs.Common.{rules, ◌≡◌, true, false, ◌&&◌}
use Rattle.access_plan.specs.Accesses.{is_other}
use Rattle.probe_eval.specs.Cuts.{is_own_number}
use Rattle.probe_eval.specs.Open.{number_known}
use Rattle.probe_eval.proofs.CutLaws.{first_number, second_number, no_number}
use Rattle.probe_eval.proofs.cuts.kept_by_numbers.Goals as goal

pub returns-then-first : goal.returns-then-first
returns-then-first c d =
    let h : (is_own_number c.args.var c.args.x && number_known (is_other c.args.var) c.args.y) ≡ true = search rules in
    first_number c.args.var c.args.env.now d c.args.op c.args.x c.args.y _ _ h c.number.ensures (c.kept_by.ensures d)

pub returns-then-second : goal.returns-then-second
returns-then-second c d =
    let h : (is_own_number c.args.var c.args.y && number_known (is_other c.args.var) c.args.x) ≡ true = search rules in
    second_number c.args.var c.args.env.now d c.args.op c.args.x c.args.y _ _ c.turned_op.result h c.number-then-second.ensures
    c.turned_op.ensures (c.kept_by-then-second.ensures d)

pub returns : goal.returns
returns c d =
    let h : (is_own_number c.args.var c.args.x && number_known (is_other c.args.var) c.args.y) ≡ false = search rules in
    let k : (is_own_number c.args.var c.args.y && number_known (is_other c.args.var) c.args.x) ≡ false = search rules in
    no_number c.args.var c.args.env.now d c.args.op c.args.x c.args.y h k
