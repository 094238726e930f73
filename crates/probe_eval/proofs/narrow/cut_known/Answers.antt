use Rattle.std.proofs.Common.{rules, ◌≡◌, true, false}
use Rattle.access_plan.specs.Accesses.{is_held_or}
use Rattle.probe_eval.specs.Open.{atom_known}
use Rattle.probe_eval.proofs.NarrowLaws.{cut_known, cut_unknown}
use Rattle.probe_eval.proofs.narrow.cut_known.Goals as goal

pub returns-then-atom_known : goal.returns-then-atom_known
returns-then-atom_known c =
    let k : atom_known (is_held_or c.args.env.now c.args.var) c.args.guard.now ≡ true = search rules in
    cut_known c.args.var c.args.env.now c.args.guard.now c.args.docs _ k c.cut_by.ensures

pub returns-else-atom_known : goal.returns-else-atom_known
returns-else-atom_known c =
    let k : atom_known (is_held_or c.args.env.now c.args.var) c.args.guard.now ≡ false = search rules in
    cut_unknown c.args.var c.args.env.now c.args.guard.now c.args.docs k
