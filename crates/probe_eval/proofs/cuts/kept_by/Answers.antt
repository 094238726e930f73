use Rattle.std.proofs.Common.{rules, ◌≡◌, ◌∙◌, sym, ap, Some, None, to_z, of_z}
use Rattle.std.specs.Int.{w128}
use Rattle.row_index.specs.Cuts.{rank}
use Rattle.probe_eval.specs.Cuts.{cut_limit}
use Rattle.probe_eval.proofs.CutLaws.{all_kept, none_kept, some_kept}
use Rattle.probe_eval.proofs.cuts.kept_by.Goals as goal

pub returns-in-None : goal.returns-in-None
returns-in-None c d =
    let e : cut_limit c.args.op ≡ None = search rules in
    all_kept c.args.op (Some (rank c.args.order d)) c.args.other e

pub returns-in-None-other : goal.returns-in-None-other
returns-in-None-other c d =
    let e : cut_limit c.args.op ≡ Some c.in-Some.limit = search rules in
    let o : c.args.other ≡ None = search rules in
    rw o (none_kept c.args.op c.in-Some.limit (Some (rank c.args.order d)) e)

pub returns-in-Some-other : goal.returns-in-Some-other
returns-in-Some-other c d =
    let e : cut_limit c.args.op ≡ Some c.in-Some.limit = search rules in
    let o : c.args.other ≡ Some c.in-Some-other.bound = search rules in
    let bound : to_z w128 (of_z w128 c.in-Some-other.bound) ≡ c.in-Some-other.bound = search rules in
    some_kept c.args.op c.in-Some.limit (rank c.args.order d) (to_z w128 (of_z w128 c.in-Some-other.bound)) c.args.other e
    (o ∙ ap Some (sym bound))
