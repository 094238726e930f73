use Rattle.std.proofs.Common.{rules, ◌≡◌, ◌<◌, Some, length}
use Rattle.std.specs.Prelude.{slice_get}
use Rattle.probe_eval.proofs.Steps.{item_at}
use Rattle.wake_plan.specs.Firsts.{nearer}
use Rattle.wake_plan.specs.Turns.{due_mark}
use Rattle.wake_plan.proofs.FirstLaws.{next_place, next_least}
use Rattle.wake_plan.proofs.firsts.first_place.Goals as goal

pub loop-index-preserved : goal.loop-index-preserved
loop-index-preserved c =
    let t = c.index-turns-index.result in
    let b : c.loop-index.index < length c.args.turns.now = search rules in
    let at : slice_get c.args.turns.now c.loop-index.index ≡ Some t =
    item_at c.args.turns.now c.loop-index.index t _ b c.index-turns-index.is in
    let e : c.nearer-first.result ≡ nearer c.loop-index.first c.loop-index.index (due_mark t.next) = search rules in
    record {
      stands = next_place c.args.turns.now c.loop-index.index t at c.loop-index.first c.nearer-first.result e c.loop-index.invariant.stands;
      least = next_least c.args.turns.now c.loop-index.index t at c.loop-index.first c.nearer-first.result e c.loop-index.invariant.least;
    }
