use Rattle.std.proofs.Common.{rules, arith, ◌≡◌, ◌≤◌, ◌+◌, ◌∷◌, drop, length}
use Rattle.std.proofs.Math.Seq.{drop-cons}
use Rattle.probe_eval.specs.Shortest.{count_each}
use Rattle.probe_eval.specs.Work.{rows_with}
use Rattle.probe_eval.proofs.ShortestLaws.{counted_more, from_zero, each_within}
use Rattle.probe_eval.proofs.lists.count_each.Goals as goal

pub loop-text-init : goal.loop-text-init
loop-text-init c =
    let room = c.docs-docs.ensures.places.room in
    let many = c.notes-notes.ensures.places.room in
    let few : length c.args.index.now.docs ≤ 4294967295 = omega (arith, room) in
    let more : length c.args.index.now.notes ≤ 4294967295 = omega (arith, many) in
    record {
      whole = from_zero (count_each c.args.field c.args.index.now c.args.texts.now);
      short = each_within c.args.field c.args.index.now few more c.args.texts.now;
    }

pub loop-text-preserved : goal.loop-text-preserved
loop-text-preserved c =
    let texts = c.args.texts.now in
    let i = c.loop-text.text-index in
    let first : drop i texts ≡ c.text-item.result ∷ drop (i + 1) texts = search (rules, drop-cons) in
    let n : c.count_with.result ≡ length (rows_with c.args.field c.args.index.now c.text-item.result) = search rules in
    record {
      whole = counted_more c.args.field c.args.index.now (drop i texts) (drop (i + 1) texts) c.text-item.result c.loop-text.sum
          c.count_with.result _ c.loop-text.invariant.whole first n;
      short = c.loop-text.invariant.short;
    }
