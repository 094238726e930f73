use Rattle.std.proofs.Common.{rules, ◌≡◌, ◌∙◌, true, false, None, Some, sym, ap, arith}
use Rattle.std.specs.Option.{is_some}
use Rattle.wake_plan.specs.Firsts.{IsFirst}
use Rattle.time_marks.specs.NextWake.{least_mark}
use Rattle.wake_plan.proofs.ListLaws.{item_is}
use Rattle.wake_plan.proofs.LoopLaws.{all_over, found_least, found_bound, found_steps, next_each, next_hits, next_smaller, next_steps}
use Rattle.wake_plan.proofs.planner.first_delivery.Goals as goal

pub returns-then-is_some-clause-mark : goal.returns-then-is_some-clause-mark
returns-then-is_some-clause-mark g c =
    let f : IsFirst c.loop-place.turns.items (Some c.in-Some.place) = search rules in
    let q = item_is c.loop-place.turns.items c.in-Some.place.index f.stands.turn _
    c.index_mut.result.now f.stands.at c.index_mut.ensures.value in
    let s : is_some c.advance-mark.result ≡ true = search rules in
    found_least c.args.w c.loop-place.turns.items c.in-Some.place c.loop-place.invariant.turns f.stands f.least c.index_mut.result.now
    c.advance-mark.result q c.advance-mark.ensures.mark s
    ∙ ap least_mark c.loop-place.invariant.hits

pub returns-then-is_some-clause-within : goal.returns-then-is_some-clause-within
returns-then-is_some-clause-within g c =
    let f : IsFirst c.loop-place.turns.items (Some c.in-Some.place) = search rules in
    let q = item_is c.loop-place.turns.items c.in-Some.place.index f.stands.turn _
    c.index_mut.result.now f.stands.at c.index_mut.ensures.value in
    let s : is_some c.advance-mark.result ≡ true = search rules in
    found_bound c.args.w c.loop-place.turns.items c.in-Some.place c.loop-place.invariant.turns f.stands f.least c.index_mut.result.now
    c.advance-mark.result q c.advance-mark.ensures.mark c.requires.low c.requires.end s

pub returns-then-is_some-clause-steps : goal.returns-then-is_some-clause-steps
returns-then-is_some-clause-steps g c =
    let f : IsFirst c.loop-place.turns.items (Some c.in-Some.place) = search rules in
    let q = item_is c.loop-place.turns.items c.in-Some.place.index f.stands.turn _
    c.index_mut.result.now f.stands.at c.index_mut.ensures.value in
    found_steps c.args.w c.loop-place.turns.items c.in-Some.place c.loop-place.invariant.turns f.stands f.least c.index_mut.result.now
    c.advance-mark.result q c.advance-mark.ensures.mark
    c.args.turns.now.items c.requires.end c.loop-place.invariant.hits _ _ _ c.loop-place.invariant.steps c.advance-mark.ensures.steps

pub loop-place-smaller : goal.loop-place-smaller
loop-place-smaller g c =
    let f : IsFirst c.loop-place.turns.items (Some c.in-Some.place) = search rules in
    let q = item_is c.loop-place.turns.items c.in-Some.place.index f.stands.turn _
    c.index_mut.result.now f.stands.at c.index_mut.ensures.value in
    let s : is_some c.advance-mark.result ≡ false = search rules in
    next_smaller c.args.w c.loop-place.turns.items c.in-Some.place c.loop-place.invariant.turns f.stands f.least c.index_mut.result.now
    c.advance-mark.result q c.advance-mark.ensures.mark s c.advance-mark.new.self c.advance-mark.ensures.turn

pub loop-place-preserved : goal.loop-place-preserved
loop-place-preserved g c =
    let f : IsFirst c.loop-place.turns.items (Some c.in-Some.place) = search rules in
    let q = item_is c.loop-place.turns.items c.in-Some.place.index f.stands.turn _
    c.index_mut.result.now f.stands.at c.index_mut.ensures.value in
    let s : is_some c.advance-mark.result ≡ false = search rules in
    let i = c.loop-place.invariant.more in
    let m = c.advance-mark.ensures.more in
    record {
      turns = next_each c.args.w c.loop-place.turns.items c.in-Some.place c.loop-place.invariant.turns f.stands f.least
          c.index_mut.result.now c.advance-mark.result q c.advance-mark.ensures.mark s c.advance-mark.new.self c.advance-mark.ensures.turn;
      hits = next_hits c.args.w c.loop-place.turns.items c.in-Some.place c.loop-place.invariant.turns f.stands f.least
          c.index_mut.result.now c.advance-mark.result q c.advance-mark.ensures.mark s c.advance-mark.new.self c.advance-mark.ensures.turn
          ∙ c.loop-place.invariant.hits;
      steps = next_steps c.args.w c.loop-place.turns.items c.in-Some.place c.loop-place.invariant.turns f.stands f.least
          c.index_mut.result.now c.advance-mark.result q c.advance-mark.ensures.mark s c.advance-mark.new.self c.advance-mark.ensures.turn
          c.args.turns.now.items c.requires.end c.loop-place.invariant.hits _ _ _ c.loop-place.invariant.steps c.advance-mark.ensures.steps;
      more = omega (arith, i, m);
    }

pub returns-clause-mark : goal.returns-clause-mark
returns-clause-mark g c =
    let f : IsFirst c.loop-place.turns.items None = search rules in
    sym (ap least_mark (sym c.loop-place.invariant.hits ∙ all_over c.args.w c.loop-place.turns.items c.loop-place.invariant.turns f.least))
