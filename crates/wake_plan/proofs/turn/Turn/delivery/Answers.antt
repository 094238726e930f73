use Rattle.std.proofs.Common.{rules, ◌≡◌, ◌∙◌, Some, true, to_z, of_z, w64}
use Rattle.wake_plan.specs.Turns.{has_hit, due_hits}
use Rattle.wake_plan.proofs.TurnLaws.{found_mark}
use Rattle.wake_plan.proofs.turn.Turn.delivery.Goals as goal

pub returns-then-delivers-clause-mark : goal.returns-then-delivers-clause-mark
returns-then-delivers-clause-mark g c =
    let e : c.args.self.now.next ≡ Some c.in-Some.due = search rules in
    let h : has_hit (due_hits c.args.self.now (Some c.in-Some.due)) ≡ true = search rules in
    let r : Some (to_z w64 (of_z w64 c.in-Some.due.mark)) ≡ Some c.in-Some.due.mark = search rules in
    r ∙ found_mark c.args.self.now c.in-Some.due e h
