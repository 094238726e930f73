use Rattle.std.proofs.Common.{◌≡◌, rules, [], ◌∷◌, ◌++◌, map}
use Rattle.tql_core.specs.Condition.{condition}
use Rattle.time_marks.specs.Marks.{copy, arrival_term, step_of, mark_if, marks, below}
use Rattle.time_marks.proofs.Paths.{exists_added}
use Rattle.time_marks.proofs.rising_marks.+add_marks.Goals as goal

pub returns-in_ok-add_marks-in-Exists : goal.returns-in_ok-add_marks-in-Exists
returns-in_ok-add_marks-in-Exists t c =
    let x = condition c.in-Exists.x.value in
    let longer = c.in_ok-steps-in-Exists.steps in
    let l : longer ≡ c.args.path.now ++ step_of c.in-Exists.var c.in-Exists.table x ∷ [] = search rules in
    let m : c.add_mark_if-in-Exists.new.out
    ≡ c.args.out.now ++ map (below longer) (mark_if c.args.up (arrival_term (copy c.in-Exists.var))) = search rules in
    let n : c.add_marks-in-Exists.new.out ≡ c.add_mark_if-in-Exists.new.out ++ map (below longer) (marks x c.args.up) = search rules in
    rw c.in-Exists.is (exists_added _ _ _ _ _ _ _ _ n m l)
