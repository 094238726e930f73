use Rattle.std.proofs.Common.{rules, ◌≡◌, [], ◌∷◌, ◌++◌, None, Some}
use Rattle.access_plan.specs.Accesses.{is_other, access_by}
use Rattle.access_plan.specs.Views.{access_at}
use Rattle.access_plan.proofs.InnerLaws.{none_added, one_added}
use Rattle.access_plan.proofs.inners.add_access.Goals as goal

pub returns-in-None : goal.returns-in-None
returns-in-None c =
    let e : None ≡ access_by (is_other c.args.var) c.args.var c.args.table c.args.guard.now = search rules in
    none_added (is_other c.args.var) c.args.var c.args.table c.args.into.now c.args.guard.now e

pub returns-in_ok-push-in-Some : goal.returns-in_ok-push-in-Some
returns-in_ok-push-in-Some c =
    let e : Some (access_at c.in-Some.access) ≡ access_by (is_other c.args.var) c.args.var c.args.table c.args.guard.now = search rules in
    let n : c.push.new.self ≡ c.args.into.now ++ access_at c.in-Some.access ∷ [] = search rules in
    one_added (is_other c.args.var) c.args.var c.args.table c.args.into.now _ _ c.args.guard.now e n
