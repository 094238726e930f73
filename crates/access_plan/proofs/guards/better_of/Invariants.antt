use Rattle.std.proofs.Common.{◌≡◌, fold, drop}
use Rattle.access_plan.specs.Accesses.{better_by}
use Rattle.access_plan.specs.Views.{is_known, option_access}
use Rattle.access_plan.proofs.guards.better_of.Given as goal

-- the best of all is the best of those that are left and the best so far
abbrev pub invariant-loop-guard : goal.invariant-loop-guard
invariant-loop-guard l = fold (better_by (is_known l.known) l.var l.table) (option_access l.before) l.guards
    ≡ fold (better_by (is_known l.known) l.var l.table) (option_access l.best) (drop l.guard-index l.guards)
