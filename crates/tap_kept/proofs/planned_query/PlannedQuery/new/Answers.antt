use Rattle.std.proofs.Common.{◌≡◌, sym, subst, rules, w64, to_z, of_z}
use Rattle.tap_model.specs.Queries.{start_of}
use Rattle.tap_model.proofs.SoundLaws.{start-moment}
use Rattle.tap_kept.proofs.planned_query.PlannedQuery.new.Goals as goal
use Rattle.tap_base.specs.Numbers.{IsMoment}

pub make_plan-requires-clause-start : goal.make_plan-requires-clause-start
make_plan-requires-clause-start c =
    let is : to_z w64 (of_z w64 c.start_of-start.result) ≡ start_of c.args.row = search rules in
    subst IsMoment (sym is) (start-moment c.args.row c.requires.arrival)
