use Rattle.std.proofs.Common.{rules, ◌∙◌, refl, Err, ap, sym, subst}
use Rattle.keeper_core.specs.Keeping.{IsDurable}
use Rattle.tap_top.specs.Points.{EngineMatchesKeeper}
use Rattle.tap_top.proofs.Steps.{Feeding-start, Feeding-more, Feeding-cut, Feeding-uncommitted, Feeding-short, KeeperFrame-start}
use Rattle.tap_top.proofs.Steps.{KeeperFrame-then}
use Rattle.tap_top.proofs.feed.feed.Goals as goal

pub loop-rest-init : goal.loop-rest-init
loop-rest-init g c = record {
  feeding = λ t honest at. Feeding-start c.args.piece.now c.args.reader.now t _ _
      (EngineMatchesKeeper c.args.engine.now (g.P.Keeper.tells c.args.keeper.now) (g.P.Keeper.may_leave c.args.keeper.now))
      c.requires.open at.sound at;
  ended = c.requires.open;
  can = c.requires.can;
  same = refl;
  keeper = KeeperFrame-start g.P.Keeper _;
  version = λ t honest at v has. has;
}

pub loop-rest-preserved : goal.loop-rest-preserved
loop-rest-preserved g c = record {
  feeding = λ t honest at. Feeding-more _ _ _ c.in-Ok.step.used _ _ _ t _ _ _ _ _ c.loop-rest.all_ok _ _ _
      c.in-Ok.step.ok (c.loop-rest.invariant.feeding t (c.in-Ok.ensures.leaves.keeper.before honest) at)
      c.rest_from-rest.ensures (λ t1 there. c.in-Ok.ensures.ok t1 honest there);
  ended = c.in-Ok.ensures.open;
  can = c.in-Ok.ensures.can;
  same = c.in-Ok.ensures.puts.calm (λ e. cc) ∙ c.loop-rest.invariant.same;
  keeper = KeeperFrame-then g.P.Keeper _ _ _
      c.loop-rest.invariant.can.attached.running c.loop-rest.invariant.keeper c.in-Ok.ensures.leaves.keeper;
  version = λ t honest at v has.
      let fed = (c.loop-rest.invariant.feeding t (c.in-Ok.ensures.leaves.keeper.before honest) at).answered_piece.answered in
      c.in-Ok.ensures.leaves.version fed.tables' honest fed.ends c.in-Ok.ensures.can.attached.running v
      (c.loop-rest.invariant.version t (c.in-Ok.ensures.leaves.keeper.before honest) at v has);
}

pub returns-in-Err-Put-clause-cut : goal.returns-in-Err-Put-clause-cut
returns-in-Err-Put-clause-cut g c = record {
  put = λ _ t honest at.
      Feeding-cut _ _ _ _ t _ _ _ _ _ _ _ _ (c.loop-rest.invariant.feeding t (c.in-Err-Put.ensures.leaves.keeper.before honest) at)
      (λ t1 there. c.in-Err-Put.ensures.cut.put (ap Err c.in-Err-Put.field-0-is) t1 honest there);
  uncommitted = search rules;
}

pub returns-in-Err-Keeper-clause-cut : goal.returns-in-Err-Keeper-clause-cut
returns-in-Err-Keeper-clause-cut g c = record {
  put = search rules;
  uncommitted = λ _ t honest at.
      Feeding-uncommitted _ _ _ _ t _ _ _ _ _ _ _ _
      (c.loop-rest.invariant.feeding t (c.in-Err-Keeper.ensures.leaves.keeper.before honest) at)
      (λ t1 there. c.in-Err-Keeper.ensures.cut.uncommitted (ap Err c.in-Err-Keeper.field-0-is) t1 honest there);
}

pub returns-in-Err-Memory-clause-memory : goal.returns-in-Err-Memory-clause-memory
returns-in-Err-Memory-clause-memory g c = λ _ t honest at.
    let same = c.in-Err-Memory.ensures.memory (ap Err c.in-Err-Memory.field-0-is) in
    Feeding-short _ _ _ _ t _ _ _ _ _ _ _ _
    (λ x there. subst (λ k. IsDurable (g.P.Keeper.tells k) (g.P.Keeper.may_leave k) x) (sym same.0) there.holds)
    same.1.1 (c.loop-rest.invariant.feeding t (c.in-Err-Memory.ensures.leaves.keeper.before honest) at)

pub returns-in-Err-Put-clause-leaves : goal.returns-in-Err-Put-clause-leaves
returns-in-Err-Put-clause-leaves g c = record {
  cause = search rules;
  stopped = search rules;
  keeper = KeeperFrame-then g.P.Keeper _ _ _
      c.loop-rest.invariant.can.attached.running c.loop-rest.invariant.keeper c.in-Err-Put.ensures.leaves.keeper;
  version = λ t honest at runs v has.
      let fed = (c.loop-rest.invariant.feeding t (c.in-Err-Put.ensures.leaves.keeper.before honest) at).answered_piece.answered in
      c.in-Err-Put.ensures.leaves.version fed.tables' honest fed.ends runs v
      (c.loop-rest.invariant.version t (c.in-Err-Put.ensures.leaves.keeper.before honest) at v has);
}

pub returns-in-Err-Keeper-clause-leaves : goal.returns-in-Err-Keeper-clause-leaves
returns-in-Err-Keeper-clause-leaves g c = record {
  cause = search rules;
  stopped = search rules;
  keeper = KeeperFrame-then g.P.Keeper _ _ _
      c.loop-rest.invariant.can.attached.running c.loop-rest.invariant.keeper c.in-Err-Keeper.ensures.leaves.keeper;
  version = λ t honest at runs v has.
      let fed =
      (c.loop-rest.invariant.feeding t (c.in-Err-Keeper.ensures.leaves.keeper.before honest) at).answered_piece.answered in
      c.in-Err-Keeper.ensures.leaves.version fed.tables' honest fed.ends runs v
      (c.loop-rest.invariant.version t (c.in-Err-Keeper.ensures.leaves.keeper.before honest) at v has);
}

pub returns-in-Err-Memory-clause-leaves : goal.returns-in-Err-Memory-clause-leaves
returns-in-Err-Memory-clause-leaves g c = record {
  cause = search rules;
  stopped = search rules;
  keeper = KeeperFrame-then g.P.Keeper _ _ _
      c.loop-rest.invariant.can.attached.running c.loop-rest.invariant.keeper c.in-Err-Memory.ensures.leaves.keeper;
  version = λ t honest at runs v has.
      let fed =
      (c.loop-rest.invariant.feeding t (c.in-Err-Memory.ensures.leaves.keeper.before honest) at).answered_piece.answered in
      c.in-Err-Memory.ensures.leaves.version fed.tables' honest fed.ends runs v
      (c.loop-rest.invariant.version t (c.in-Err-Memory.ensures.leaves.keeper.before honest) at v has);
}

pub returns-clause-leaves : goal.returns-clause-leaves
returns-clause-leaves g c = record {
  cause = search rules;
  stopped = search rules;
  keeper = c.loop-rest.invariant.keeper;
  version = λ t honest at runs v has. c.loop-rest.invariant.version t honest at v has;
}
