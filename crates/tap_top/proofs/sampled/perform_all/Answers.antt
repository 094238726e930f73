use Rattle.std.proofs.Common.{◌≡◌, ◌∙◌, arith, rules, Err, ap, sym, subst, length}
use Rattle.std.specs.Vec.Iter.{into_iter_items}
use Rattle.tap_top.specs.Points.{EngineMatchesKeeper}
use Rattle.tap_top.proofs.Steps.{KeeperFrame-start, KeeperFrame-then}
use Rattle.tap_top.proofs.Samples.{Performing, Performing-start, Performing-more, Performing-end, Performing-short, Performing-uncommitted}
use Rattle.tap_top.proofs.Samples.{none-left}
use Rattle.tap_top.proofs.sampled.perform_all.Goals as goal

pub loop-command-init : goal.loop-command-init
loop-command-init g c =
    let items : into_iter_items c.into_iter-command-iterator.result ≡ c.args.commands =
    c.into_iter-command-iterator.ensures.into_iter_gives.0 ∙ c.into_vec-command-items.ensures in
    record {
      len = search rules;
      performing = λ t honest at.
          subst (λ cs. Performing c.args.commands cs t c.args.engine.now.session (EngineMatchesKeeper c.args.engine.now
          (g.P.Keeper.tells c.args.keeper.now) (g.P.Keeper.may_leave c.args.keeper.now)) c.new-tally.result c.args.engine.now.session)
          (sym items)
          (Performing-start c.args.commands t c.args.engine.now.session
          (EngineMatchesKeeper c.args.engine.now (g.P.Keeper.tells c.args.keeper.now) (g.P.Keeper.may_leave c.args.keeper.now))
          c.new-tally.result at.sound at c.new-tally.ensures.refused c.new-tally.ensures.delivered);
      can = c.requires.can;
      keeper = KeeperFrame-start g.P.Keeper _;
      version = λ t honest at v has. has;
    }

pub loop-command-preserved : goal.loop-command-preserved
loop-command-preserved g c = record {
  len = (let a = ap length c.in-Some.ensures.steps.0 in let b = c.in-Some.ensures.steps.1 in let d = c.loop-command.invariant.len in
      omega arith);
  performing = λ t honest at. Performing-more c.args.commands _ c.in-Some.command _ t _ _ c.loop-command.tally _ (EngineMatchesKeeper
      c.perform_one.new.engine (g.P.Keeper.tells c.perform_one.new.keeper) (g.P.Keeper.may_leave c.perform_one.new.keeper))
      c.in-Ok.counted _ (c.loop-command.invariant.performing t (c.in-Ok.ensures.leaves.keeper.before honest) at)
      c.in-Some.ensures.steps.0 (λ x there. c.in-Ok.ensures.ok x honest there);
  can = c.in-Ok.ensures.can;
  keeper = KeeperFrame-then g.P.Keeper _ _ _
      c.loop-command.invariant.can.attached.running c.loop-command.invariant.keeper c.in-Ok.ensures.leaves.keeper;
  version = λ t honest at v has.
      let done = (c.loop-command.invariant.performing t (c.in-Ok.ensures.leaves.keeper.before honest) at).performed in
      c.in-Ok.ensures.leaves.version done.tables' honest done.ends.0 c.in-Ok.ensures.can.attached.running v
      (c.loop-command.invariant.version t (c.in-Ok.ensures.leaves.keeper.before honest) at v has);
}

pub returns-in-Err-Keeper-clause-keeper : goal.returns-in-Err-Keeper-clause-keeper
returns-in-Err-Keeper-clause-keeper g c = λ _ t honest at.
    Performing-uncommitted c.args.commands _ c.in-Some.command _ t _
    (EngineMatchesKeeper c.loop-command.engine (g.P.Keeper.tells c.loop-command.keeper) (g.P.Keeper.may_leave c.loop-command.keeper))
    c.loop-command.tally _ _ (c.loop-command.invariant.performing t (c.in-Err-Keeper.ensures.leaves.keeper.before honest) at)
    c.in-Some.ensures.steps.0 (λ x there. c.in-Err-Keeper.ensures.keeper (ap Err c.in-Err-Keeper.field-0-is) x honest there)

pub returns-in-Err-Memory-clause-memory : goal.returns-in-Err-Memory-clause-memory
returns-in-Err-Memory-clause-memory g c = λ _ t honest at.
    Performing-short c.args.commands _ c.in-Some.command _ t _
    (EngineMatchesKeeper c.loop-command.engine (g.P.Keeper.tells c.loop-command.keeper) (g.P.Keeper.may_leave c.loop-command.keeper))
    c.loop-command.tally _ _ (c.loop-command.invariant.performing t (c.in-Err-Memory.ensures.leaves.keeper.before honest) at)
    c.in-Some.ensures.steps.0 (λ x there. c.in-Err-Memory.ensures.memory (ap Err c.in-Err-Memory.field-0-is) x honest there)

pub returns-clause-ok : goal.returns-clause-ok
returns-clause-ok g c = λ t honest at.
    Performing-end c.args.commands _ t _
    (EngineMatchesKeeper c.loop-command.engine (g.P.Keeper.tells c.loop-command.keeper) (g.P.Keeper.may_leave c.loop-command.keeper))
    c.loop-command.tally _ (c.loop-command.invariant.performing t honest at)
    (none-left _ (sym c.loop-command.invariant.len ∙ c.in-None.ensures.steps.0))

pub returns-in-Err-Keeper-clause-leaves : goal.returns-in-Err-Keeper-clause-leaves
returns-in-Err-Keeper-clause-leaves g c = record {
  cause = search rules;
  stopped = search rules;
  keeper = KeeperFrame-then g.P.Keeper _ _ _
      c.loop-command.invariant.can.attached.running c.loop-command.invariant.keeper c.in-Err-Keeper.ensures.leaves.keeper;
  version = λ t honest at runs v has.
      let done = (c.loop-command.invariant.performing t (c.in-Err-Keeper.ensures.leaves.keeper.before honest) at).performed in
      c.in-Err-Keeper.ensures.leaves.version done.tables' honest done.ends.0 runs v
      (c.loop-command.invariant.version t (c.in-Err-Keeper.ensures.leaves.keeper.before honest) at v has);
}

pub returns-in-Err-Memory-clause-leaves : goal.returns-in-Err-Memory-clause-leaves
returns-in-Err-Memory-clause-leaves g c = record {
  cause = search rules;
  stopped = search rules;
  keeper = KeeperFrame-then g.P.Keeper _ _ _
      c.loop-command.invariant.can.attached.running c.loop-command.invariant.keeper c.in-Err-Memory.ensures.leaves.keeper;
  version = λ t honest at runs v has.
      let done = (c.loop-command.invariant.performing t (c.in-Err-Memory.ensures.leaves.keeper.before honest) at).performed in
      c.in-Err-Memory.ensures.leaves.version done.tables' honest done.ends.0 runs v
      (c.loop-command.invariant.version t (c.in-Err-Memory.ensures.leaves.keeper.before honest) at v has);
}

pub returns-clause-leaves : goal.returns-clause-leaves
returns-clause-leaves g c = record {
  cause = search rules;
  stopped = search rules;
  keeper = c.loop-command.invariant.keeper;
  version = λ t honest at runs v has. c.loop-command.invariant.version t honest at v has;
}
