use Rattle.keeper_core.specs.Keeping.{IsDurable}
use Rattle.std.proofs.Common.{rules, ◌∙◌, arith, ap, sym, subst, refl, Err, ◌≤◌, ◌<◌, length}
use Rattle.tap_edges.specs.declared.pieces.TheConstants.{PIECE}
use Rattle.tap_top.specs.Codes.{is_all_ok}
use Rattle.tap_top.specs.Points.{EngineMatchesKeeper}
use Rattle.tap_top.proofs.Steps.{KeeperFrame-start, KeeperFrame-then}
use Rattle.tap_top.proofs.Runs.{Taking-start, Taking-more, Running-start, Running-more, Running-read, Running-cut, Running-uncommitted}
use Rattle.tap_top.proofs.Runs.{Running-short, Running-closed, Running-end-cut, Running-end-uncommitted, Running-end-short, Running-long}
use Rattle.tap_top.proofs.Runs.{none-taken, few-taken, OutOfMemory-same}
use Rattle.tap_top.proofs.Ends.{read-ends, put-ends, uncommitted-ends, memory-ends, long-ends, closed-ends}
use Rattle.peer_edges.proofs.Asks.{unasked}
use Rattle.tap_top.proofs.PromptRuns.{Running-asked}
use Rattle.tap_top.proofs.top.run.Goals as goal

pub pieces-init : goal.pieces-init
pieces-init g c = record {
  taking = Taking-start (g.S.Peer.left c.args.source.now);
  running = λ t honest at.
      rw c.new-reader.ensures (Running-start (g.S.Peer.left c.args.source.now) t c.args.engine.now.session (g.K.Sink.out c.args.sink.now)
      (EngineMatchesKeeper c.args.engine.now (g.P.Keeper.tells c.args.keeper.now) (g.P.Keeper.may_leave c.args.keeper.now))
      c.requires.session at.sound at);
  prompt = λ t honest at. unasked _ _;
  few = omega arith;
  ended = rw c.new-reader.ensures refl;
  can = c.requires.can;
  reads = refl;
  puts = refl;
  keeper = KeeperFrame-start g.P.Keeper _;
  version = λ t honest at v has. has;
}

pub pieces-preserved : goal.pieces-preserved
pieces-preserved g c = record {
  taking = Taking-more _ _ _ _ c.in-Ok.n c.ask.new.into c.pieces.invariant.taking c.in-Ok.ensures.bound.0 c.in-Ok.ensures.bytes.0;
  running = λ t honest at. Running-more _ _ _ _ c.in-Ok.n c.least-room.result c.ask.new.into _ _ t _ _ _ _ _ _ _ _
      c.in-Ok-feed.ok (c.pieces.invariant.running t (c.in-Ok-feed.ensures.leaves.keeper.before honest) at) c.pieces-test.true
      c.in-Ok.ensures.bound.0 c.in-Ok.ensures.bytes.0 c.least-room.ensures (λ t1 there. c.in-Ok-feed.ensures.ok t1 honest there);
  prompt = λ t honest at.
      Running-asked _ _ _ _ t _ _ _ _ _ _ _ _ (c.pieces.invariant.prompt t (c.in-Ok-feed.ensures.leaves.keeper.before honest) at)
      (c.pieces.invariant.running t (c.in-Ok-feed.ensures.leaves.keeper.before honest) at) c.pieces-test.true c.in-Ok.ensures.asked;
  few = few-taken _ c.in-Ok.n c.pieces-test.true (let within : c.in-Ok.n ≤ PIECE = grind (arith, c.in-Ok.ensures.bound) in within);
  ended = c.in-Ok-feed.ensures.open;
  can = c.in-Ok-feed.ensures.can;
  reads = c.in-Ok.ensures.cause.fine ∙ c.pieces.invariant.reads;
  puts = c.in-Ok-feed.ensures.puts.calm (λ e. cc) ∙ c.pieces.invariant.puts;
  keeper =
      KeeperFrame-then g.P.Keeper _ _ _ c.pieces.invariant.can.attached.running
      c.pieces.invariant.keeper c.in-Ok-feed.ensures.leaves.keeper;
  version = λ t honest at v has.
      let ran = (c.pieces.invariant.running t (c.in-Ok-feed.ensures.leaves.keeper.before honest) at).answered_piece.answered in
      c.in-Ok-feed.ensures.leaves.version ran.tables' honest ran.ends c.in-Ok-feed.ensures.can.attached.running v
      (c.pieces.invariant.version t (c.in-Ok-feed.ensures.leaves.keeper.before honest) at v has);
}

pub returns-in-Err-clause-ends : goal.returns-in-Err-clause-ends
returns-in-Err-clause-ends g c = λ t honest at.
    read-ends t _ _ _ _ _ _ (Running-read _ _ _ _ _ t _ _ _ _ _ _ (λ x there. there.holds) (c.pieces.invariant.running t honest at)
    c.pieces-test.true c.in-Err.ensures.bytes)

pub returns-then-n-eq0-clause-ends : goal.returns-then-n-eq0-clause-ends
returns-then-n-eq0-clause-ends g c = λ t honest at.
    let some : 0 < length c.ask.new.into = grind arith in
    closed-ends t _ _ _ _ _ _ c.close.result c.close.ensures.statuses
    (λ low. Running-closed _ _ _ _ _ t _ _ _ _ _ _ _ (is_all_ok c.close.result)
    (c.pieces.invariant.running t (c.close.ensures.leaves.keeper.before honest) at)
    c.pieces-test.true (none-taken _ _ c.in-Ok.n c.ask.new.into c.if-n-eq0.true c.in-Ok.ensures.bytes.0)
    (c.in-Ok.ensures.bytes.1 c.if-n-eq0.true some) (λ t1 there. c.close.ensures.whole low t1 honest there))
    (λ is. Running-end-cut _ _ _ _ _ t _ _ _ _ _ _ _ (c.pieces.invariant.running t (c.close.ensures.leaves.keeper.before honest) at)
    c.pieces-test.true (none-taken _ _ c.in-Ok.n c.ask.new.into c.if-n-eq0.true c.in-Ok.ensures.bytes.0)
    (c.in-Ok.ensures.bytes.1 c.if-n-eq0.true some) (λ t1 there. c.close.ensures.cut.put is t1 honest there))
    (λ is. Running-end-uncommitted _ _ _ _ _ t _ _ _ _ _ _ _
    (c.pieces.invariant.running t (c.close.ensures.leaves.keeper.before honest) at)
    c.pieces-test.true (none-taken _ _ c.in-Ok.n c.ask.new.into c.if-n-eq0.true c.in-Ok.ensures.bytes.0)
    (c.in-Ok.ensures.bytes.1 c.if-n-eq0.true some) (λ t1 there. c.close.ensures.cut.uncommitted is t1 honest there))
    (λ is.
    let same = c.close.ensures.memory is in
    OutOfMemory-same t _ _ _ _ _ _ same.1.1
    (Running-end-short _ _ _ _ _ t _ _ _ _ _ _
    (λ x there. subst (λ k. IsDurable (g.P.Keeper.tells k) (g.P.Keeper.may_leave k) x) (sym same.0) there.holds)
    (c.pieces.invariant.running t (c.close.ensures.leaves.keeper.before honest) at)
    c.pieces-test.true (none-taken _ _ c.in-Ok.n c.ask.new.into c.if-n-eq0.true c.in-Ok.ensures.bytes.0)))

pub returns-in-Err-Put-clause-ends : goal.returns-in-Err-Put-clause-ends
returns-in-Err-Put-clause-ends g c = λ t honest at.
    let within : c.in-Ok.n ≤ PIECE = grind (arith, c.in-Ok.ensures.bound) in
    put-ends t _ _ _ _ _ _
    (Running-cut _ _ _ _ c.in-Ok.n c.least-room.result c.ask.new.into _ t _ _ _ _ _ _ _
    (c.pieces.invariant.running t (c.in-Err-Put.ensures.leaves.keeper.before honest) at) c.pieces-test.true within
    c.in-Ok.ensures.bytes.0 c.least-room.ensures (λ t1 there.
    c.in-Err-Put.ensures.cut.put (ap Err c.in-Err-Put.field-0-is) t1 honest there))

pub returns-in-Err-Keeper-clause-ends : goal.returns-in-Err-Keeper-clause-ends
returns-in-Err-Keeper-clause-ends g c = λ t honest at.
    let within : c.in-Ok.n ≤ PIECE = grind (arith, c.in-Ok.ensures.bound) in
    uncommitted-ends t _ _ _ _ _ _
    (Running-uncommitted _ _ _ _ c.in-Ok.n c.least-room.result c.ask.new.into _ t _ _ _ _ _ _ _
    (c.pieces.invariant.running t (c.in-Err-Keeper.ensures.leaves.keeper.before honest) at) c.pieces-test.true within
    c.in-Ok.ensures.bytes.0 c.least-room.ensures (λ t1 there.
    c.in-Err-Keeper.ensures.cut.uncommitted (ap Err c.in-Err-Keeper.field-0-is) t1 honest there))

pub returns-in-Err-Memory-clause-ends : goal.returns-in-Err-Memory-clause-ends
returns-in-Err-Memory-clause-ends g c = λ t honest at.
    let within : c.in-Ok.n ≤ PIECE = grind (arith, c.in-Ok.ensures.bound) in
    memory-ends t _ _ _ _ _ _
    (Running-short _ _ _ _ c.in-Ok.n c.least-room.result c.ask.new.into _ t _ _ _ _ _ _ _
    (c.pieces.invariant.running t (c.in-Err-Memory.ensures.leaves.keeper.before honest) at) c.pieces-test.true within
    c.in-Ok.ensures.bytes.0 c.least-room.ensures (λ t1 there.
    c.in-Err-Memory.ensures.memory (ap Err c.in-Err-Memory.field-0-is) t1 honest there))

pub returns-clause-ends : goal.returns-clause-ends
returns-clause-ends g c = λ t honest at.
    long-ends t _ _ _ _ _ _
    (Running-long _ _ _ _ t _ _ _ _ _ _ (λ x there. there.holds) (c.pieces.invariant.running t honest at)
    (let e = c.pieces-test.false in omega arith) c.pieces.invariant.few)

pub returns-in-Err-clause-leaves : goal.returns-in-Err-clause-leaves
returns-in-Err-clause-leaves g c = record {
  cause = search rules;
  stopped = search rules;
  keeper = c.pieces.invariant.keeper;
  version = λ t honest at runs v has. c.pieces.invariant.version t honest at v has;
}

pub returns-then-n-eq0-clause-leaves : goal.returns-then-n-eq0-clause-leaves
returns-then-n-eq0-clause-leaves g c = record {
  cause = search rules;
  stopped = search rules;
  keeper = KeeperFrame-then g.P.Keeper _ _ _ c.pieces.invariant.can.attached.running
      c.pieces.invariant.keeper c.close.ensures.leaves.keeper;
  version = λ t honest at runs v has.
      let ran = (c.pieces.invariant.running t (c.close.ensures.leaves.keeper.before honest) at).answered_piece.answered in
      c.close.ensures.leaves.version ran.tables' honest ran.ends runs v
      (c.pieces.invariant.version t (c.close.ensures.leaves.keeper.before honest) at v has);
}

pub returns-in-Err-Put-clause-leaves : goal.returns-in-Err-Put-clause-leaves
returns-in-Err-Put-clause-leaves g c = record {
  cause = search rules;
  stopped = search rules;
  keeper =
      KeeperFrame-then g.P.Keeper _ _ _ c.pieces.invariant.can.attached.running
      c.pieces.invariant.keeper c.in-Err-Put.ensures.leaves.keeper;
  version = λ t honest at runs v has.
      let ran = (c.pieces.invariant.running t (c.in-Err-Put.ensures.leaves.keeper.before honest) at).answered_piece.answered in
      c.in-Err-Put.ensures.leaves.version ran.tables' honest ran.ends runs v
      (c.pieces.invariant.version t (c.in-Err-Put.ensures.leaves.keeper.before honest) at v has);
}

pub returns-in-Err-Keeper-clause-leaves : goal.returns-in-Err-Keeper-clause-leaves
returns-in-Err-Keeper-clause-leaves g c = record {
  cause = search rules;
  stopped = search rules;
  keeper = KeeperFrame-then g.P.Keeper _ _ _
      c.pieces.invariant.can.attached.running c.pieces.invariant.keeper c.in-Err-Keeper.ensures.leaves.keeper;
  version = λ t honest at runs v has.
      let ran = (c.pieces.invariant.running t (c.in-Err-Keeper.ensures.leaves.keeper.before honest) at).answered_piece.answered in
      c.in-Err-Keeper.ensures.leaves.version ran.tables' honest ran.ends runs v
      (c.pieces.invariant.version t (c.in-Err-Keeper.ensures.leaves.keeper.before honest) at v has);
}

pub returns-in-Err-Memory-clause-leaves : goal.returns-in-Err-Memory-clause-leaves
returns-in-Err-Memory-clause-leaves g c = record {
  cause = search rules;
  stopped = search rules;
  keeper = KeeperFrame-then g.P.Keeper _ _ _
      c.pieces.invariant.can.attached.running c.pieces.invariant.keeper c.in-Err-Memory.ensures.leaves.keeper;
  version = λ t honest at runs v has.
      let ran = (c.pieces.invariant.running t (c.in-Err-Memory.ensures.leaves.keeper.before honest) at).answered_piece.answered in
      c.in-Err-Memory.ensures.leaves.version ran.tables' honest ran.ends runs v
      (c.pieces.invariant.version t (c.in-Err-Memory.ensures.leaves.keeper.before honest) at v has);
}

pub returns-clause-leaves : goal.returns-clause-leaves
returns-clause-leaves g c = record {
  cause = search rules;
  stopped = search rules;
  keeper = c.pieces.invariant.keeper;
  version = λ t honest at runs v has. c.pieces.invariant.version t honest at v has;
}

pub returns-in-Err-clause-prompt : goal.returns-in-Err-clause-prompt
returns-in-Err-clause-prompt g c = λ t honest at.
    Running-asked _ _ _ _ t _ _ _ _ _ _ _ _ (c.pieces.invariant.prompt t honest at) (c.pieces.invariant.running t honest at)
    c.pieces-test.true c.in-Err.ensures.asked

pub returns-then-n-eq0-clause-prompt : goal.returns-then-n-eq0-clause-prompt
returns-then-n-eq0-clause-prompt g c = λ t honest at.
    Running-asked _ _ _ _ t _ _ _ _ _ _ _ _ (c.pieces.invariant.prompt t (c.close.ensures.leaves.keeper.before honest) at)
    (c.pieces.invariant.running t (c.close.ensures.leaves.keeper.before honest) at) c.pieces-test.true c.in-Ok.ensures.asked

pub returns-in-Err-Put-clause-prompt : goal.returns-in-Err-Put-clause-prompt
returns-in-Err-Put-clause-prompt g c = λ t honest at.
    Running-asked _ _ _ _ t _ _ _ _ _ _ _ _ (c.pieces.invariant.prompt t (c.in-Err-Put.ensures.leaves.keeper.before honest) at)
    (c.pieces.invariant.running t (c.in-Err-Put.ensures.leaves.keeper.before honest) at) c.pieces-test.true c.in-Ok.ensures.asked

pub returns-in-Err-Keeper-clause-prompt : goal.returns-in-Err-Keeper-clause-prompt
returns-in-Err-Keeper-clause-prompt g c = λ t honest at.
    Running-asked _ _ _ _ t _ _ _ _ _ _ _ _ (c.pieces.invariant.prompt t (c.in-Err-Keeper.ensures.leaves.keeper.before honest) at)
    (c.pieces.invariant.running t (c.in-Err-Keeper.ensures.leaves.keeper.before honest) at) c.pieces-test.true c.in-Ok.ensures.asked

pub returns-in-Err-Memory-clause-prompt : goal.returns-in-Err-Memory-clause-prompt
returns-in-Err-Memory-clause-prompt g c = λ t honest at.
    Running-asked _ _ _ _ t _ _ _ _ _ _ _ _ (c.pieces.invariant.prompt t (c.in-Err-Memory.ensures.leaves.keeper.before honest) at)
    (c.pieces.invariant.running t (c.in-Err-Memory.ensures.leaves.keeper.before honest) at) c.pieces-test.true c.in-Ok.ensures.asked

pub returns-clause-prompt : goal.returns-clause-prompt
returns-clause-prompt g c = c.pieces.invariant.prompt
