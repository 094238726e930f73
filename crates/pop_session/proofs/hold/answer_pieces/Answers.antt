use Rattle.std.proofs.Common.{rules, ◌∙◌, refl, arith, ◌≤◌, ◌<◌, length}
use Rattle.pop_session.specs.declared.hold.TheConstants.{SESSION_LIMIT}
use Rattle.tap_edges.specs.declared.pieces.TheConstants.{PIECE}
use Rattle.pop_session.proofs.PieceRuns.{Answering-asked, Answering-start, Answering-more, Answering-quit, Answering-read, Answering-end}
use Rattle.pop_session.proofs.PieceRuns.{Answering-long, Answering-cut, none-taken, many-taken, few-taken, begun-none, begun-open}
use Rattle.pop_session.proofs.PieceRuns.{begun-grows, quit-ends, end-ends, read-ends, put-ends, long-ends}
use Rattle.peer_edges.proofs.Asks.{unasked}
use Rattle.pop_session.proofs.hold.answer_pieces.Goals as goal

pub pieces-init : goal.pieces-init
pieces-init g c = record {
  answering = Answering-start _ _ _ _ (begun-none c.args.session.now c.requires.unread c.requires.first)
      (begun-open c.args.session.now c.requires.unread c.requires.first);
  prompt = unasked _ _;
  few = omega arith;
  ready = c.requires.ready;
  reads = refl;
  puts = refl;
}

pub pieces-preserved : goal.pieces-preserved
pieces-preserved g c =
    let within : c.in-Ok.n ≤ PIECE = grind (arith, c.in-Ok.ensures.bound) in record {
      answering = Answering-more _ _ _ _ c.in-Ok.n c.least-room.result c.ask.new.into _ _ _ _ _ _ _ _ _
          c.pieces.invariant.answering c.pieces-test.true c.in-Ok.ensures.bound.0 c.in-Ok.ensures.bytes.0 c.least-room.ensures
          c.in-Ok-false.ensures.ok c.in-Ok-false.ensures.next.next c.in-Ok-false.ensures.next.quits _
          c.in-Ok-false.field-0-test c.in-Ok-false.ensures.quit;
      prompt = Answering-asked _ _ _ _ _ _ _ _ _ _ _ _
          c.pieces.invariant.prompt c.pieces.invariant.answering c.pieces-test.true c.in-Ok.ensures.asked;
      few = few-taken _ c.in-Ok.n c.pieces-test.true within;
      ready = c.in-Ok-false.ensures.ready c.in-Ok-false.field-0-test;
      reads = c.in-Ok.ensures.cause.fine ∙ c.pieces.invariant.reads;
      puts = c.in-Ok-false.ensures.fails.cause.fine ∙ c.pieces.invariant.puts;
    }

pub returns-in-Err-clause-ends : goal.returns-in-Err-clause-ends
returns-in-Err-clause-ends g c =
    read-ends _ _ _ _ _ _ _ (Answering-read _ _ _ _ _ _ _ _ _ _ c.pieces.invariant.answering c.pieces-test.true c.in-Err.ensures.bytes)

pub returns-then-n-eq0-clause-ends : goal.returns-then-n-eq0-clause-ends
returns-then-n-eq0-clause-ends g c =
    let some : 0 < length c.ask.new.into = grind arith in
    end-ends _ _ _ _ _ _ _ (Answering-end _ _ _ _ _ _ _ _ _ _ c.pieces.invariant.answering c.pieces-test.true
    (none-taken _ _ c.in-Ok.n c.ask.new.into c.if-n-eq0.true c.in-Ok.ensures.bytes.0)) (c.in-Ok.ensures.bytes.1 c.if-n-eq0.true some)

pub returns-in-Ok-true-clause-ends : goal.returns-in-Ok-true-clause-ends
returns-in-Ok-true-clause-ends g c =
    let within : c.in-Ok.n ≤ PIECE = grind (arith, c.in-Ok.ensures.bound) in
    quit-ends _ _ _ _ _ _ _
    (Answering-quit _ _ _ _ c.in-Ok.n c.least-room.result c.ask.new.into _ _ _ _ _ _ _ _
    c.pieces.invariant.answering c.pieces-test.true c.in-Ok.ensures.bound.0 within c.in-Ok.ensures.bytes.0 c.least-room.ensures
    c.in-Ok-true.ensures.ok c.in-Ok-true.ensures.next.next (c.in-Ok-true.ensures.over c.in-Ok-true.field-0-test) _
    c.in-Ok-true.field-0-test c.in-Ok-true.ensures.quit)

pub returns-in-Err-take-clause-ends : goal.returns-in-Err-take-clause-ends
returns-in-Err-take-clause-ends g c =
    let within : c.in-Ok.n ≤ PIECE = grind (arith, c.in-Ok.ensures.bound) in
    put-ends _ _ _ _ _ _ _
    (Answering-cut _ _ _ _ c.in-Ok.n c.least-room.result c.ask.new.into _ _ _ _ _ _ _
    c.in-Err-take.field-0 (begun-grows c.args.session.now c.requires.unread c.requires.first c.replies_grow.ensures)
    c.pieces.invariant.answering c.pieces-test.true c.in-Ok.ensures.bound.0 within
    c.in-Ok.ensures.bytes.0 c.least-room.ensures c.in-Err-take.ensures.fails.err)

pub returns-clause-ends : goal.returns-clause-ends
returns-clause-ends g c =
    let many : SESSION_LIMIT < c.pieces.taken = (let e = c.pieces-test.false in omega arith) in
    long-ends _ _ _ _ _ _ _ (Answering-long _ _ _ _ _ _ _ _ _ c.pieces.invariant.answering many c.pieces.invariant.few)

pub returns-clause-causes : goal.returns-clause-causes
returns-clause-causes g c = record {
  read_cause = search rules;
  read_calm = search rules;
  put_cause = search rules;
  put_calm = search rules;
  many = λ _.
      let many : SESSION_LIMIT < c.pieces.taken = (let e = c.pieces-test.false in omega arith) in
      many-taken _ _ _ c.pieces.invariant.answering.taking many c.pieces.invariant.few;
}

pub returns-in-Err-clause-prompt : goal.returns-in-Err-clause-prompt
returns-in-Err-clause-prompt g c =
    Answering-asked _ _ _ _ _ _ _ _ _ _ _ _ c.pieces.invariant.prompt c.pieces.invariant.answering c.pieces-test.true c.in-Err.ensures.asked

pub returns-then-n-eq0-clause-prompt : goal.returns-then-n-eq0-clause-prompt
returns-then-n-eq0-clause-prompt g c =
    Answering-asked _ _ _ _ _ _ _ _ _ _ _ _ c.pieces.invariant.prompt c.pieces.invariant.answering c.pieces-test.true c.in-Ok.ensures.asked

pub returns-in-Ok-true-clause-prompt : goal.returns-in-Ok-true-clause-prompt
returns-in-Ok-true-clause-prompt g c =
    Answering-asked _ _ _ _ _ _ _ _ _ _ _ _ c.pieces.invariant.prompt c.pieces.invariant.answering c.pieces-test.true c.in-Ok.ensures.asked

pub returns-in-Err-take-clause-prompt : goal.returns-in-Err-take-clause-prompt
returns-in-Err-take-clause-prompt g c =
    Answering-asked _ _ _ _ _ _ _ _ _ _ _ _ c.pieces.invariant.prompt c.pieces.invariant.answering c.pieces-test.true c.in-Ok.ensures.asked
