use Rattle.std.proofs.Common.{ap, []}
use Rattle.std.specs.Prelude.{option_to_list, ◌∷◌}
use Rattle.tap_top.specs.Points.{EngineMatchesKeeper}
use Rattle.tap_top.proofs.Stories.{Answered-none}
use Rattle.tap_top.proofs.Steps.{PieceAnswered-got, PieceCut-got, Err-at}
use Rattle.tap_top.proofs.feed.take_one.Goals as goal

pub returns-in-None-clause-ok : goal.returns-in-None-clause-ok
returns-in-None-clause-ok g c = λ t honest at.
    PieceAnswered-got c.args.piece.now c.in-Ok.got.used c.in-Ok.got.command c.args.reader.now c.take.new.self t _ _ _ _ _ _
    c.in-Ok.ensures.script c.in-Ok.ensures.complete c.in-Ok.ensures.open [] (ap option_to_list c.in-None.is) (Answered-none t _ _
    (EngineMatchesKeeper c.args.engine.now (g.P.Keeper.tells c.args.keeper.now) (g.P.Keeper.may_leave c.args.keeper.now)) at.sound at)

pub returns-in-Ok-answer-clause-ok : goal.returns-in-Ok-answer-clause-ok
returns-in-Ok-answer-clause-ok g c = λ t honest at.
    PieceAnswered-got c.args.piece.now c.in-Ok.got.used c.in-Ok.got.command c.args.reader.now c.take.new.self t _ _ _ _ _ _
    c.in-Ok.ensures.script c.in-Ok.ensures.complete c.in-Ok.ensures.open (c.in-Some.command ∷ []) (ap option_to_list c.in-Some.is)
    (c.in-Ok-answer.ensures.ok t honest at)

pub returns-in-Err-answer-clause-cut : goal.returns-in-Err-answer-clause-cut
returns-in-Err-answer-clause-cut g c = record {
  put = λ is t honest at.
      PieceCut-got c.args.piece.now c.in-Ok.got.used c.in-Ok.got.command c.args.reader.now c.take.new.self _
      c.in-Ok.ensures.until c.in-Ok.ensures.complete c.in-Ok.ensures.open c.in-Some.command (ap option_to_list c.in-Some.is)
      (c.in-Ok.ensures.some c.requires.some) c.in-Ok.ensures.within (c.in-Err-answer.ensures.cut.put (Err-at _ _ is) t honest at);
  uncommitted = λ is t honest at.
      PieceCut-got c.args.piece.now c.in-Ok.got.used c.in-Ok.got.command c.args.reader.now c.take.new.self _
      c.in-Ok.ensures.until c.in-Ok.ensures.complete c.in-Ok.ensures.open c.in-Some.command (ap option_to_list c.in-Some.is)
      (c.in-Ok.ensures.some c.requires.some) c.in-Ok.ensures.within (c.in-Err-answer.ensures.cut.uncommitted (Err-at _ _ is) t honest at);
}
