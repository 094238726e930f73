use Rattle.std.proofs.Common.{ap, subst}
use Rattle.keeper_file.specs.Cases.{Tells, HasVersion, MayLeave, path_of}
use Rattle.file_session.proofs.CloseLaws.{at_first}
use Rattle.file_session.proofs.files.run_over.Goals as goal

pub returns-clause-ends_over : goal.returns-clause-ends_over
returns-clause-ends_over g c t honest told =
    let files = g.O.Opener.files in
    let now = c.hold-status.new.keeper.inner in
    subst (λ inner. g.C.StoreProgram.ends_over c.args.words.now c.hold-status.result (g.I.Peer.left c.args.source.now)
    (g.I.Peer.left c.hold-status.new.source)
    (g.K.Sink.out c.args.sink.now) (g.K.Sink.out c.hold-status.new.sink) (g.I.Peer.was_asked c.args.source.now)
    (g.I.Peer.was_asked c.hold-status.new.source)
    t (HasVersion files g.A.Store inner) (HasVersion files g.A.Store now) (Tells files g.A.Store now) (MayLeave files g.A.Store now))
    c.new-keeper.ensures.unopened (c.hold-status.ensures.ends_over t honest (c.new-keeper.ensures.told c.requires.clean t told))

pub returns-clause-placed : goal.returns-clause-placed
returns-clause-placed g c = at_first _ _ _ _ (ap path_of c.new-keeper.ensures.unopened) c.hold-status.ensures.placed
