use Rattle.std.proofs.Common.{subst}
use Rattle.std.proofs.lemmas.Result.{IfOk-weaker, IfErr-weaker}
use Rattle.sqlite_trees.proofs.Doubt.{no_doubt}
use Rattle.sqlite.specs.Closing.{IsCopied}
use Rattle.sqlite.specs.Files.{over_files, IsClosed, FailsToClose}
use Rattle.keeper_file.proofs.SameLemmas.{settled_idle}
use Rattle.keeper_file.proofs.CloseLemmas.{whole_then, alone_then, was_clean}
use Rattle.keeper_file.proofs.closing.closed.Goals as goal

pub returns-clause-settled : goal.returns-clause-settled
returns-clause-settled g c =
    settled_idle over_files
    c.into_connection-connection.result c.args.keeper.connection c.into_connection-connection.ensures c.args.keeper.idle
    c.is_autocommit-settled.result c.is_autocommit-settled.ensures.value c.is_autocommit-settled.ensures.settled

pub returns-clause-copied : goal.returns-clause-copied
returns-clause-copied g c = IfOk-weaker c.close_files.result _ _ (λ files copied clean.
    subst (λ h. IsCopied h files) c.into_connection-connection.ensures (copied clean)) c.close_files.ensures.copied

pub returns-clause-whole : goal.returns-clause-whole
returns-clause-whole g c = IfOk-weaker c.close_files.result _ _ (λ files copied clean t told.
    whole_then c.args.keeper.connection (returns-clause-settled g c) c.args.keeper.attached t told files (copied clean))
    (returns-clause-copied g c)

pub returns-clause-honest : goal.returns-clause-honest
returns-clause-honest g c =
    IfOk-weaker c.close_files.result _ _ (λ files copied clean. (copied clean).was_clean) (returns-clause-copied g c)

pub returns-clause-exact : goal.returns-clause-exact
returns-clause-exact g c = IfErr-weaker c.close_files.result _ _ (λ left failed clean t told.
    let shut = subst (λ h. IsClosed h left.1) c.into_connection-connection.ensures failed.0 in
    alone_then c.args.keeper.connection (returns-clause-settled g c) c.args.keeper.attached t told left.1 g.met.D.Disk.seen_may_stay shut)
    c.close_files.ensures.err

pub returns-clause-honest_left : goal.returns-clause-honest_left
returns-clause-honest_left g c = IfErr-weaker c.close_files.result _ _ (λ left failed clean.
    let shut = subst (λ h. IsClosed h left.1) c.into_connection-connection.ensures failed.0 in
    was_clean _ _ shut.quiet.clean clean) c.close_files.ensures.err

pub returns-clause-fails : goal.returns-clause-fails
returns-clause-fails g c = IfErr-weaker c.close_files.result _ _ (λ left failed clean.
    subst (λ h. FailsToClose h left.1 left.0) c.into_connection-connection.ensures (failed.1 (no_doubt _ clean))) c.close_files.ensures.err
