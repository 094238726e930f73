use Rattle.std.proofs.Common.{rules, ◌≡◌, subst, Err, IfErr}
use Rattle.keeper_core.specs.declared.fault.CommitFault.TheVariants.{Memory}
use Rattle.sqlite.specs.Held.{state}
use Rattle.keeper_sql.specs.Failing.{FailsToKeep}
use Rattle.keeper_sql.proofs.KeepLemmas.{as_told, holds_as, told_after, left_after}
use Rattle.keeper_sql.proofs.sql_keeper.SqlKeeperKeeper.commit.Goals as goal

pub returns-in-Ok-clause-ok : goal.returns-in-Ok-clause-ok
returns-in-Ok-clause-ok g c clean s told extends =
    let old = state g.S.Store c.args.self.now.connection in
    let new = state g.S.Store c.keep-kept.new.conn in
    holds_as _ new _ c.requires.ready (told_after c.args.change.now old new s clean (as_told _ old s c.requires.ready told)
    extends.formed extends.fits (c.in-Ok.ensures.ok clean) c.in-Ok.ensures.read (c.in-Ok.ensures.exact clean))

pub returns-in-Ok-clause-crash : goal.returns-in-Ok-clause-crash
returns-in-Ok-clause-crash g c clean s told extends x left =
    let old = state g.S.Store c.args.self.now.connection in
    let new = state g.S.Store c.keep-kept.new.conn in
    let held = as_told _ old s c.requires.ready told in
    left_after c.args.change.now old new s held extends.formed extends.fits (c.keep-kept.ensures.crash clean held.is_open) x left

pub returns-in-Err-Failed-clause-crash : goal.returns-in-Err-Failed-clause-crash
returns-in-Err-Failed-clause-crash g c clean s told extends x left =
    let old = state g.S.Store c.args.self.now.connection in
    let new = state g.S.Store c.keep-kept.new.conn in
    let held = as_told _ old s c.requires.ready told in
    left_after c.args.change.now old new s held extends.formed extends.fits (c.keep-kept.ensures.crash clean held.is_open) x left

pub returns-in-Err-Memory-clause-fails : goal.returns-in-Err-Memory-clause-fails
returns-in-Err-Memory-clause-fails g c clean =
    let is : c.keep-kept.result ≡ Err Memory = search rules in
    subst (λ r. IfErr r (FailsToKeep g.S.Store c.args.self.now.connection c.keep-kept.new.conn c.args.change.now)) is
    (c.keep-kept.ensures.fails clean)
