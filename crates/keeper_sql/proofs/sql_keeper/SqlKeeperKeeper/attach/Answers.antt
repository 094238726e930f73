use Rattle.std.proofs.Common.{false, subst}
use Rattle.sqlite.specs.Held.{state}
use Rattle.keeper_sql.specs.Store.{TellsAs}
use Rattle.keeper_sql.proofs.AttachLemmas.{told_ours, held_told, left_still, read_told, read_version}
use Rattle.keeper_sql.proofs.sql_keeper.SqlKeeperKeeper.attach.Goals as goal

pub returns-in-Ok-clause-kept : goal.returns-in-Ok-clause-kept
returns-in-Ok-clause-kept g c clean s told running =
    let old = state g.S.Store c.args.self.now.connection in
    let new = state g.S.Store c.open_kept-opened.new.conn in
    let was : TellsAs false old s = subst (λ b. TellsAs b old s) c.requires.free told in
    let ours = told_ours old s was in
    held_told old new s c.in-Ok.tables clean c.in-Ok.ensures.live (c.in-Ok.ensures.given_alone clean ours) was
    (c.in-Ok.ensures.ok clean ours)

pub returns-in-Ok-clause-crash : goal.returns-in-Ok-clause-crash
returns-in-Ok-clause-crash g c clean s told x left =
    let old = state g.S.Store c.args.self.now.connection in
    let new = state g.S.Store c.open_kept-opened.new.conn in
    let was : TellsAs false old s = subst (λ b. TellsAs b old s) c.requires.free told in
    let held = c.in-Ok.ensures.ok clean (told_ours old s was) in
    left_still old new s was (c.open_kept-opened.ensures.crash clean held.0) x left

pub returns-in-Ok-clause-answered : goal.returns-in-Ok-clause-answered
returns-in-Ok-clause-answered g c clean t told =
    read_told (state g.S.Store c.open_kept-opened.new.conn) c.in-Ok.tables t (c.in-Ok.ensures.read clean) told

pub returns-in-Ok-clause-version : goal.returns-in-Ok-clause-version
returns-in-Ok-clause-version g c clean t told =
    read_version (state g.S.Store c.open_kept-opened.new.conn) c.in-Ok.tables t (c.in-Ok.ensures.read clean) told
