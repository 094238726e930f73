use Rattle.std.proofs.Common.{ap, ◌∙◌, inl, subst, IfErr}
use Rattle.std.proofs.lemmas.Result.{IfOk-weaker}
use Rattle.sqlite.specs.Held.{state}
use Rattle.keeper_sql.specs.Schema.{select_meta}
use Rattle.keeper_sql.specs.RowsAsValues.{version_kinds, version_shown}
use Rattle.keeper_sql.proofs.AnySchema.{meta_asks}
use Rattle.keeper_sql.proofs.ShownRows.{meta_shown}
use Rattle.keeper_sql.proofs.QueryLemmas.{query_undone, unchanged_undone, shown_rests, always_ok, always_err, version_as_shown}
use Rattle.keeper_sql.specs.Failing.{FailsToRead, FailsToTakeRows}
use Rattle.keeper_sql.proofs.TakingLemmas.{shown_fails}
use Rattle.keeper_sql.proofs.version.read_version.Goals as goal

pub returns-in-Err-clause-err : goal.returns-in-Err-clause-err
returns-in-Err-clause-err g c clean has = query_undone (state g.S.Store c.args.tx.now.conn.now)
    (state g.S.Store c.query_all.new.self.conn.now) select_meta _ _ (c.in-Err.ensures.err clean)

pub returns-in-Ok-clause-same : goal.returns-in-Ok-clause-same
returns-in-Ok-clause-same g c clean =
    always_ok c.version_of.result (shown_rests select_meta (state g.S.Store c.args.tx.now.conn.now)
    (state g.S.Store c.query_all.new.self.conn.now) _ meta_asks (c.in-Ok.ensures.ok clean))

pub returns-in-Ok-clause-read : goal.returns-in-Ok-clause-read
returns-in-Ok-clause-read g c clean has =
    let old = state g.S.Store c.args.tx.now.conn.now in
    let new = state g.S.Store c.query_all.new.self.conn.now in
    IfOk-weaker c.version_of.result _ _
    (λ version is keyed. is ∙ ap version_shown (c.as_slice.ensures.value ∙ meta_shown old new _ has keyed (c.in-Ok.ensures.ok clean))
    ∙ version_as_shown (old.now.trees 0)) c.version_of.ensures.ok

pub returns-in-Ok-clause-err : goal.returns-in-Ok-clause-err
returns-in-Ok-clause-err g c clean has =
    let old = state g.S.Store c.args.tx.now.conn.now in
    let new = state g.S.Store c.query_all.new.self.conn.now in
    always_err c.version_of.result (unchanged_undone old new (shown_rests select_meta old new _ meta_asks (c.in-Ok.ensures.ok clean)))

pub returns-in-Err-clause-fails : goal.returns-in-Err-clause-fails
returns-in-Err-clause-fails g c clean inside =
    let by : FailsToRead select_meta version_kinds (state g.S.Store c.args.tx.now.conn.now) (state g.S.Store c.query_all.new.self.conn.now)
    c.in-Err.error = inl (c.in-Err.ensures.err clean) in
    by

pub returns-in-Ok-clause-fails : goal.returns-in-Ok-clause-fails
returns-in-Ok-clause-fails g c clean inside =
    let old = state g.S.Store c.args.tx.now.conn.now in
    let new = state g.S.Store c.query_all.new.self.conn.now in
    shown_fails select_meta version_kinds old new c.in-Ok.shown.items c.version_of.result (c.in-Ok.ensures.ok clean)
    (subst (λ rows. IfErr c.version_of.result (FailsToTakeRows version_kinds rows)) c.as_slice.ensures.value c.version_of.ensures.fails)
