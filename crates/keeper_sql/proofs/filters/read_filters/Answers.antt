use Rattle.std.proofs.Common.{ap, ◌∙◌}
use Rattle.std.proofs.lemmas.Result.{IfOk-weaker}
use Rattle.sqlite.specs.Held.{state}
use Rattle.keeper_sql.specs.Schema.{select_filters}
use Rattle.keeper_sql.specs.RowsAsValues.{show_filter, filter_kinds, filter_shown}
use Rattle.std.proofs.Common.{inl, map}
use Rattle.keeper_sql.proofs.AnySchema.{filters_asks}
use Rattle.keeper_sql.proofs.ShownRows.{filters_shown}
use Rattle.keeper_sql.proofs.QueryLemmas.{query_undone, unchanged_undone, shown_rests, always_ok, always_err, map_twice}
use Rattle.keeper_sql.specs.Failing.{FailsToRead}
use Rattle.keeper_sql.proofs.TakingLemmas.{shown_fails}
use Rattle.keeper_sql.proofs.filters.read_filters.Goals as goal

pub returns-in-Err-clause-err : goal.returns-in-Err-clause-err
returns-in-Err-clause-err g c clean has = query_undone (state g.S.Store c.args.tx.now.conn.now)
    (state g.S.Store c.query_all.new.self.conn.now) select_filters _ _ (c.in-Err.ensures.err clean)

pub returns-in-Ok-clause-same : goal.returns-in-Ok-clause-same
returns-in-Ok-clause-same g c clean =
    always_ok c.read_rows.result (shown_rests select_filters (state g.S.Store c.args.tx.now.conn.now)
    (state g.S.Store c.query_all.new.self.conn.now) _ filters_asks (c.in-Ok.ensures.ok clean))

pub returns-in-Ok-clause-read : goal.returns-in-Ok-clause-read
returns-in-Ok-clause-read g c clean has =
    let old = state g.S.Store c.args.tx.now.conn.now in
    let new = state g.S.Store c.query_all.new.self.conn.now in
    IfOk-weaker c.read_rows.result _ _
    (λ rows is keyed. is ∙ ap (map filter_shown) (filters_shown old new _ has keyed (c.in-Ok.ensures.ok clean))
    ∙ map_twice filter_shown show_filter (old.now.trees 6)) c.read_rows.ensures.ok

pub returns-in-Ok-clause-err : goal.returns-in-Ok-clause-err
returns-in-Ok-clause-err g c clean has =
    let old = state g.S.Store c.args.tx.now.conn.now in
    let new = state g.S.Store c.query_all.new.self.conn.now in
    always_err c.read_rows.result (unchanged_undone old new (shown_rests select_filters old new _ filters_asks (c.in-Ok.ensures.ok clean)))

pub returns-in-Err-clause-fails : goal.returns-in-Err-clause-fails
returns-in-Err-clause-fails g c clean inside =
    let by : FailsToRead select_filters filter_kinds (state g.S.Store c.args.tx.now.conn.now)
    (state g.S.Store c.query_all.new.self.conn.now) c.in-Err.error = inl (c.in-Err.ensures.err clean) in
    by

pub returns-in-Ok-clause-fails : goal.returns-in-Ok-clause-fails
returns-in-Ok-clause-fails g c clean inside =
    let old = state g.S.Store c.args.tx.now.conn.now in
    let new = state g.S.Store c.query_all.new.self.conn.now in
    shown_fails select_filters filter_kinds old new c.in-Ok.shown.items c.read_rows.result (c.in-Ok.ensures.ok clean)
    c.read_rows.ensures.fails
