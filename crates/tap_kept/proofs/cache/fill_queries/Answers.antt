use Rattle.std.proofs.Common.{◌≡◌, ◌∙◌, ◌++◌, ap, sym, subst, length, map, List}
use Rattle.std.proofs.lemmas.List.{length-map}
use Rattle.tap_rows.specs.Kept.{Each, QueriesFrom}
use Rattle.tap_kept.specs.declared.cached_query.CachedQuery.{CachedQuery}
use Rattle.tap_kept.specs.Keeping.{cached_query, never_run}
use Rattle.tap_kept.specs.Starting.{rows_in, runs_alone, IsRowNumber}
use Rattle.tap_kept.proofs.DeliveryLaws.{never-run}
use Rattle.tap_kept.proofs.cache.fill_queries.Goals as goal

pub deliver-requires-clause-numbered : goal.deliver-requires-clause-numbered
deliver-requires-clause-numbered c =
    let pushed = c.in_ok-push_queries.ensures ∙ ap (λ (l : List CachedQuery). l ++ map never_run c.args.rows) c.requires.none in
    subst (λ rows. QueriesFrom 1 rows) (sym (ap rows_in pushed ∙ never-run c.args.rows)) c.requires.numbered

pub deliver-requires-clause-fresh : goal.deliver-requires-clause-fresh
deliver-requires-clause-fresh c =
    let pushed = c.in_ok-push_queries.ensures ∙ ap (λ (l : List CachedQuery). l ++ map never_run c.args.rows) c.requires.none in
    pushed ∙ ap (map never_run) (sym (ap rows_in pushed ∙ never-run c.args.rows))

pub deliver-requires-clause-owned : goal.deliver-requires-clause-owned
deliver-requires-clause-owned c =
    let pushed = c.in_ok-push_queries.ensures ∙ ap (λ (l : List CachedQuery). l ++ map never_run c.args.rows) c.requires.none in
    let len = ap length pushed ∙ length-map c.args.rows never_run in
    subst (λ n. Each (λ run. IsRowNumber run.query.0 n) c.args.runs.now) (sym len) c.requires.owned

pub returns : goal.returns
returns c =
    let pushed = c.in_ok-push_queries.ensures ∙ ap (λ (l : List CachedQuery). l ++ map never_run c.args.rows) c.requires.none in
    c.in_ok-deliver.ensures
    ∙ ap (map (cached_query (runs_alone c.args.runs.now c.args.picks.now))) (ap rows_in pushed ∙ never-run c.args.rows)
