use Rattle.std.proofs.Common.{◌∙◌, sym, ap, subst}
use Rattle.std.specs.Prelude.{slice_index_or}
use Rattle.tap_kept.specs.declared.cached_query.CachedQuery.{CachedQuery}
use Rattle.tap_kept.specs.Keeping.{AreNew}
use Rattle.tap_kept.proofs.cached_queries.CachedQueries.add_run.Goals as goal

pub add_run-requires-clause-new : goal.add_run-requires-clause-new
add_run-requires-clause-new c =
    let d = c.index_mut.result.now in
    subst (λ (k : CachedQuery). AreNew k.entries c.args.hits.now)
    (sym (c.index_mut.ensures.value ∙ ap (λ l. slice_index_or l c.args.place d) c.self.view_is)) (c.requires.new d)
