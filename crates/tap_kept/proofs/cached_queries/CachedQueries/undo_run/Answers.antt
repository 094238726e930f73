use Rattle.std.proofs.Common.{◌∙◌, sym, ap, subst, ◌<◌, length, w64}
use Rattle.std.specs.Prelude.{slice_set}
use Rattle.std.proofs.lemmas.Int.{to_z-of_z}
use Rattle.tap_kept.specs.Keeping.{before_run, without_run}
use Rattle.tap_kept.proofs.PlaceLaws.{without-set}
use Rattle.tap_kept.proofs.cached_queries.CachedQueries.undo_run.Goals as goal

pub returns : goal.returns
returns c =
    ap (slice_set c.self.inside.items.items c.args.place)
    (c.undo_run.ensures
    ∙ ap (λ s. before_run s c.args.runs c.args.entries c.index_mut.result.now) (to_z-of_z w64 c.args.covered c.ranges.covered)
    ∙ ap (before_run c.args.covered c.args.runs c.args.entries) c.index_mut.ensures.value)
    ∙ without-set c.args.place c.args.runs c.args.entries c.args.covered c.self.inside.items.items c.index_mut.result.now
    (subst (λ l. c.args.place < length l) (sym c.self.view_is) c.requires)
    ∙ ap (without_run c.args.place c.args.covered c.args.runs c.args.entries) c.self.view_is
