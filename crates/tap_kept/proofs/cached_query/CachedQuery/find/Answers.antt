use Rattle.std.proofs.Common.{rules, ◌≡◌, ◌∙◌, ap, sym, subst, w64, to_z, of_z}
use Rattle.time_marks.specs.declared.window.Window.{Window}
use Rattle.time_marks.specs.Probes.{meaning_without, least}
use Rattle.time_marks.specs.Views.{ranged_probes}
use Rattle.probe_eval.specs.Nested.{was_seen}
use Rattle.tap_model.specs.Queries.{probes_of_query}
use Rattle.tap_kept.specs.Keeping.{AreNew}
use Rattle.tap_kept.proofs.NewLaws.{found-new}
use Rattle.tap_kept.proofs.FindLaws.{quiet-since, due-since, work-since}
use Rattle.tap_kept.proofs.cached_query.CachedQuery.find.Goals as goal

pub returns-clause-hits : goal.returns-clause-hits
returns-clause-hits g c =
    let kept = c.args.self.now in
    let low : to_z w64 (of_z w64 kept.covered) ≡ kept.covered = search rules in
    let high : to_z w64 (of_z w64 c.args.moment) ≡ c.args.moment = search rules in
    c.run_into.ensures.hits
    ∙ ap (λ X. meaning_without (was_seen kept.entries) X c.args.index.now
    (record { low = to_z w64 (of_z w64 kept.covered); high = to_z w64 (of_z w64 c.args.moment) })) c.plan.ensures.query
    ∙ ap (λ z. meaning_without (was_seen kept.entries) (probes_of_query kept.row)
    c.args.index.now (record { low = z; high = to_z w64 (of_z w64 c.args.moment) })) low
    ∙ ap (λ z. meaning_without (was_seen kept.entries) (probes_of_query kept.row)
    c.args.index.now (record { low = kept.covered; high = z })) high

pub returns-clause-new : goal.returns-clause-new
returns-clause-new g c =
    let w : Window = record { low = to_z w64 (of_z w64 c.args.self.now.covered); high = to_z w64 (of_z w64 c.args.moment) } in
    subst (AreNew c.args.self.now.entries) (sym c.run_into.ensures.hits) (found-new c.args.self.now.entries
    (λ d. least (ranged_probes c.plan.result.now.query) c.args.index.now d w) c.args.index.now.docs c.docs-docs.ensures.arrived)

pub returns-clause-steps : goal.returns-clause-steps
returns-clause-steps g c =
    let kept = c.args.self.now in
    let low : to_z w64 (of_z w64 kept.covered) ≡ kept.covered = search rules in
    let high : to_z w64 (of_z w64 c.args.moment) ≡ c.args.moment = search rules in
    work-since c.plan.result.now.query c.args.index.now kept (to_z w64 (of_z w64 kept.covered)) (to_z w64 (of_z w64 c.args.moment))
    c.args.moment _ _ c.plan.ensures.query low high c.run_into.ensures.steps

pub returns-clause-quiet : goal.returns-clause-quiet
returns-clause-quiet g c =
    let kept = c.args.self.now in
    let low : to_z w64 (of_z w64 kept.covered) ≡ kept.covered = search rules in
    let high : to_z w64 (of_z w64 c.args.moment) ≡ c.args.moment = search rules in
    quiet-since _ c.args.index.now kept (to_z w64 (of_z w64 kept.covered)) (to_z w64 (of_z w64 c.args.moment))
    c.args.moment c.plan.ensures.query low high c.run_into.ensures.quiet

pub returns-clause-due : goal.returns-clause-due
returns-clause-due g c =
    let kept = c.args.self.now in
    let low : to_z w64 (of_z w64 kept.covered) ≡ kept.covered = search rules in
    let high : to_z w64 (of_z w64 c.args.moment) ≡ c.args.moment = search rules in
    due-since _ c.args.index.now kept (to_z w64 (of_z w64 kept.covered)) (to_z w64 (of_z w64 c.args.moment)) c.args.moment _ _
    c.plan.ensures.query low high c.run_into.ensures.due
