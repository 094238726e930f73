use Rattle.std.proofs.Common.{rules, ◌≡◌, ◌∙◌, ◌+◌, ◌≤◌, ap, subst, inl, length, Some, None, w64, to_z, of_z}
use Rattle.script_lang.specs.declared.refusal.LimitName.TheVariants.{Runs, Picks}
use Rattle.tap_model.specs.Limits.{run_limit, pick_limit}
use Rattle.tap_model.specs.Limits.{limit_refusal}
use Rattle.tap_kept.specs.Keeping.{hits_since}
use Rattle.tap_engine.specs.Standing.{query_refusal, run_refusal, RefusedBy}
use Rattle.tap_kept.specs.Costs.{NoProbeHasMark, AreAlone, query_rows_due, query_work, window_since}
use Rattle.script_lang.specs.declared.refusal.Refusal.TheVariants.{Memory}
use Rattle.tap_engine.proofs.UndoLaws.{for-memory}
use Rattle.tap_engine.proofs.CheckLaws.{run-left}
use Rattle.tap_engine.proofs.CostLaws.{quiet-named, due-named, most-since}
use Rattle.tap_model.specs.Sessions.{user_of}
use Rattle.tap_engine.proofs.ReadyLaws.{named-at, own-fronts, found-fronts}
use Rattle.tap_engine.proofs.engine.Engine.due_run.Goals as goal

pub find-requires-clause-covered : goal.find-requires-clause-covered
find-requires-clause-covered g c = (named-at (user_of c.args.self.now.session) c.args.name.now 1
    c.args.self.now.run_count c.args.self.now.queries c.in_ok-kept.kept.now c.requires.ready.queries c.in_ok-kept.ensures.ok).covered

pub find-requires-clause-fronts : goal.find-requires-clause-fronts
find-requires-clause-fronts g c =
    own-fronts c.args.self.now c.args.name.now c.in_ok-kept.kept.now c.requires.ready c.in_ok-kept.ensures.ok

pub returns-in_err-refuse_more-2-clause-refusal : goal.returns-in_err-refuse_more-2-clause-refusal
returns-in_err-refuse_more-2-clause-refusal g c =
    let e = c.args.self.now in
    let is-m : e.session.moment ≡ Some c.in-Some.moment = search rules in
    let look : query_refusal e.session e.queries c.args.name.now ≡ None = search rules in
    let runs : limit_refusal Runs run_limit e.run_count 1 ≡ None = search rules in
    let same : to_z w64 (of_z w64 c.in-Some.moment) ≡ c.in-Some.moment = search rules in
    let hits : c.find.new.hits.hits ≡ hits_since c.in_ok-kept.kept.now e.index c.in-Some.moment = c.find.ensures.hits
    ∙ ap (hits_since c.in_ok-kept.kept.now e.index) same in
    let refused : limit_refusal Picks pick_limit e.pick_count (length c.find.new.hits.hits) ≡ Some c.in_err-refuse_more-2.field-0.0 =
    search rules in
    let by : RefusedBy (run_refusal e c.args.name.now) c.in_err-refuse_more-2.field-0.0 =
    inl (run-left e c.args.name.now c.in_ok-kept.kept.now c.in-Some.moment c.find.new.hits.hits is-m look runs
    c.in_ok-kept.ensures.ok hits ∙ refused) in
    search (rules, by)

pub returns-clause-verdict : goal.returns-clause-verdict
returns-clause-verdict g c =
    let e = c.args.self.now in
    let is-m : e.session.moment ≡ Some c.in-Some.moment = search rules in
    let look : query_refusal e.session e.queries c.args.name.now ≡ None = search rules in
    let runs : limit_refusal Runs run_limit e.run_count 1 ≡ None = search rules in
    let same : to_z w64 (of_z w64 c.in-Some.moment) ≡ c.in-Some.moment = search rules in
    let hits : c.find.new.hits.hits ≡ hits_since c.in_ok-kept.kept.now e.index c.in-Some.moment = c.find.ensures.hits
    ∙ ap (hits_since c.in_ok-kept.kept.now e.index) same in
    let fine : limit_refusal Picks pick_limit e.pick_count (length c.find.new.hits.hits) ≡ None = search rules in
    run-left e c.args.name.now c.in_ok-kept.kept.now c.in-Some.moment c.find.new.hits.hits is-m look runs c.in_ok-kept.ensures.ok hits
    ∙ fine

pub returns-in_err-refuse_more-2-clause-quiet : goal.returns-in_err-refuse_more-2-clause-quiet
returns-in_err-refuse_more-2-clause-quiet g c =
    let e = c.args.self.now in
    let kept = c.in_ok-kept.kept.now in
    let is-m : e.session.moment ≡ Some c.in-Some.moment = search rules in
    let same : to_z w64 (of_z w64 c.in-Some.moment) ≡ c.in-Some.moment = search rules in
    quiet-named e c.args.name.now kept c.in-Some.moment is-m c.in_ok-kept.ensures.ok
    (subst (λ m. NoProbeHasMark e.index (window_since kept m) kept.row → c.find.new.steps ≡ c.args.steps.now) same c.find.ensures.quiet)

pub returns-in_err-refuse_more-2-clause-rows : goal.returns-in_err-refuse_more-2-clause-rows
returns-in_err-refuse_more-2-clause-rows g c =
    let e = c.args.self.now in
    let kept = c.in_ok-kept.kept.now in
    let is-m : e.session.moment ≡ Some c.in-Some.moment = search rules in
    let same : to_z w64 (of_z w64 c.in-Some.moment) ≡ c.in-Some.moment = search rules in
    due-named e c.args.name.now kept c.in-Some.moment c.find.new.steps c.args.steps.now is-m
    c.in_ok-kept.ensures.ok (subst (λ m. AreAlone kept.row
    → c.find.new.steps ≤ c.args.steps.now + query_rows_due e.index (window_since kept m) kept.row) same c.find.ensures.due)

pub returns-in_err-copy_hits-clause-quiet : goal.returns-in_err-copy_hits-clause-quiet
returns-in_err-copy_hits-clause-quiet g c =
    let e = c.args.self.now in
    let kept = c.in_ok-kept.kept.now in
    let is-m : e.session.moment ≡ Some c.in-Some.moment = search rules in
    let same : to_z w64 (of_z w64 c.in-Some.moment) ≡ c.in-Some.moment = search rules in
    quiet-named e c.args.name.now kept c.in-Some.moment is-m c.in_ok-kept.ensures.ok
    (subst (λ m. NoProbeHasMark e.index (window_since kept m) kept.row → c.find.new.steps ≡ c.args.steps.now) same c.find.ensures.quiet)

pub returns-in_err-copy_hits-clause-rows : goal.returns-in_err-copy_hits-clause-rows
returns-in_err-copy_hits-clause-rows g c =
    let e = c.args.self.now in
    let kept = c.in_ok-kept.kept.now in
    let is-m : e.session.moment ≡ Some c.in-Some.moment = search rules in
    let same : to_z w64 (of_z w64 c.in-Some.moment) ≡ c.in-Some.moment = search rules in
    due-named e c.args.name.now kept c.in-Some.moment c.find.new.steps c.args.steps.now is-m
    c.in_ok-kept.ensures.ok (subst (λ m. AreAlone kept.row
    → c.find.new.steps ≤ c.args.steps.now + query_rows_due e.index (window_since kept m) kept.row) same c.find.ensures.due)

pub returns-clause-quiet : goal.returns-clause-quiet
returns-clause-quiet g c =
    let e = c.args.self.now in
    let kept = c.in_ok-kept.kept.now in
    let is-m : e.session.moment ≡ Some c.in-Some.moment = search rules in
    let same : to_z w64 (of_z w64 c.in-Some.moment) ≡ c.in-Some.moment = search rules in
    quiet-named e c.args.name.now kept c.in-Some.moment is-m c.in_ok-kept.ensures.ok
    (subst (λ m. NoProbeHasMark e.index (window_since kept m) kept.row → c.find.new.steps ≡ c.args.steps.now) same c.find.ensures.quiet)

pub returns-clause-rows : goal.returns-clause-rows
returns-clause-rows g c =
    let e = c.args.self.now in
    let kept = c.in_ok-kept.kept.now in
    let is-m : e.session.moment ≡ Some c.in-Some.moment = search rules in
    let same : to_z w64 (of_z w64 c.in-Some.moment) ≡ c.in-Some.moment = search rules in
    due-named e c.args.name.now kept c.in-Some.moment c.find.new.steps c.args.steps.now is-m
    c.in_ok-kept.ensures.ok (subst (λ m. AreAlone kept.row
    → c.find.new.steps ≤ c.args.steps.now + query_rows_due e.index (window_since kept m) kept.row) same c.find.ensures.due)

pub returns-in_err-refuse_more-2-clause-most : goal.returns-in_err-refuse_more-2-clause-most
returns-in_err-refuse_more-2-clause-most g c =
    let e = c.args.self.now in
    let kept = c.in_ok-kept.kept.now in
    let is-m : e.session.moment ≡ Some c.in-Some.moment = search rules in
    let same : to_z w64 (of_z w64 c.in-Some.moment) ≡ c.in-Some.moment = search rules in
    most-since e c.args.name.now kept c.in-Some.moment c.find.new.steps c.args.steps.now is-m c.in_ok-kept.ensures.ok (subst (λ m.
    c.find.new.steps ≤ c.args.steps.now + query_work kept.entries e.index (window_since kept m) kept.row) same c.find.ensures.steps)

pub returns-in_err-copy_hits-clause-most : goal.returns-in_err-copy_hits-clause-most
returns-in_err-copy_hits-clause-most g c =
    let e = c.args.self.now in
    let kept = c.in_ok-kept.kept.now in
    let is-m : e.session.moment ≡ Some c.in-Some.moment = search rules in
    let same : to_z w64 (of_z w64 c.in-Some.moment) ≡ c.in-Some.moment = search rules in
    most-since e c.args.name.now kept c.in-Some.moment c.find.new.steps c.args.steps.now is-m c.in_ok-kept.ensures.ok (subst (λ m.
    c.find.new.steps ≤ c.args.steps.now + query_work kept.entries e.index (window_since kept m) kept.row) same c.find.ensures.steps)

pub returns-clause-most : goal.returns-clause-most
returns-clause-most g c =
    let e = c.args.self.now in
    let kept = c.in_ok-kept.kept.now in
    let is-m : e.session.moment ≡ Some c.in-Some.moment = search rules in
    let same : to_z w64 (of_z w64 c.in-Some.moment) ≡ c.in-Some.moment = search rules in
    most-since e c.args.name.now kept c.in-Some.moment c.find.new.steps c.args.steps.now is-m c.in_ok-kept.ensures.ok (subst (λ m.
    c.find.new.steps ≤ c.args.steps.now + query_work kept.entries e.index (window_since kept m) kept.row) same c.find.ensures.steps)

pub returns-in_err-copy_hits-clause-refusal : goal.returns-in_err-copy_hits-clause-refusal
returns-in_err-copy_hits-clause-refusal g c =
    let e = c.args.self.now in
    let is-m : e.session.moment ≡ Some c.in-Some.moment = search rules in
    let look : query_refusal e.session e.queries c.args.name.now ≡ None = search rules in
    let runs : limit_refusal Runs run_limit e.run_count 1 ≡ None = search rules in
    let same : to_z w64 (of_z w64 c.in-Some.moment) ≡ c.in-Some.moment = search rules in
    let hits : c.find.new.hits.hits ≡ hits_since c.in_ok-kept.kept.now e.index c.in-Some.moment = c.find.ensures.hits
    ∙ ap (hits_since c.in_ok-kept.kept.now e.index) same in
    let fine : limit_refusal Picks pick_limit e.pick_count (length c.find.new.hits.hits) ≡ None = search rules in
    let by : RefusedBy (run_refusal e c.args.name.now) Memory = for-memory _ (run-left e
    c.args.name.now c.in_ok-kept.kept.now c.in-Some.moment c.find.new.hits.hits is-m look runs c.in_ok-kept.ensures.ok hits ∙ fine) in
    search (rules, by)

pub returns-in_err-refuse_more-2-clause-still : goal.returns-in_err-refuse_more-2-clause-still
returns-in_err-refuse_more-2-clause-still g c = record {
  same = search rules;
  room = search rules;
  fronts = found-fronts c.args.self.now c.args.name.now c.in_ok-kept.kept.now c.find.new.hits.fronts c.requires.ready
      c.in_ok-kept.ensures.ok c.find.ensures.fronts;
}

pub returns-in_err-copy_hits-clause-still : goal.returns-in_err-copy_hits-clause-still
returns-in_err-copy_hits-clause-still g c = record {
  same = search rules;
  room = search rules;
  fronts = found-fronts c.args.self.now c.args.name.now c.in_ok-kept.kept.now c.find.new.hits.fronts c.requires.ready
      c.in_ok-kept.ensures.ok c.find.ensures.fronts;
}

pub returns-clause-still : goal.returns-clause-still
returns-clause-still g c = record {
  same = search rules;
  room = search rules;
  fronts = found-fronts c.args.self.now c.args.name.now c.in_ok-kept.kept.now c.find.new.hits.fronts c.requires.ready
      c.in_ok-kept.ensures.ok c.find.ensures.fronts;
}
