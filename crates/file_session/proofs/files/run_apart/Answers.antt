use Rattle.std.proofs.Common.{◌≡◌, ◌∙◌, true, refl, sym}
use Rattle.keeper_file.specs.Cases.{has_files}
use Rattle.file_session.proofs.CloseLaws.{neither, differ, in_memory}
use Rattle.file_session.proofs.files.run_apart.Goals as goal

pub returns-then-status-eq5-clause-end : goal.returns-then-status-eq5-clause-end
returns-then-status-eq5-clause-end g c = record {
  inner = c.run_over-status.result.1.inner;
  ends = λ honest t told. c.run_over-status.ensures.ends_over t honest told;
  stopped = c.run_over-status.ensures.stopped;
  left = (tt, tt);
}

pub returns-then-has_files-clause-gone : goal.returns-then-has_files-clause-gone
returns-then-has_files-clause-gone g c = λ either. absurd (neither _ c.if-status-eq5.false c.if-status-eq6.false either)

pub returns-then-has_files-clause-refused : goal.returns-then-has_files-clause-refused
returns-then-has_files-clause-refused g c = λ refused.
    let has : has_files c.run_over-status.result.1.inner ≡ true = sym c.has_files.ensures.value ∙ c.if-has_files.true in
    absurd (differ (sym (c.run_over-status.ensures.unopened refused) ∙ has))

pub returns-then-has_files-clause-end : goal.returns-then-has_files-clause-end
returns-then-has_files-clause-end g c = record {
  inner = c.run_over-status.result.1.inner;
  ends = λ honest t told. c.run_over-status.ensures.ends_over t honest told;
  stopped = c.run_over-status.ensures.stopped;
  left = (refl, tt);
}

pub returns-else-has_files-clause-gone : goal.returns-else-has_files-clause-gone
returns-else-has_files-clause-gone g c = λ either. absurd (neither _ c.if-status-eq5.false c.if-status-eq6.false either)

pub returns-else-has_files-clause-placed : goal.returns-else-has_files-clause-placed
returns-else-has_files-clause-placed g c =
    in_memory _ _ _ _ _ (c.has_files.ensures.memory c.if-has_files.false) c.run_over-status.ensures.stopped c.if-status-eq5.false
    c.run_over-status.ensures.placed

pub returns-else-has_files-clause-end : goal.returns-else-has_files-clause-end
returns-else-has_files-clause-end g c = record {
  inner = c.run_over-status.result.1.inner;
  ends = λ honest t told. c.run_over-status.ensures.ends_over t honest told;
  stopped = c.run_over-status.ensures.stopped;
  left = (tt, refl);
}
