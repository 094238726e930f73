use Rattle.file_session.proofs.CloseLaws.{unplaced}
use Rattle.file_session.proofs.files.run_session.Goals as goal

pub returns-clause-no_file : goal.returns-clause-no_file
returns-clause-no_file g c none =
    unplaced _ _ _ _ (c.run_to_close-status.ensures.no_file.0 none) c.run_to_close-status.ensures.placed

pub returns-clause-end : goal.returns-clause-end
returns-clause-end g c =
    let end = c.run_to_close-status.ensures.end in record {
      inner = end.inner;
      ends = λ honest t told. end.ends honest t told;
      stopped = end.stopped;
      close = end.close;
      back = tt;
    }
