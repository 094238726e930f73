use Rattle.tap_rows.proofs.LaterLaws.{first-later}
use Rattle.tap_rows.proofs.laws.later_rows_keep_first_seconds.Goals as goal
use Rattle.tap_rows.proofs.FreshLaws.{first-late}

pub returns : goal.returns
returns c = record { kept = first-later; new = first-late }
