use Rattle.probe_eval.proofs.WalkedLaws.{walked_hits}
use Rattle.probe_eval.proofs.laws.walked_rows_are_enough.Goals as goal

pub returns : goal.returns
returns c = λ entries T w p order seek v. walked_hits T w p seek v entries order
