use Rattle.probe_eval.proofs.ListedRows.{listed_rows}
use Rattle.probe_eval.proofs.laws.lists_need_no_test.Goals as goal

pub returns : goal.returns
returns c = λ entries T w p order seek v. listed_rows entries T w p order v seek
