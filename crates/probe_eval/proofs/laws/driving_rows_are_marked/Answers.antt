use Rattle.probe_eval.proofs.DriverLaws.{driven_are, are_driven}
use Rattle.probe_eval.proofs.laws.driving_rows_are_marked.Goals as goal

pub returns : goal.returns
returns c = λ T w p v row b e. (driven_are T w p v b e row, λ h. are_driven T w p v b e row h.0 h.1)
