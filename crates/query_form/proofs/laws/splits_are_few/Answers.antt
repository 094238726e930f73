use Rattle.query_form.proofs.Fewness.{splits_are_few}
use Rattle.query_form.proofs.laws.splits_are_few.Goals as goal

pub returns : goal.returns
returns c = splits_are_few
