use Rattle.query_form.proofs.Fewness.{forms_are_small}
use Rattle.query_form.proofs.laws.forms_are_small.Goals as goal

pub returns : goal.returns
returns c = forms_are_small
