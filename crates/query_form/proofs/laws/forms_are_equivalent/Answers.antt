use Rattle.query_form.proofs.Equivalent.{forms_are_equivalent}
use Rattle.query_form.proofs.laws.forms_are_equivalent.Goals as goal

pub returns : goal.returns
returns c = forms_are_equivalent
