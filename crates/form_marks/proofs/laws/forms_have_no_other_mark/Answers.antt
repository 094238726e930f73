use Rattle.form_marks.proofs.Marks.{forms_have_no_other_mark}
use Rattle.form_marks.proofs.laws.forms_have_no_other_mark.Goals as goal

pub returns : goal.returns
returns c = forms_have_no_other_mark
