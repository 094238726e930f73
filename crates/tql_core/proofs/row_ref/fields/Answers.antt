use Rattle.tql_core.proofs.row_ref.fields.Goals as goal
use Rattle.tap_rows.specs.Fields.{fields}

pub returns : goal.returns
unfolding fields
returns c = c.fields.ensures
