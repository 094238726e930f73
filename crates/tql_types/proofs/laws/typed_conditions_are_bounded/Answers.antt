use Rattle.tql_types.proofs.BoundLaws.{typed-bounded}
use Rattle.tql_types.proofs.laws.typed_conditions_are_bounded.Goals as goal

pub returns : goal.returns
returns c = typed-bounded
