use Rattle.tql_core.proofs.Equal.{same_is_equal}
use Rattle.tql_core.proofs.laws.the_test_is_equality.Goals as goal

pub returns : goal.returns
returns c = same_is_equal
