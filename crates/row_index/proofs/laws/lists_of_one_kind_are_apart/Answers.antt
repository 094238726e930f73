use Rattle.row_index.proofs.SingleLists.{lists_of_one_kind_are_apart}
use Rattle.row_index.proofs.laws.lists_of_one_kind_are_apart.Goals as goal

pub returns : goal.returns
returns c = lists_of_one_kind_are_apart
