use Rattle.time_marks.proofs.Orders.{found_either_way}
use Rattle.time_marks.proofs.laws.found_in_any_order.Goals as goal

pub returns : goal.returns
returns c = found_either_way
