use Rattle.std.proofs.Common.{rules, int_le}
use Rattle.std.proofs.lemmas.List.Sorted.{IsPartitionPoint-from_clause}
use Rattle.row_index.specs.Orders.{note_arrival}
use Rattle.row_index.proofs.Halves.{up_to_first, front_passes}
use Rattle.row_index.proofs.arrivals.notes_up_to.Goals as goal

pub returns : goal.returns
returns c =
    let parted = up_to_first note_arrival c.args.last _ c.requires in
    let point = IsPartitionPoint-from_clause (λ x. int_le x.arrival c.args.last) _ _ c.partition_point_from_end.ensures.partitioned parted
    (λ a r q k. search rules) in
    front_passes _ _ _ c.partition_point_from_end.ensures.bound point
