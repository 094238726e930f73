use Rattle.std.proofs.Common.{rules, int_lt}
use Rattle.std.proofs.lemmas.List.Sorted.{IsPartitionPoint-from_clause}
use Rattle.row_index.specs.Orders.{place_arrival}
use Rattle.row_index.proofs.Halves.{before_first, front_passes}
use Rattle.row_index.proofs.arrivals.places_before.Goals as goal

pub returns : goal.returns
returns c =
    let parted = before_first (place_arrival c.args.docs.now) c.args.moment _ c.requires in
    let point = IsPartitionPoint-from_clause (λ x. int_lt (place_arrival c.args.docs.now x) c.args.moment) _ _
    c.partition_point_from_end.ensures.partitioned parted (λ a r q k. search rules) in
    front_passes _ _ _ c.partition_point_from_end.ensures.bound point
