use Rattle.std.proofs.Common.{rules}
use Rattle.std.proofs.lemmas.List.Sorted.{IsPartitionPoint-from_clause}
use Rattle.row_index.specs.Cuts.{keeps_place}
use Rattle.row_index.proofs.Halves.{front_passes}
use Rattle.row_index.proofs.ListCutLaws.{kept_first}
use Rattle.row_index.proofs.cut.front.Goals as goal

pub returns : goal.returns
returns c =
    let parted = kept_first c.args.docs.now c.args.cut _ c.requires.rising c.requires.front in
    let point = IsPartitionPoint-from_clause (keeps_place c.args.docs.now c.args.cut) _ _
    c.partition_point_from_end.ensures.partitioned parted (λ a r q k. search rules) in
    front_passes _ _ _ c.partition_point_from_end.ensures.bound point
