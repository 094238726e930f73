use Rattle.std.proofs.Common.{rules, not, ◌∙◌}
use Rattle.std.proofs.lemmas.List.Sorted.{IsPartitionPoint-from_clause}
use Rattle.row_index.specs.Cuts.{keeps_place}
use Rattle.row_index.proofs.Halves.{rest_as_taken}
use Rattle.row_index.proofs.ListCutLaws.{left_first, kept_again}
use Rattle.row_index.proofs.cut.end.Goals as goal

pub returns : goal.returns
returns c =
    let parted = left_first c.args.docs.now c.args.cut _ c.requires.rising c.requires.end in
    let point = IsPartitionPoint-from_clause (λ x. not (keeps_place c.args.docs.now c.args.cut x)) _ _
    c.partition_point_from_end.ensures.partitioned parted (λ a r q k. search rules) in
    rest_as_taken _ _ _ c.partition_point_from_end.ensures.bound point
    ∙ kept_again (keeps_place c.args.docs.now c.args.cut) c.args.places.now
