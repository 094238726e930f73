-- What holds of every query whose marks are solved.
use Rattle.std.specs.Prelude.{Bool, List}
use Rattle.std.specs.List.{list_all}
use Rattle.tql_core.specs.declared.tnode.TNode.{TNode}
use Rattle.time_marks.specs.declared.ranged.Ranged.{Ranged}
use Rattle.time_marks.specs.Kept.{is_kept}

-- what holds of each solved probe
abbrev pub parts_kept : List TNode → List Ranged → Bool
parts_kept nodes parts = list_all (λ part. is_kept nodes part.probe) parts
