-- The lines of a query's parts.
use Rattle.std.proofs.Common.{◌≡◌, refl, ap, List, [], ◌∷◌, map}
use Rattle.tql_core.specs.declared.tnode.TNode.{TNode}
use Rattle.time_marks.specs.declared.ranged.Ranged.{Ranged}
use Rattle.time_marks.specs.Views.{probe_in}
use Rattle.incremental_rewrite.specs.Lines.{probe_line, explain_lines}

pub lined : (nodes : List TNode) (parts : List Ranged)
    → map (λ part. probe_line (probe_in nodes part.probe)) parts ≡ explain_lines (map (λ part. probe_in nodes part.probe) parts)
lined nodes [] = refl
lined nodes (x ∷ parts) = ap (λ lines. probe_line (probe_in nodes x.probe) ∷ lines) (lined nodes parts)
