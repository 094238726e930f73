-- Probes of the code, compared by the numbers of their bodies.
use Rattle.std.specs.Prelude.{Bool, ◌&&◌, List, map, nat_eq}
use Rattle.std.specs.Cmp.Lexicographic.{pointwise}
use Rattle.tql_core.specs.contracts.term.TermPartialEq.TheImpl as term
use Rattle.time_marks.specs.contracts.mark.StepPartialEq.TheImpl as step
use Rattle.time_marks.specs.declared.probe.Probe.{Probe}
use Rattle.time_marks.specs.declared.ranged.Ranged.{Ranged}

-- are the paths, the times and the numbers of the bodies equal?
abbrev pub same_numbers : Probe → Probe → Bool
same_numbers p q = pointwise step.ghosts.eq p.path q.path && (term.ghosts.eq p.at q.at && nat_eq p.body.0 q.body.0)

abbrev pub part_probes : List Ranged → List Probe
part_probes parts = map (λ part. part.probe) parts
