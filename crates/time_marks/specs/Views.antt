-- Probes of the code, with their bodies as conditions.
use Rattle.std.specs.Prelude.{List, map}
use Rattle.tql_core.specs.declared.tnode.TNode.{TNode}
use Rattle.tql_core.specs.Trees.{tree_at}
use Rattle.time_marks.specs.declared.probe.Probe.{Probe as CodeProbe}
use Rattle.time_marks.specs.declared.window_query.WindowQuery.{WindowQuery}
use Rattle.time_marks.specs.declared.ranged_query.RangedQuery.{RangedQuery}
use Rattle.time_marks.specs.Probes.{Probe}

-- a probe, as every definition and law reads it: its body is the pool's condition at its number
abbrev pub probe_in : List TNode → CodeProbe → Probe
probe_in nodes p = record { path = p.path; at = p.at; body = tree_at nodes p.body.0 }

-- the probes of a list
abbrev pub probes_in : List TNode → List CodeProbe → List Probe
probes_in nodes probes = map (probe_in nodes) probes

-- the probes of a query of the code, their bodies read from its pool
abbrev pub probes_of : WindowQuery → List Probe
probes_of q = probes_in q.pool q.probes

-- the probes of a query whose marks are solved
abbrev pub ranged_probes : RangedQuery → List Probe
ranged_probes q = map (λ part. probe_in q.pool part.probe) q.parts
