-- What holds of every window query.
use Rattle.std.specs.Prelude.{Bool, ◌&&◌, List, length, nat_lt}
use Rattle.std.specs.List.{list_all}
use Rattle.tql_core.specs.declared.tnode.TNode.{TNode}
use Rattle.tql_core.specs.Bounds.{is_bounded}
use Rattle.time_marks.specs.declared.probe.Probe.{Probe}

-- the body is a node of the pool, and the mark's time is one that typing gives
abbrev pub is_kept : List TNode → Probe → Bool
is_kept nodes p = nat_lt p.body.0 (length nodes) && is_bounded p.at

-- what holds of each probe of a window query
abbrev pub are_kept : List TNode → List Probe → Bool
are_kept nodes probes = list_all (is_kept nodes) probes
