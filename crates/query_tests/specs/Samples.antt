-- The probes of a plan that the tests use.
use Rattle.std.specs.Prelude.{ℕ, pos, List, [], ◌∷◌}
use Rattle.tql_tree.specs.declared.table.Table.TheVariants.{Docs}
use Rattle.tql_core.specs.declared.term.Base.TheVariants.{Arrival, Date, Fixed}
use Rattle.tql_core.specs.declared.term.Term.{Term}
use Rattle.time_marks.specs.declared.probe.Probe.{Probe}
use Rattle.time_marks.specs.Marks.{document_var}

-- the probe of the document alone with this mark
abbrev pub sample_probe : ℕ → Term → Probe
sample_probe id at = record { path = record { var = document_var; table = Docs; guards = [] } ∷ []; at = at; body = record { 0 = id } }

-- five seconds after the arrival, a second after the date, and the second 130
abbrev pub sample_marks : List Term
sample_marks =
    record { base = Arrival document_var; plus = pos 5 } ∷ record { base = Date document_var; plus = pos 1 }
    ∷ record { base = Fixed; plus = pos 130 } ∷ []
