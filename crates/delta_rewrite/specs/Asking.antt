-- What probes ask, from what the probes of a part of their condition ask.
use Rattle.std.specs.Prelude.{◌≤◌, ℤ, pos, Bool, true, false, List, ◌++◌, map, int_lt}
use Rattle.std.specs.List.{filter}
use Rattle.tap_base.specs.declared.numbers.Op.TheVariants.{Le}
use Rattle.tql_tree.specs.declared.table.Table.{Table}
use Rattle.tql_core.specs.declared.term.Var.{Var}
use Rattle.tql_core.specs.declared.term.Term.{Term}
use Rattle.tql_core.specs.declared.atom.Atom.TheVariants.{Times}
use Rattle.tql_core.specs.Condition.{Condition, Plain, All, Not, Exists}
use Rattle.time_marks.specs.declared.mark.Step.{Step}
use Rattle.time_marks.specs.declared.probe.Probe.{Probe as CodeProbe}
use Rattle.time_marks.specs.Marks.{copy, arrival_term, document_var, fixed_term, body}
use Rattle.time_marks.specs.Probes.{Probe}
use Rattle.monotone_rewrite.specs.Query.{fold_probe, can_find}
use Rattle.delta_rewrite.specs.declared.asked.Ask.{Ask}
use Rattle.delta_rewrite.specs.declared.asked.Ask.TheVariants as A
use Rattle.delta_rewrite.specs.Delta.{asking, some_row, probe_if, renamed, delta, settle_probe}

-- some row that has come by the mark makes the condition true
abbrev pub some_come : Var → Table → Term → Condition → Condition
some_come v t at x = Exists v t (All (Plain (Times (arrival_term v) Le at)) x)

-- the variable is one of a query
abbrev pub AskFits : Ask → Type 0
AskFits (A.SomeRow v t) = v.0 ≤ 5
AskFits _ = Unit {0}

-- what is asked at a mark, from what the part asks there
abbrev pub asked_body : Ask → Condition → Term → Condition → Condition
asked_body A.Right c at own = All own (body c at)
asked_body A.Left c at own = All (body c at) own
asked_body A.NotRight c at own = All own (Not (body c at))
asked_body A.NotLeft c at own = All (Not (body c at)) own
asked_body (A.NoneCome v t) c at own = Not (some_come v t at (body c at))
asked_body (A.SomeRow v t) c at own = some_row v t at own

-- the probe of a part, with what is asked at its mark
abbrev pub asked : Ask → Condition → Probe → Probe
asked ask c p = asking p (asked_body ask c p.at p.body)

-- the probes of a part, each with what is asked at its mark if the flag is set
abbrev pub asked_if : Bool → Ask → Condition → List Probe → List Probe
asked_if true ask c ps = map (asked ask c) ps
asked_if false ask c ps = ps

-- the probe of a bound variable's arrival, with no path yet
abbrev pub own_probe : Var → Condition → List Probe
own_probe v x = probe_if true (arrival_term (copy v)) (renamed v (copy v) (body x (arrival_term (copy v))))

-- the probes of an EXISTS below its step, from those of its inner condition
abbrev pub exists_inside : Var → Table → Condition → Bool → List Probe → List Probe
exists_inside v t x true ps = own_probe v x ++ map (asked (A.SomeRow v t) x) ps
exists_inside v t x false ps = map (asked (A.NoneCome v t) x) ps

-- a probe of the code, with these steps before its path
abbrev pub below_step : List Step → CodeProbe → CodeProbe
below_step steps p = record { path = steps ++ p.path; at = p.at; body = p.body }

-- the probes of a query below the step of the document
abbrev pub probes_below : Condition → ℤ → List Probe
probes_below c a = (probe_if true (arrival_term document_var) (body c (arrival_term document_var)) ++ delta c true)
    ++ probe_if (int_lt (pos 0) a) (fixed_term a) (body c (fixed_term a))

-- the probes settled and folded, without those whose body is False then
abbrev pub settled_probes : List Probe → List Probe
settled_probes ps = filter can_find (map fold_probe (map settle_probe ps))
