use Rattle.std.proofs.Common.{◌≡◌, find, drop}
use Rattle.tql_types.specs.Scopes.{is_variable_named}
use Rattle.tql_types.proofs.scope.find_variable.Given as goal

-- the variable is found if it is among those that are left
abbrev pub invariant-loop-variable : goal.invariant-loop-variable
invariant-loop-variable l = find (is_variable_named l.name) l.scope ≡ find (is_variable_named l.name) (drop l.variable-index l.scope)
