-- The variables in scope, and how many there are in a query.
use Rattle.std.specs.Prelude.{ℕ, ◌+◌, List, [], ◌∷◌, ◌++◌, Bool, nat_lt, Option, find, codes, if◌then◌else◌}
use Rattle.std.specs.Str.{bytes_eq}
use Rattle.tql_tree.specs.declared.table.Table.{Table}
use Rattle.tql_tree.specs.declared.table.Table.TheVariants.{Docs}
use Rattle.tql_tree.specs.Syntax.{Syntax, True, False, Or, And, Not, Exists, Compare, Has}
use Rattle.tql_types.specs.declared.scope.Variable.{Variable}

-- is this the variable's name?
abbrev pub is_variable_named : List ℕ → Variable → Bool
is_variable_named name variable = bytes_eq variable.name name

-- the variable of a name, if it is in scope
abbrev pub variable_named : List ℕ → List Variable → Option Variable
variable_named name scope = find (is_variable_named name) scope

-- m, a document, is always in scope
abbrev pub first_scope : List Variable
first_scope = record { name = codes "m"; var = record { 0 = 0 }; table = Docs } ∷ []

-- the scope with one more variable, which gets this number
abbrev pub entered : List Variable → ℕ → List ℕ → Table → List Variable
entered scope count name table = scope ++ record { name = name; var = record { 0 = count }; table = table } ∷ []

-- how many variables there are with one more; a seventh is not counted
abbrev pub next_variable : ℕ → ℕ
next_variable count = if nat_lt count 6 then count + 1 else 6

-- how many variables there are after this part of a query, those before it counted
abbrev pub variables_after : ℕ → Syntax → ℕ
variables_after count True = count
variables_after count False = count
variables_after count (Or l r) = variables_after (variables_after count l) r
variables_after count (And l r) = variables_after (variables_after count l) r
variables_after count (Not x) = variables_after count x
variables_after count (Exists name place table body) = variables_after (next_variable count) body
variables_after count (Compare left op place right) = count
variables_after count (Has left place right) = count
