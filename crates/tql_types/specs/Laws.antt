-- Laws of typing.
use Rattle.std.specs.Prelude.{◌≡◌, Ok, true}
use Rattle.tql_tree.specs.Syntax.{Syntax}
use Rattle.tql_core.specs.Bounds.{are_bounded}
use Rattle.tql_core.specs.Condition.{Condition}
use Rattle.tql_core.specs.Scope.{IsQuery}
use Rattle.tql_types.specs.Core.{typed}

-- a condition that typing gives is a query's: m alone is free, and each EXISTS binds a new variable of 1 to 5
abbrev pub TypedConditionsAreQueries : Type 0
TypedConditionsAreQueries = (tree : Syntax) (c : Condition) → typed tree ≡ Ok c → IsQuery c

-- each time of a condition that typing gives adds at most 450,000,086,400 seconds, and nothing to a day
abbrev pub TypedConditionsAreBounded : Type 0
TypedConditionsAreBounded = (tree : Syntax) (c : Condition) → typed tree ≡ Ok c → are_bounded c ≡ true
