-- The conditions that are read of queries.
use Rattle.std.specs.Prelude.{List, map, Result, Ok}
use Rattle.tap_rows.specs.declared.rows.QueryRow.{QueryRow}
use Rattle.tql_core.specs.declared.cond.Cond.{Cond}
use Rattle.tql_core.specs.Condition.{Condition, condition}
use Rattle.tql_text.specs.declared.fault.TextFault.{TextFault}
use Rattle.tql_text.specs.Texts.{condition_of}
use Rattle.restart_core.specs.Starts.{condition_text}

-- a query's condition, or the fault of its text
abbrev pub reading_of : QueryRow → Result Condition TextFault
reading_of query = condition_of (condition_text query.source)

-- the readings of the queries' conditions
abbrev pub readings_of : List QueryRow → List (Result Condition TextFault)
readings_of queries = map reading_of queries

-- the readings that give these conditions
abbrev pub as_read : List Cond → List (Result Condition TextFault)
as_read conds = map (λ cond. Ok (condition cond)) conds
