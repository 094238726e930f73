-- The keys of rows, which no two rows share.
use Rattle.tap_rows.specs.declared.rows.Pick.{Pick}
use Rattle.tap_rows.specs.declared.rows.QueryRow.{QueryRow}
use Rattle.restart_core.specs.declared.picked.Pair.{Pair}
use Rattle.restart_core.specs.declared.names.Named.{Named}

-- the key of a pick: its query and its document
abbrev pub pair_of : Pick → Pair
pair_of pick = record { query = pick.query.0; doc = pick.doc.0 }

-- the key of a query: its owner and its name
abbrev pub named_of : QueryRow → Named
named_of query = record { owner = query.owner; name = query.name }
