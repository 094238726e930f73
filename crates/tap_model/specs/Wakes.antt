-- The earliest moment at which a run of a query is worthwhile.
use Rattle.std.specs.Prelude.{suc, ℤ, pos, Bool, length, nat_lt, Option}
use Rattle.tap_base.specs.declared.moments.TheConstants.{LAST_MOMENT}
use Rattle.tap_rows.specs.declared.tables.Tables.{Tables}
use Rattle.tap_rows.specs.declared.rows.QueryRow.{QueryRow}
use Rattle.tap_rows.specs.Seconds.{least_second}
use Rattle.tap_model.specs.Queries.{hits_of}

-- does a run of the query at this moment deliver a document?
abbrev pub does_deliver : QueryRow → Tables → ℤ → Bool
does_deliver query tables moment = nat_lt 0 (length (hits_of query tables moment))

-- the earliest moment from now on, up to the last that there is, at which a run of the query delivers
unfoldable pub wake_moment : QueryRow → Tables → ℤ → Option ℤ
wake_moment query tables now = least_second (does_deliver query tables) now (pos (suc LAST_MOMENT))
