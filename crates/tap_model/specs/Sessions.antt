-- The moment at which commands are performed, and the user who gives them.
use Rattle.std.specs.Prelude.{ℕ, ℤ, pos, List, [], ◌∷◌, ◌++◌, map, Option, Some, None, int_le, if◌then◌else◌}
use Rattle.std.specs.Option.{option_or}
use Rattle.tap_rows.specs.declared.tables.Tables.{Tables}
use Rattle.tap_model.specs.declared.session.Session.{Session}

-- a session begins without a moment and without a user
abbrev pub no_session : Session
no_session = record { moment = None; user = None }

-- a number, or 0 if there is none
abbrev pub or_zero : Option ℤ → ℤ
or_zero None = pos 0
or_zero (Some n) = n

-- a text, or the empty one if there is none
abbrev pub or_empty : Option (List ℕ) → List ℕ
or_empty None = []
or_empty (Some text) = text

-- the session's moment, or 0
abbrev pub moment_or_zero : Session → ℤ
moment_or_zero session = or_zero session.moment

-- the session's user, or the empty text
abbrev pub user_of : Session → List ℕ
user_of session = or_empty session.user

-- the later of a moment and one that may be absent
abbrev pub later_of : ℤ → Option ℤ → ℤ
later_of m None = m
later_of m (Some n) = if int_le n m then m else n

-- the greatest of some moments, if there is one
abbrev pub greatest_of : List ℤ → Option ℤ
greatest_of [] = None
greatest_of (m ∷ ms) = Some (later_of m (greatest_of ms))

-- the moments at which rows arrived and runs were made
abbrev pub moments_in : Tables → List ℤ
moments_in tables =
    map (λ doc. doc.arrival) tables.docs ++ map (λ note. note.arrival) tables.notes ++ map (λ query. query.arrival) tables.queries
    ++ map (λ run. run.moment) tables.runs ++ map (λ filter. filter.arrival) tables.filters

-- the greatest moment that the tables hold
abbrev pub greatest_moment : Tables → Option ℤ
greatest_moment tables = greatest_of (moments_in tables)

-- the least moment that `at` may set: the session's, or the greatest of the tables if the session has none
abbrev pub last_moment : Session → Tables → Option ℤ
last_moment session tables = option_or session.moment (greatest_moment tables)
