-- The limits, how much is stored, and which limit a command would pass.
use Rattle.std.specs.Prelude.{◌≡◌, ℕ, ◌+◌, List, [], ◌∷◌, ◌++◌, length, map, filter, ◌==◌, ◌||◌, nat_le, Option, Some}
use Rattle.std.specs.Prelude.{None, sum_by}
use Rattle.std.specs.Prelude.{if◌then◌else◌}
use Rattle.std.specs.Str.{bytes_eq}
use Rattle.tap_base.specs.Words.{has_text}
use Rattle.tap_base.specs.declared.moments.TheConstants.{LAST_MOMENT}
use Rattle.tap_rows.specs.declared.tables.TheConstants.{MESSAGE_LIMIT}
use Rattle.mail_lines.specs.declared.line.TheConstants.{LINE_LIMIT}
use Rattle.tap_rows.specs.declared.tables.Tables.{Tables}
use Rattle.script_lang.specs.declared.refusal.Refusal.{Refusal}
use Rattle.script_lang.specs.declared.refusal.Refusal.TheVariants.{Limit}
use Rattle.script_lang.specs.declared.refusal.LimitName.{LimitName}

-- the most bytes of a message, of a filter's text and of a note
abbrev pub message_limit : ℕ
message_limit = 1048576

abbrev pub filter_text_limit : ℕ
filter_text_limit = 65536

abbrev pub note_text_limit : ℕ
note_text_limit = 4096

-- the most documents, notes, runs and deliveries
abbrev pub document_limit : ℕ
document_limit = 1000000

abbrev pub note_limit : ℕ
note_limit = 1000000

abbrev pub run_limit : ℕ
run_limit = 1000000

abbrev pub pick_limit : ℕ
pick_limit = 4000000

-- the most queries of one user and of all, the most filters, and the most users that own one of these
abbrev pub user_query_limit : ℕ
user_query_limit = 64

abbrev pub query_limit : ℕ
query_limit = 4000

abbrev pub filter_limit : ℕ
filter_limit = 10000

abbrev pub user_limit : ℕ
user_limit = 1000

-- the most bytes of the texts of documents, notes, queries and filters
abbrev pub store_limit : ℕ
store_limit = 134217728

-- the bytes of the texts of documents, notes, queries and filters
abbrev pub stored_bytes : Tables → ℕ
stored_bytes tables =
    sum_by (λ doc. length doc.text) tables.docs + sum_by (λ note. length note.text) tables.notes
    + sum_by (λ query. length query.source) tables.queries + sum_by (λ filter. length filter.source) tables.filters

-- the owners of queries and filters, one for each of these rows
abbrev pub owners_in : Tables → List (List ℕ)
owners_in tables = map (λ query. query.owner) tables.queries ++ map (λ filter. filter.owner) tables.filters

-- how many different texts these are
abbrev pub different : List (List ℕ) → ℕ
different [] = 0
different (text ∷ texts) = if has_text texts text then different texts else different texts + 1

-- how many queries the user has
abbrev pub queries_of : List ℕ → Tables → ℕ
queries_of user tables = length (filter (λ query. bytes_eq query.owner user) tables.queries)

-- how many more users own a query or a filter once this one does
abbrev pub new_users : List ℕ → Tables → ℕ
new_users user tables = if has_text (owners_in tables) user then 0 else 1

-- the limit, if that many more would pass it; none more pass no limit
abbrev pub limit_refusal : LimitName → ℕ → ℕ → ℕ → Option Refusal
limit_refusal name limit count more = if (more == 0) || nat_le (count + more) limit then None else Some (Limit name)

-- the limits that definitions name by a constant, as numbers: the last moment, and the most bytes of a stored text and of a line
pub record ConstantLimits : Type 0 where
  pub moment : LAST_MOMENT ≡ 250000000000
  pub message : MESSAGE_LIMIT ≡ message_limit
  pub line : LINE_LIMIT ≡ 1048576
