-- Lines that show queries, by what is in memory of them.
use Rattle.std.specs.Prelude.{ℕ, ◌==◌, ℤ, List, [], ◌∷◌, length, Option, Some, None, if◌then◌else◌}
use Rattle.std.specs.List.{flat_map}
use Rattle.std.specs.Str.{bytes_eq}
use Rattle.restart_core.specs.Starts.{condition_text}
use Rattle.script_lang.specs.declared.rows.QueryState.{QueryState}
use Rattle.script_lang.specs.Rows.{query_text}
use Rattle.tap_model.specs.Queries.{start_of}
use Rattle.tap_kept.specs.declared.cached_query.CachedQuery.{CachedQuery}

-- the moment of the last of that many runs, which covered the seconds up to it
abbrev pub last_run : ℕ → ℤ → Option ℤ
last_run runs covered = if runs == 0 then None else Some covered

-- what a line shows of a query beside its name and its text
abbrev pub cached_state : CachedQuery → QueryState
cached_state kept = record {
  arrival = kept.row.arrival;
  start = start_of kept.row;
  runs = kept.runs;
  last = last_run kept.runs kept.covered;
  boxed = length kept.entries;
}

-- the line of a query
abbrev pub cached_line : CachedQuery → List ℕ
cached_line kept = query_text kept.row.name (cached_state kept) (condition_text kept.row.source)

-- the line of a query, if it is this user's
abbrev pub owned_line : List ℕ → CachedQuery → List (List ℕ)
owned_line owner kept = if bytes_eq kept.row.owner owner then cached_line kept ∷ [] else []

-- the lines of the user's queries, in order
abbrev pub owned_lines : List ℕ → List CachedQuery → List (List ℕ)
owned_lines owner queries = flat_map (owned_line owner) queries
