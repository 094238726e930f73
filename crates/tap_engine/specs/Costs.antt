-- What a command costs. A step is a row that the index hands out.
use Rattle.std.specs.Prelude.{⊤, ℕ, ℤ, pos, ◌≡◌, ◌≤◌, ◌+◌, length, List, Option, Some, None}
use Rattle.tap_base.specs.declared.moments.TheConstants.{LAST_MOMENT}
use Rattle.tap_base.specs.Numbers.{moment_of}
use Rattle.tap_rows.specs.declared.tables.Tables.{Tables}
use Rattle.tap_rows.specs.declared.rows.QueryRow.{QueryRow}
use Rattle.tap_rows.specs.Results.{covered}
use Rattle.tap_rows.specs.Deliveries.{delivered}
use Rattle.time_marks.specs.declared.window.Window.{Window}
use Rattle.script_lang.specs.declared.command.Command.{Command}
use Rattle.script_lang.specs.declared.command.Command.TheVariants.{Run, ListOf, Ask, Wake, ScoresOf, DigestOf, Find}
use Rattle.script_lang.specs.declared.lookup.Lookup.{Lookup}
use Rattle.script_lang.specs.declared.lookup.Lookup.TheVariants.{ShowDoc, ListNotes, ListQueries, Count}
use Rattle.tap_model.specs.declared.session.Session.{Session}
use Rattle.tap_model.specs.Sessions.{moment_or_zero, user_of}
use Rattle.tap_model.specs.Queries.{condition_in, start_of, query_named, probes_of_query}
use Rattle.tap_model.specs.Replies.{entries_in_run}
use Rattle.tap_model.specs.Lookups.{notes_on}
use Rattle.tap_model.specs.WindowRuns.{asked_rows, found_since}
use Rattle.wake_plan.specs.Wakes.{wake_window}
use Rattle.tap_kept.specs.declared.cached_query.CachedQuery.{CachedQuery}
use Rattle.tap_kept.specs.Costs.{NoProbeHasMark, AreAlone, query_rows_due, apart_work, query_work, window_since, work_ahead, ask_work}
use Rattle.tap_engine.specs.declared.engine.Engine.{Engine}
use Rattle.tap_engine.specs.Standing.{OverTables}

-- the window of a query's next run, by the tables: from the second that it has covered up to a moment
abbrev pub next_window : Tables → QueryRow → ℤ → Window
next_window tables query moment = record { low = covered (start_of query) query.num.0 tables.runs; high = moment }

-- there is no such query, or no probe of it has a mark in the window of its next run
abbrev pub IsQuietQuery : Option QueryRow → Session → Tables → Type 0
IsQuietQuery None session tables = ⊤
IsQuietQuery (Some query) session tables = NoProbeHasMark tables (next_window tables query (moment_or_zero session)) query

-- there is no such query, or the path of each of its probes is the document alone
abbrev pub IsShortQuery : Option QueryRow → Type 0
IsShortQuery None = ⊤
IsShortQuery (Some query) = AreAlone query

-- the rows due in the window of the query's next run
abbrev pub query_due : Option QueryRow → Session → Tables → ℕ
query_due None session tables = 0
query_due (Some query) session tables = query_rows_due tables (next_window tables query (moment_or_zero session)) query

-- the look-up looks at no row of the index
abbrev pub IsQuietLookup : Lookup → Type 0
IsQuietLookup (ShowDoc num) = ⊥
IsQuietLookup (ListNotes num) = ⊥
IsQuietLookup ListQueries = ⊤
IsQuietLookup Count = ⊤

-- the command asks for scores, queries or counts, or runs a query of which no probe has a mark in the window of this run, or no
-- query of that name is there
abbrev pub IsQuiet : Command → Session → Tables → Type 0
IsQuiet (Run name) session tables = IsQuietQuery (query_named (user_of session) name tables) session tables
IsQuiet (ScoresOf kind) session tables = ⊤
IsQuiet (Find lookup) session tables = IsQuietLookup lookup
IsQuiet other session tables = ⊥

-- the command runs a query of which the path of each probe is the document alone
abbrev pub IsShortRun : Command → Session → Tables → Type 0
IsShortRun (Run name) session tables = IsShortQuery (query_named (user_of session) name tables)
IsShortRun other session tables = ⊥

-- how many rows are due for the run that the command is
abbrev pub run_due : Command → Session → Tables → ℕ
run_due (Run name) session tables = query_due (query_named (user_of session) name tables) session tables
run_due other session tables = 0

-- scores, queries, counts, and a run without a mark in its window take no step; the second number of steps is that after the command
abbrev pub TakesNoStep : Engine → Command → ℕ → ℕ → Type 0
TakesNoStep engine command before steps = OverTables engine (λ t. IsQuiet command engine.session t → steps ≡ before)

-- a run whose paths are documents alone takes no more steps than rows are due
abbrev pub TakesRowsDue : Engine → Command → ℕ → ℕ → Type 0
TakesRowsDue engine command before steps =
    OverTables engine (λ t. IsShortRun command engine.session t → steps ≤ before + run_due command engine.session t)

-- the steps that a run of this query may take
abbrev pub run_work : Option QueryRow → Session → Tables → ℕ
run_work None session tables = 0
run_work (Some query) session tables =
    query_work (delivered query.num.0 tables) (asked_rows tables) (next_window tables query (moment_or_zero session)) query

-- from the second that the query has covered up to and with the least mark at which a run would deliver
abbrev pub wake_window_of : Tables → QueryRow → Window
wake_window_of tables query = wake_window (covered (start_of query) query.num.0 tables.runs) (found_since query tables (pos LAST_MOMENT))

-- the steps that looking for the next moment of this query may take: those up to that mark, and one for each probe
abbrev pub wake_work : Option QueryRow → Tables → ℕ
wake_work None tables = 0
wake_work (Some query) tables =
    length (probes_of_query query) + apart_work (delivered query.num.0 tables) (asked_rows tables) (wake_window_of tables query) query

-- a step for each entry of this query's box
abbrev pub list_work : Option QueryRow → Tables → ℕ
list_work None tables = 0
list_work (Some query) tables = length (delivered query.num.0 tables)

-- a step for each entry of one run of this query
abbrev pub digest_work : Option QueryRow → ℕ → Tables → ℕ
digest_work None ordinal tables = 0
digest_work (Some query) ordinal tables = length (entries_in_run ordinal (delivered query.num.0 tables))

-- a step for the document that is shown, and one for each note on a document
abbrev pub lookup_work : Lookup → Tables → ℕ
lookup_work (ShowDoc num) tables = 1
lookup_work (ListNotes num) tables = length (notes_on num tables.notes)
lookup_work ListQueries tables = 0
lookup_work Count tables = 0

-- the steps that a question may take, if its second can be read: those of a run of this second
abbrev pub question_work : Option ℤ → List ℕ → Tables → ℕ
question_work None source tables = 0
question_work (Some second) source tables = ask_work (asked_rows tables) (condition_in source) second

-- the most steps that a command may take: of a run `query_work` in its window; of `wake` those of each probe on its own up to the
-- least mark at which a run would deliver, and one for each probe; of `list` one for each entry, of `digest` one for each entry of
-- the run; of a look-up `lookup_work`; of `ask` those of a run of its second; of any other none
abbrev pub most_steps : Command → Session → Tables → ℕ
most_steps (Run name) session tables = run_work (query_named (user_of session) name tables) session tables
most_steps (Wake name) session tables = wake_work (query_named (user_of session) name tables) tables
most_steps (ListOf name) session tables = list_work (query_named (user_of session) name tables) tables
most_steps (DigestOf name ordinal) session tables = digest_work (query_named (user_of session) name tables) ordinal tables
most_steps (Find lookup) session tables = lookup_work lookup tables
most_steps (Ask moment source) session tables = question_work (moment_of moment) source tables
most_steps other session tables = 0

-- the command takes no more steps than these
abbrev pub TakesAtMost : Engine → Command → ℕ → ℕ → Type 0
TakesAtMost engine command before steps = OverTables engine (λ t. steps ≤ before + most_steps command engine.session t)

-- the steps that a command takes, by what it asks for; the second number of steps is that after the command
pub record TakesFewSteps (engine : Engine) (command : Command) (before steps : ℕ) : Type 0 where
  -- scores, queries, counts, and a run without a mark in its window take none
  pub quiet : TakesNoStep engine command before steps
  -- a run whose paths are documents alone takes no more than rows are due
  pub due : TakesRowsDue engine command before steps
  -- every command takes at most `most_steps`
  pub most : TakesAtMost engine command before steps

-- the same, by what is cached of the query that a command names
abbrev pub cached_run_work : Engine → Option CachedQuery → ℕ
cached_run_work engine None = 0
cached_run_work engine (Some kept) = query_work kept.entries engine.index (window_since kept (moment_or_zero engine.session)) kept.row

abbrev pub cached_wake_work : Engine → Option CachedQuery → ℕ
cached_wake_work engine None = 0
cached_wake_work engine (Some kept) = work_ahead kept engine.index

abbrev pub cached_list_work : Option CachedQuery → ℕ
cached_list_work None = 0
cached_list_work (Some kept) = length kept.entries

abbrev pub cached_digest_work : ℕ → Option CachedQuery → ℕ
cached_digest_work ordinal None = 0
cached_digest_work ordinal (Some kept) = length (entries_in_run ordinal kept.entries)
