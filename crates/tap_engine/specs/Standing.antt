-- The tables that an engine represents, and why a command is refused, by what the engine has in memory.
use Rattle.std.specs.Prelude.{ℕ, ℤ, pos, ◌≡◌, ◌⊎◌, List, [], ◌∷◌, length, map, Option, Some, None, is_none, if◌then◌else◌}
use Rattle.std.specs.Option.{option_or}
use Rattle.tap_base.specs.Words.{has_text}
use Rattle.tap_base.specs.declared.moments.TheConstants.{LAST_MOMENT}
use Rattle.tap_rows.specs.declared.tables.Tables.{Tables}
use Rattle.tap_rows.specs.declared.results.Hit.{Hit}
use Rattle.tap_rows.specs.declared.results.Entry.{Entry}
use Rattle.mail_lines.specs.declared.block.Block.{Block}
use Rattle.row_index.specs.Rows.{rows_alone}
use Rattle.script_lang.specs.declared.command.Command.{Command}
use Rattle.script_lang.specs.declared.refusal.Refusal.{Refusal}
use Rattle.script_lang.specs.declared.refusal.Refusal.TheVariants.{Taken, NoQuery, Memory}
use Rattle.script_lang.specs.declared.refusal.LimitName.TheVariants.{Documents, Notes, Queries, AllQueries, Users, Runs, Picks, Store}
use Rattle.tap_model.specs.Limits.{document_limit, note_limit, user_query_limit, query_limit}
use Rattle.tap_model.specs.Limits.{user_limit, run_limit, pick_limit, store_limit}
use Rattle.tap_kept.specs.declared.cached_query.CachedQuery.{CachedQuery}
use Rattle.tap_engine.specs.declared.engine.Engine.{Engine}
use Rattle.tap_engine.specs.declared.run.Due.{Due}
use Rattle.tap_model.specs.declared.session.Session.{Session}
use Rattle.tap_model.specs.Sessions.{moment_or_zero, user_of, greatest_moment}
use Rattle.tap_model.specs.Limits.{stored_bytes, owners_in, different, limit_refusal}
use Rattle.tap_model.specs.Sound.{IsSound, IsSoundFor}
use Rattle.tap_model.specs.Verdicts.{missing, refuse_unless, first_refusal, no_moment, no_user, bad_name, text_fault}
use Rattle.tap_model.specs.Verdicts.{messages_of, long_message, long_block, bytes_of_all, no_doc, long_note, no_run}
use Rattle.vote_scores.specs.Tally.{tally}
use Rattle.time_marks.specs.NextWake.{next_wake}
use Rattle.restart_core.specs.Starts.{condition_text, stored_source}
use Rattle.tap_kept.specs.Keeping.{cached_query, named_in, owned_in, hits_since}

-- the engine represents the tables: its index owns their documents and notes; it has their queries and filters, the tally of
-- their notes, how many runs and picks there are, how many bytes they store, and who owns a query or a filter; before the
-- session has a moment it also has the greatest moment of the tables
pub record Represents (engine : Engine) (tables : Tables) : Type 0 where
  pub rows : engine.index ≡ rows_alone tables.docs tables.notes
  pub queries : engine.queries ≡ map (cached_query tables) tables.queries
  pub filters : engine.filters ≡ tables.filters
  pub votes : engine.votes ≡ tally tables.notes
  pub run_count : engine.run_count ≡ length tables.runs
  pub pick_count : engine.pick_count ≡ length tables.picks
  pub bytes : engine.bytes ≡ stored_bytes tables
  pub users : length engine.owners ≡ different (owners_in tables)
  pub owners : (user : List ℕ) → has_text engine.owners user ≡ has_text (owners_in tables) user
  pub greatest : engine.session.moment ≡ None → engine.greatest ≡ greatest_moment tables

-- for each tables that the engine represents
abbrev pub OverTables : Engine → (Tables → Type 0) → Type 0
OverTables engine P = (t : Tables) → Represents engine t → P t

-- for each tables that the engine represents and that are sound with its session
abbrev pub OverSound : Engine → (Tables → Type 0) → Type 0
OverSound engine P = (t : Tables) → Represents engine t → IsSound t engine.session → P t

-- for each tables that the engine represents and that are sound with its session for a command
abbrev pub OverSoundFor : Engine → Command → (Tables → Type 0) → Type 0
OverSoundFor engine command P = (t : Tables) → Represents engine t → IsSoundFor command t engine.session → P t

-- the user's query of this name
abbrev pub cached_named : Engine → List ℕ → Option CachedQuery
cached_named engine name = named_in (user_of engine.session) name engine.queries

-- why a query of this user and name is refused for its name
unfoldable pub name_refusal : Engine → List ℕ → List ℕ → Option Refusal
name_refusal engine user name = option_or (bad_name name) (refuse_unless (is_none (named_in user name engine.queries)) Taken)

-- the limits that a query of this user and length may pass, in order
unfoldable pub query_limits : Engine → List ℕ → ℕ → List (Option Refusal)
query_limits engine user len =
    limit_refusal Queries user_query_limit (owned_in user engine.queries) 1
    ∷ limit_refusal AllQueries query_limit (length engine.queries) 1
    ∷ limit_refusal Users user_limit (length engine.owners) (if has_text engine.owners user then 0 else 1)
    ∷ limit_refusal Store store_limit engine.bytes len
    ∷ []

-- why a new query is refused before its text is read
abbrev pub early_define : Engine → List ℕ → Option Refusal
early_define engine name =
    option_or (no_moment engine.session) (option_or (no_user engine.session) (name_refusal engine (user_of engine.session) name))

-- why a new query is refused
abbrev pub define_refusal : Engine → List ℕ → List ℕ → Option Refusal
define_refusal engine name source =
    option_or (no_moment engine.session)
    (option_or (no_user engine.session)
    (option_or (name_refusal engine (user_of engine.session) name)
    (option_or (text_fault (condition_text source))
    (first_refusal (query_limits engine (user_of engine.session) (length (stored_source source)))))))

-- which limit these messages of a mailbox file pass first
unfoldable pub mbox_bounds : Engine → Block → List (List ℕ) → Option Refusal
mbox_bounds engine block messages =
    first_refusal
    (long_message messages
    ∷ long_block block
    ∷ limit_refusal Documents document_limit (length engine.index.docs) (length messages)
    ∷ limit_refusal Store store_limit engine.bytes (bytes_of_all messages)
    ∷ [])

-- why a mailbox file is refused
abbrev pub mbox_refusal : Engine → Block → Option Refusal
mbox_refusal engine block = option_or (no_moment engine.session) (mbox_bounds engine block (messages_of block))

-- why a note of that many bytes on this document is refused, once its words are fine
unfoldable pub note_bounds : Engine → ℕ → ℕ → Option Refusal
note_bounds engine doc len =
    first_refusal
    (no_doc doc (length engine.index.docs)
    ∷ long_note len
    ∷ limit_refusal Notes note_limit (length engine.index.notes) 1
    ∷ limit_refusal Store store_limit engine.bytes len
    ∷ [])

-- why a note is refused
abbrev pub note_refusal : Engine → ℕ → List ℕ → List ℕ → Option Refusal
note_refusal engine doc kind text =
    option_or (no_moment engine.session)
    (option_or (no_user engine.session)
    (option_or (bad_name kind)
    (note_bounds engine doc (length text))))

-- why a search for the user's query of this name among these is refused
abbrev pub query_refusal : Session → List CachedQuery → List ℕ → Option Refusal
query_refusal session queries name =
    option_or (no_user session)
    (option_or (bad_name name)
    (missing NoQuery (named_in (user_of session) name queries)))

-- why a search for the user's query of this name is refused
unfoldable pub look_refusal : Engine → List ℕ → Option Refusal
look_refusal engine name = query_refusal engine.session engine.queries name

-- why a question for the next worthwhile run is refused
abbrev pub wake_refusal : Engine → List ℕ → Option Refusal
wake_refusal engine name = option_or (no_moment engine.session) (look_refusal engine name)

-- when a run of this query is next worthwhile, from the session's moment on
abbrev pub cached_wake : Engine → Option CachedQuery → Option (Option ℤ)
cached_wake engine None = None
cached_wake engine (Some kept) = Some (next_wake (moment_or_zero engine.session) (hits_since kept engine.index (pos LAST_MOMENT)))

-- how many runs a query had
abbrev pub cached_runs : Option CachedQuery → ℕ
cached_runs None = 0
cached_runs (Some kept) = kept.runs

-- why the digest of a run is refused
abbrev pub digest_refusal : Engine → List ℕ → ℕ → Option Refusal
digest_refusal engine name ordinal = option_or (look_refusal engine name) (no_run ordinal (cached_runs (cached_named engine name)))

-- what a run of this query delivers
abbrev pub cached_hits : Engine → Option CachedQuery → List Hit
cached_hits engine None = []
cached_hits engine (Some kept) = hits_since kept engine.index (moment_or_zero engine.session)

-- what a query has delivered
abbrev pub cached_entries : Option CachedQuery → Option (List Entry)
cached_entries None = None
cached_entries (Some kept) = Some kept.entries

-- what a run of this query is about to deliver
abbrev pub due_of : Engine → Option CachedQuery → Option Due
due_of engine None = None
due_of engine (Some kept) = Some (record {
  query = kept.row.num;
  moment = moment_or_zero engine.session;
  runs = kept.runs;
  hits = cached_hits engine (Some kept);
})

-- why a run is refused
abbrev pub run_refusal : Engine → List ℕ → Option Refusal
run_refusal engine name =
    option_or (no_moment engine.session)
    (option_or (look_refusal engine name)
    (option_or (limit_refusal Runs run_limit engine.run_count 1)
    (limit_refusal Picks pick_limit engine.pick_count (length (cached_hits engine (cached_named engine name))))))

-- the refusal is that of a verdict; or it is out of memory, and the checks before memory is asked for refuse nothing
abbrev pub RefusedAfter : Option Refusal → Option Refusal → Refusal → Type 0
RefusedAfter early verdict refusal = (verdict ≡ Some refusal) ⊎ ((refusal ≡ Memory) × (early ≡ None))

-- the refusal is that of a verdict; or it is out of memory, and there is no verdict
abbrev pub RefusedBy : Option Refusal → Refusal → Type 0
RefusedBy verdict refusal = RefusedAfter verdict verdict refusal
