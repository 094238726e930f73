-- What one user sees, which commands concern the user, and which refusals depend on what all users share.
use Rattle.std.specs.Prelude.{ℕ, ℤ, List, [], ◌∷◌, Bool, true, false, Option, Some, None, map, if◌then◌else◌}
use Rattle.std.specs.Option.{option_map}
use Rattle.std.specs.Str.{bytes_eq}
use Rattle.tap_rows.specs.declared.tables.Tables.{Tables}
use Rattle.tap_rows.specs.declared.rows.Doc.{Doc}
use Rattle.tap_rows.specs.declared.rows.Note.{Note}
use Rattle.tap_rows.specs.declared.rows.QueryRow.{QueryRow}
use Rattle.tap_rows.specs.declared.results.Entry.{Entry}
use Rattle.tap_rows.specs.Results.{run_moments}
use Rattle.tap_rows.specs.Deliveries.{delivered}
use Rattle.script_lang.specs.declared.command.Command.{Command}
use Rattle.script_lang.specs.declared.command.Command.TheVariants.{At, AsUser, Mail, Mbox, AddNote}
use Rattle.script_lang.specs.declared.refusal.Refusal.{Refusal}
use Rattle.script_lang.specs.declared.refusal.Refusal.TheVariants.{Limit, Memory}
use Rattle.script_lang.specs.declared.refusal.LimitName.TheVariants.{AllQueries, Users, Filters, Runs, Picks, Store}
use Rattle.script_lang.specs.declared.reply.Reply.{Reply}
use Rattle.script_lang.specs.declared.reply.Reply.TheVariants.{No}
use Rattle.tap_model.specs.declared.session.Session.{Session}
use Rattle.tap_model.specs.Queries.{owned_queries}
use Rattle.tap_model.specs.Filters.{last_filter}
use Rattle.tap_model.specs.Stories.{StoryStep, Story}
use Rattle.tap_model.specs.Sound.{IsSound}

-- a query as its user sees it: the moments of its runs, and what they delivered
pub record QueryView : Type 0 where
  pub name : List ℕ
  pub source : List ℕ
  pub arrival : ℤ
  pub runs : List ℤ
  pub entries : List Entry

-- a query as its user sees it: its name, source and arrival, the moments of its runs, and what they delivered
abbrev pub query_view : Tables → QueryRow → QueryView
query_view tables query = record {
  name = query.name;
  source = query.source;
  arrival = query.arrival;
  runs = run_moments query.num.0 tables.runs;
  entries = delivered query.num.0 tables;
}

-- what one user sees: all documents and notes, the user's own queries and last filter, and the moment
pub record View : Type 0 where
  pub docs : List Doc
  pub notes : List Note
  pub queries : List QueryView
  pub filter : Option (List ℕ)
  pub moment : Option ℤ

-- what a user sees: all documents and notes, the user's queries in order, the text of the user's last filter, and the session's
-- moment
abbrev pub view_of : List ℕ → Session → Tables → View
view_of user session tables = record {
  docs = tables.docs;
  notes = tables.notes;
  queries = map (query_view tables) (owned_queries user tables);
  filter = option_map (λ filter. filter.source) (last_filter user tables.filters);
  moment = session.moment;
}

-- a refusal that comes of what all users share: out of memory, or a limit `allqueries`, `users`, `filters`, `runs`, `picks` or
-- `store`
abbrev pub is_shared : Refusal → Bool
is_shared Memory = true
is_shared (Limit AllQueries) = true
is_shared (Limit Users) = true
is_shared (Limit Filters) = true
is_shared (Limit Runs) = true
is_shared (Limit Picks) = true
is_shared (Limit Store) = true
is_shared refusal = false

-- is the reply such a refusal?
abbrev pub is_shared_reply : Reply → Bool
is_shared_reply (No refusal) = is_shared refusal
is_shared_reply reply = false

-- is it this user?
abbrev pub is_user : List ℕ → Option (List ℕ) → Bool
is_user user None = false
is_user user (Some name) = bytes_eq name user

-- whom a command concerns: `at`, `mail`, `mbox` and `note` everybody, `as` nobody, every other one (a faulty line too) the
-- session's user
abbrev pub concerns : List ℕ → Session → Command → Bool
concerns user session (AsUser name) = false
concerns user session (At text) = true
concerns user session (Mail block) = true
concerns user session (Mbox block) = true
concerns user session (AddNote doc kind value text) = true
concerns user session command = is_user user session.user

-- who gives a command, if that matters
abbrev pub giver : Session → Command → Option (List ℕ)
giver session (At text) = None
giver session (Mail block) = None
giver session (Mbox block) = None
giver session command = session.user

-- a command with the user who gives it
pub record Deed : Type 0 where
  pub command : Command
  pub giver : Option (List ℕ)

-- a command with the session's user; for `at`, `mail` and `mbox` without, since it doesn't matter who gives them
abbrev pub deed_of : Session → Command → Deed
deed_of session command = record { command = command; giver = giver session command }

-- a deed and the reply to it
pub record Act : Type 0 where
  pub deed : Deed
  pub reply : Reply

-- one step from a sound point
pub record Move : Type 0 where
  pub tables : Tables
  pub session : Session
  pub command : Command
  pub reply : Reply
  pub tables' : Tables
  pub session' : Session
  pub sound : IsSound tables session
  pub step : StoryStep tables session command reply tables' session'

-- a story from a sound point
pub record Tale : Type 0 where
  pub tables : Tables
  pub session : Session
  pub commands : List Command
  pub replies : List Reply
  pub tables' : Tables
  pub session' : Session
  pub sound : IsSound tables session
  pub story : Story tables session commands replies tables' session'

-- the acts along a story that concern the user
abbrev pub acts_along : (user : List ℕ) (tables : Tables) (session : Session) (commands : List Command) (replies : List Reply)
    (tables' : Tables) (session' : Session) → Story tables session commands replies tables' session' → List Act
acts_along user tables session [] [] tables' session' story = []
acts_along user tables session (command ∷ commands) (reply ∷ replies) tables' session' story =
    if concerns user session command
    then record { deed = deed_of session command; reply = reply }
    ∷ acts_along user story.0 story.1 commands replies tables' session' story.3
    else acts_along user story.0 story.1 commands replies tables' session' story.3
acts_along user tables session [] (reply ∷ replies) tables' session' story = []
acts_along user tables session (command ∷ commands) [] tables' session' story = []

-- the deeds along a story that concern a user, each with its reply
abbrev pub acts_of : List ℕ → Tale → List Act
acts_of user tale = acts_along user tale.tables tale.session tale.commands tale.replies tale.tables' tale.session' tale.story

-- the deeds of some acts, and their replies
abbrev pub deeds : List Act → List Deed
deeds acts = map (λ act. act.deed) acts

abbrev pub replies_in : List Act → List Reply
replies_in acts = map (λ act. act.reply) acts
