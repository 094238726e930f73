-- Laws of stories.
use Rattle.std.specs.Prelude.{ℕ, ◌≡◌, ◌≢◌, ◌↔◌, List, true, [], codes, Some, IsOk}
use Rattle.std.specs.List.{list_all}
use Rattle.tap_rows.specs.declared.tables.Tables.{Tables}
use Rattle.tap_rows.specs.declared.change.Change.{Change}
use Rattle.tap_rows.specs.declared.change.Change.TheVariants.{Docs}
use Rattle.tap_rows.specs.Tables.{no_rows}
use Rattle.tap_rows.specs.Deliveries.{delivered}
use Rattle.tap_rows.specs.Fits.{fits}
use Rattle.tap_rows.specs.Kept.{Each}
use Rattle.tap_rows.specs.WellFormed.{is_well_formed}
use Rattle.tql_text.specs.Texts.{condition_of}
use Rattle.filter_rules.specs.RuleTexts.{rules_of}
use Rattle.restart_core.specs.Starts.{condition_text}
use Rattle.script_lang.specs.declared.command.Command.{Command}
use Rattle.script_lang.specs.declared.reply.Reply.{Reply}
use Rattle.script_lang.specs.Proper.{is_proper}
use Rattle.script_lang.specs.Replies.{first_text}
use Rattle.script_lang.specs.Script.{script}
use Rattle.tap_model.specs.declared.session.Session.{Session}
use Rattle.tap_model.specs.Sessions.{no_session}
use Rattle.tap_model.specs.Queries.{box_of_query}
use Rattle.tap_model.specs.Replies.{answer_of}
use Rattle.tap_model.specs.Stories.{StoryStep, GivesUp, next_tables}
use Rattle.tap_model.specs.Sound.{IsSound, IsSoundFor, IsStore}

-- a new session over no rows is sound; each step from a sound point leads to a sound point; and each step from a point that is
-- sound for its command leads to a point that is sound for each command that the point before was sound for
pub record StepsAreSound : Type 0 where
  pub first : IsSound no_rows no_session
  pub next :
      (tables : Tables) (session : Session) (command : Command) (reply : Reply) (tables' : Tables) (session' : Session)
      → StoryStep tables session command reply tables' session' → IsSound tables session → IsSound tables' session'
  pub each :
      (tables : Tables) (session : Session) (command : Command) (reply : Reply) (tables' : Tables) (session' : Session)
      → StoryStep tables session command reply tables' session' → IsSoundFor command tables session
      → (other : Command) → IsSoundFor other tables session → IsSoundFor other tables' session'

-- the change of an answer has rows; at a point that is sound for the command they stand in order behind those of the tables
abbrev pub AcceptedChangesFit : Type 0
AcceptedChangesFit =
    (tables : Tables) (session : Session) (command : Command) (change : Change)
    → (answer_of command session tables).change ≡ Some change
    → (change ≢ Docs []) × (IsSoundFor command tables session → fits tables change ≡ true)

-- a point is sound if and only if it is sound for every command
abbrev pub SoundIsForEachCommand : Type 0
SoundIsForEachCommand =
    (tables : Tables) (session : Session) → IsSound tables session ↔ ((command : Command) → IsSoundFor command tables session)

-- a session may begin with the tables that any other left
abbrev pub SessionsLeaveStores : Type 0
SessionsLeaveStores = (tables : Tables) (session : Session) → IsSound tables session → IsStore tables

-- each step leads to the tables after its reply
abbrev pub StepsLeadToNextTables : Type 0
StepsLeadToNextTables =
    (tables : Tables) (session : Session) (command : Command) (reply : Reply) (tables' : Tables) (session' : Session)
    → StoryStep tables session command reply tables' session' → tables' ≡ next_tables command reply session tables

-- rows that stand in order, texts of queries and filters that can be read, and what each query has delivered is its box
pub record AreBoxed (tables : Tables) : Type 0 where
  pub rows : is_well_formed tables ≡ true
  pub queries : Each (λ query. IsOk (condition_of (condition_text query.source))) tables.queries
  pub filters : Each (λ filter. IsOk (rules_of filter.source)) tables.filters
  pub boxes : Each (λ query. delivered query.num.0 tables ≡ box_of_query query tables) tables.queries

-- a session may begin with tables if and only if they are so
abbrev pub StoresAreBoxed : Type 0
StoresAreBoxed = (tables : Tables) → IsStore tables ↔ AreBoxed tables

-- the commands of each script are proper, and no proper command has the answer `no 18`; so a step of a proper command with
-- this reply is out of memory
pub record AnswersAreNotMemory : Type 0 where
  pub proper : (bytes : List ℕ) → list_all is_proper (script bytes) ≡ true
  pub apart : (tables : Tables) (session : Session) (command : Command) → is_proper command ≡ true
      → first_text (answer_of command session tables).reply ≡ codes "no 18" → ⊥
  pub step : (tables : Tables) (session : Session) (command : Command) (reply : Reply) (tables' : Tables) (session' : Session)
      → is_proper command ≡ true → StoryStep tables session command reply tables' session' → first_text reply ≡ codes "no 18"
      → GivesUp tables session command reply tables' session'
