-- How a command is answered before its rows are committed, and how its rows are undone.
use Rattle.std.specs.Prelude.{ℕ, ⊤, ◌≡◌, ◌<◌, ◌≤◌, length, take, true, Option, Some, None, Result, Ok, Err, OnSome}
use Rattle.tap_rows.specs.declared.tables.Tables.{Tables}
use Rattle.tap_rows.specs.declared.change.Change.{Change}
use Rattle.keeper_core.specs.declared.fault.CommitFault.{CommitFault}
use Rattle.keeper_core.specs.declared.fault.CommitFault.TheVariants as C
use Rattle.row_index.specs.Rows.{without_last_note}
use Rattle.script_lang.specs.declared.command.Command.{Command}
use Rattle.script_lang.specs.declared.reply.Reply.{Reply}
use Rattle.script_lang.specs.declared.reply.Reply.TheVariants.{No}
use Rattle.script_lang.specs.declared.refusal.Refusal.{Refusal}
use Rattle.script_lang.specs.declared.refusal.Refusal.TheVariants.{Memory}
use Rattle.script_lang.specs.Replies.{HasShortNames, is_accepted}
use Rattle.tap_model.specs.declared.session.Session.{Session}
use Rattle.tap_model.specs.Verdicts.{verdict}
use Rattle.tap_model.specs.Replies.{answer_of, tables_after}
use Rattle.tap_model.specs.Stories.{Refuses}
use Rattle.tap_kept.specs.declared.cached_query.CachedQuery.{CachedQuery}
use Rattle.tap_kept.specs.Keeping.{without_run}
use Rattle.tap_kept.specs.BoxFronts.{AreFrontsOfBoxes}
use Rattle.vote_scores.specs.Tally as Tally
use Rattle.tap_engine.specs.declared.engine.Engine.{Engine}
use Rattle.tap_engine.specs.declared.fault.EngineFault.{EngineFault}
use Rattle.tap_engine.specs.declared.fault.EngineFault.TheVariants.{KeeperFailed}
use Rattle.tap_engine.specs.declared.prepared.Prepared.{Prepared}
use Rattle.tap_engine.specs.Standing.{Represents, OverTables, OverSoundFor}
use Rattle.tap_engine.specs.Ready.{IsReady}
use Rattle.tap_engine.specs.declared.undo.Undo.{Undo}
use Rattle.tap_engine.specs.declared.undo.Undo.TheVariants.{Nothing, Docs, Note, Query, Filter, Run}

-- the command isn't refused; its reply, the rows that it adds and the session after it are those of the model's answer
pub record Answers (tables : Tables) (session : Session) (command : Command) (reply : Reply) (change : Option Change) (session' : Session) :
    Type 0 where
  pub fine : verdict command session tables ≡ None
  pub reply_is : reply ≡ (answer_of command session tables).reply
  pub change_is : change ≡ (answer_of command session tables).change
  pub session_is : session' ≡ (answer_of command session tables).session

-- over tables that are sound for the command, what was prepared and the session after it are the model's answer to it
abbrev pub AnswersAsModel : Engine → Command → Engine → Prepared → Type 0
AnswersAsModel before command engine made =
    OverSoundFor before command (λ t. Answers t before.session command made.reply made.change engine.session)

-- over tables that are sound for a command that only reads, the reply to it is the model's
abbrev pub ReadsAsModel : Engine → Command → Reply → Type 0
ReadsAsModel engine command reply = OverSoundFor engine command (λ t. Answers t engine.session command reply None engine.session)

-- over tables that are sound for the command, the engine represents those with the rows that were prepared
abbrev pub RepresentsNext : Engine → Command → Engine → Prepared → Type 0
RepresentsNext before command engine made = OverSoundFor before command (λ t. Represents engine (tables_after made.change t))

-- over represented tables the model refuses the command so; or it is out of memory, and the command may need memory
abbrev pub RefusesAsModel : Engine → Command → Refusal → Type 0
RefusesAsModel engine command refusal = OverTables engine (λ t. Refuses refusal command engine.session t)

-- over tables that are sound for the command, the model refuses it so
abbrev pub RefusesSoundly : Engine → Command → Refusal → Type 0
RefusesSoundly engine command refusal = OverSoundFor engine command (λ t. Refuses refusal command engine.session t)

-- the model's answer to the command adds rows
pub record AddsRows (command : Command) (session : Session) (tables : Tables) : Type 0 where
  pub change : Change
  pub change_is : (answer_of command session tables).change ≡ Some change

-- the engine without the rows of a command
abbrev pub undone : Undo → Engine → Engine
undone Nothing engine = engine
undone (Docs len bytes) engine = record engine { index = record engine.index { docs = take len engine.index.docs }; bytes = bytes }
undone (Note bytes vote) engine =
    record engine { index = without_last_note engine.index; votes = Tally.without_vote vote engine.votes; bytes = bytes }
undone (Query len owners bytes) engine =
    record engine { queries = take len engine.queries; owners = take owners engine.owners; bytes = bytes }
undone (Filter len owners bytes) engine =
    record engine { filters = take len engine.filters; owners = take owners engine.owners; bytes = bytes }
undone (Run place covered runs entries run_count pick_count) engine =
    record engine { queries = without_run place covered runs entries engine.queries; run_count = run_count; pick_count = pick_count }

-- what undoes the next run of the query at a place, by what is cached of it
abbrev pub undo_run : Engine → ℕ → CachedQuery → Undo
undo_run engine place kept = Run place kept.covered kept.runs (length kept.entries) engine.run_count engine.pick_count

-- the note that is undone with its vote, or the query whose run is undone, is there
abbrev pub CanUndo : Undo → Engine → Type 0
CanUndo (Note bytes vote) engine = (0 < length engine.index.notes) × Tally.CanUndoVote vote engine.votes
CanUndo (Run place covered runs entries run_count pick_count) engine = place < length engine.queries
CanUndo undo engine = ⊤

-- the engine is unchanged but for its buffer of hits: that has room for no fewer, and if its fronts were in the boxes of their
-- queries, they are
pub record IsUnchangedButHits (engine before : Engine) : Type 0 where
  pub same : engine ≡ record before { hits = engine.hits }
  pub room : before.hits.room ≤ engine.hits.room
  pub fronts : AreFrontsOfBoxes before.index.docs before.queries before.hits.fronts
      → AreFrontsOfBoxes before.index.docs before.queries engine.hits.fronts

-- the undo can be done, and gives the engine before it, except that its buffer of hits may have more room and other fronts
pub record UndoRestores (undo : Undo) (engine before : Engine) : Type 0 where
  pub there : CanUndo undo engine
  pub before_is : IsUnchangedButHits (undone undo engine) before

-- if rows were prepared, their undo gives the engine as it was before
abbrev pub IsUndoable : Engine → Engine → Prepared → Type 0
IsUndoable before engine made = OnSome made.change (UndoRestores made.undo engine before)

-- what was prepared for a command that isn't refused, and the engine after it, with its rows
pub record Prepares (before : Engine) (command : Command) (engine : Engine) (made : Prepared) : Type 0 where
  -- over tables that are sound for the command, its reply, its rows and the session are the model's answer
  pub answer : AnswersAsModel before command engine made
  -- the engine represents these tables with the rows
  pub represents : RepresentsNext before command engine made
  -- the rows can be undone
  pub undo : IsUndoable before engine made
  -- the engine is ready for the next command
  pub ready : IsReady engine
  -- the engine is stopped if and only if it was before
  pub running : engine.stopped ≡ before.stopped
  -- the names in the reply are no longer than names may be
  pub short : HasShortNames made.reply
  -- the reply begins `ok`
  pub accepted : is_accepted made.reply ≡ true

-- the reply to a command that only reads and isn't refused
pub record IsReplyTo (engine : Engine) (command : Command) (reply : Reply) : Type 0 where
  -- over tables that are sound for the command, the reply is the model's
  pub answer : ReadsAsModel engine command reply
  -- the names in the reply are no longer than names may be
  pub short : HasShortNames reply
  -- the reply begins `ok`
  pub accepted : is_accepted reply ≡ true

-- what is returned if the keeper didn't commit
abbrev pub fault_answer : CommitFault → Result Reply EngineFault
fault_answer C.Memory = Ok (No Memory)
fault_answer C.Failed = Err KeeperFailed

-- the engine after a commit that failed: stopped if the keeper failed
abbrev pub fault_engine : CommitFault → Engine → Engine
fault_engine C.Memory engine = engine
fault_engine C.Failed engine = record engine { stopped = true }
