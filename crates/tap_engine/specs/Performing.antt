-- What performing a command does: to the engine, and to the tables of its keeper.
use Rattle.std.specs.Prelude.{ℤ, ◌≡◌, ◌⊎◌, ◌↔◌, ◌≤◌, None, true, false, codes, Result, OnOk, OnErr, IsErr, IfOk}
use Rattle.tap_base.specs.Counts.{Rose}
use Rattle.tap_rows.specs.declared.tables.Tables.{Tables}
use Rattle.keeper_core.specs.Keeping.{IsDurable}
use Rattle.keeper_core.specs.declared.keeper.Keeper.{Ghosts}
use Rattle.script_lang.specs.declared.command.Command.{Command}
use Rattle.script_lang.specs.declared.reply.Reply.{Reply}
use Rattle.script_lang.specs.Proper.{is_proper}
use Rattle.script_lang.specs.Replies.{HasShortNames, first_text, is_accepted}
use Rattle.tap_model.specs.Replies.{answer_of, tables_after}
use Rattle.tap_model.specs.Stories.{StoryStep, GivesUp, next_tables}
use Rattle.tap_model.specs.Verdicts.{verdict}
use Rattle.tap_engine.specs.declared.engine.Engine.{Engine}
use Rattle.tap_engine.specs.declared.fault.EngineFault.{EngineFault}
use Rattle.tap_engine.specs.Standing.{Represents, OverSoundFor}
use Rattle.tap_engine.specs.Ready.{IsReady}
use Rattle.tap_engine.specs.Answering.{AddsRows, IsUnchangedButHits}

-- the reply to a command and the engine after it, over all tables that the engine represents and that are sound for the command
pub record Performs (before : Engine) (command : Command) (result : Result Reply EngineFault) (engine : Engine) : Type 0 where
  -- the reply and the session after it are a step of a story
  pub step : OverSoundFor before command (λ t. IfOk result (λ reply.
      StoryStep t before.session command reply (next_tables command reply before.session t) engine.session))
  -- the engine represents the tables after this step
  pub represents : OverSoundFor before command (λ t. IfOk result (λ reply.
      Represents engine (next_tables command reply before.session t)))
  -- a command of a script is replied `no 18` only out of memory
  pub memory : OverSoundFor before command (λ t. is_proper command ≡ true → IfOk result (λ reply. first_text reply ≡ codes "no 18"
      → GivesUp t before.session command reply (next_tables command reply before.session t) engine.session))
  -- a command that is refused or out of memory changes nothing in the engine but its buffer of hits
  pub refused : IfOk result (λ reply. is_accepted reply ≡ false → IsUnchangedButHits engine before)
  -- the names in the reply are no longer than names may be
  pub short : IfOk result (λ reply. HasShortNames reply)
  -- the engine is ready for the next command
  pub ready : OnOk result (IsReady engine)

-- what the keeper's store has after a command, if the keeper is honest then
pub record CommitsStep {K : Type 0} (g : Ghosts K) (before : Engine) (command : Command) (result : Result Reply EngineFault)
    (old new : K) : Type 0 where
  -- if tables were durable, those after the step are
  pub kept : OverSoundFor before command (λ t. g.honest new → IsDurable (g.tells old) (g.may_leave old) t →
      IfOk result (λ reply. IsDurable (g.tells new) (g.may_leave new) (next_tables command reply before.session t)))
  -- after a command that is refused or out of memory, the tables that it told are durable, whatever these are
  pub untouched : IfOk result (λ reply. is_accepted reply ≡ false → g.honest new → (t : Tables) → g.tells old t
      → IsDurable (g.tells new) (g.may_leave new) t)
  -- after a failure the model doesn't refuse the command, and a crash leaves the tables before it, or those with all its rows
  pub crash : OverSoundFor before command (λ t. g.honest new → IsDurable (g.tells old) (g.may_leave old) t
      → OnErr result ((verdict command before.session t ≡ None)
      × ((x : Tables) → g.may_leave new x → (x ≡ t) ⊎ (x ≡ tables_after (answer_of command before.session t).change t))))
  -- unless the keeper failed, it tells each version that it told before
  pub version : OverSoundFor before command (λ t. g.honest new → g.tells old t → g.stopped new ≡ false
      → (v : ℤ) → g.has_version old v → g.has_version new v)

-- when a command fails, and what is left of the keeper besides its tables
pub record FailsByKeeper {K : Type 0} (g : Ghosts K) (before : Engine) (command : Command) (result : Result Reply EngineFault)
    (engine : Engine) (old new : K) : Type 0 where
  -- only a command that adds rows fails
  pub adds : OverSoundFor before command (λ t. OnErr result (AddsRows command before.session t))
  -- it fails only if the keeper's count of faults rose
  pub cause : OnErr result (Rose (g.faults old) (g.faults new))
  -- it fails if and only if the keeper is stopped then
  pub stopped : (g.stopped new ≡ true) ↔ IsErr result
  -- the engine is stopped if and only if the keeper is
  pub halted : engine.stopped ≡ g.stopped new
  -- the keeper is attached to the same path
  pub same : (g.path new ≡ g.path old) × (g.attached new ≡ true)
  -- its count of faults doesn't fall
  pub later : g.faults old ≤ g.faults new
  -- unless it is stopped, the count is unchanged
  pub calm : g.stopped new ≡ false → g.faults new ≡ g.faults old
  -- if it is honest after, it was before
  pub honest : g.honest new → g.honest old
