-- What holds at each point of a story, of the engine and of the keeper.
use Rattle.std.specs.Prelude.{ℕ, ◌≡◌, List, [], ◌∷◌, false}
use Rattle.std.specs.Str.{IsUtf8}
use Rattle.keeper_core.specs.Keeping.{IsDurable}
use Rattle.keeper_core.specs.States.{IsFree, IsAttached}
use Rattle.keeper_core.specs.declared.keeper.Keeper.{Ghosts}
use Rattle.tap_rows.specs.declared.tables.Tables.{Tables}
use Rattle.script_lang.specs.declared.command.Command.{Command}
use Rattle.script_lang.specs.declared.reply.Reply.{Reply}
use Rattle.tap_model.specs.declared.session.Session.{Session}
use Rattle.tap_model.specs.Sound.{IsSound}
use Rattle.tap_model.specs.Stories.{Story}
use Rattle.tap_engine.specs.declared.engine.Engine.{Engine}
use Rattle.tap_engine.specs.Standing.{Represents}
use Rattle.tap_engine.specs.Ready.{IsReady}

-- the tables and the session are sound at each point of a story: before each command, and at the end
abbrev pub SoundAlong :
    (tables : Tables) (session : Session) (commands : List Command) (replies : List Reply) (tables' : Tables) (session' : Session)
    → Story tables session commands replies tables' session' → Type 0
SoundAlong tables session [] [] tables' session' story = IsSound tables' session'
SoundAlong tables session (command ∷ commands) (reply ∷ replies) tables' session' story =
    IsSound tables session × SoundAlong story.0 story.1 commands replies tables' session' story.3
SoundAlong tables session [] (reply ∷ replies) tables' session' story = ⊥
SoundAlong tables session (command ∷ commands) [] tables' session' story = ⊥

-- a keeper can be attached to a path: it is free, and the path is UTF-8
pub record CanOpen {K : Type 0} (g : Ghosts K) (keeper : K) (path : List ℕ) : Type 0 where
  pub free : IsFree g keeper
  pub text : IsUtf8 path

-- an engine and its keeper can perform a command
pub record CanPerform {K : Type 0} (g : Ghosts K) (engine : Engine) (keeper : K) : Type 0 where
  pub ready : IsReady engine
  pub running : engine.stopped ≡ false
  pub attached : IsAttached g keeper

-- the engine represents these tables, which are sound in its session; the keeper tells them, and a crash leaves exactly these
pub record EngineMatchesKeeper (engine : Engine) (tells leaves : Tables → Type 0) (tables : Tables) : Type 0 where
  pub represents : Represents engine tables
  pub sound : IsSound tables engine.session
  pub holds : IsDurable tells leaves tables
