-- An engine as a session begins.
use Rattle.std.specs.Prelude.{◌≡◌, false}
use Rattle.tap_rows.specs.declared.tables.Tables.{Tables}
use Rattle.tap_model.specs.Sessions.{no_session}
use Rattle.tap_engine.specs.declared.engine.Engine.{Engine}
use Rattle.tap_engine.specs.Standing.{Represents}
use Rattle.tap_engine.specs.Ready.{IsReady}

-- an engine over these tables that has performed no command
pub record IsNewOver (tables : Tables) (engine : Engine) : Type 0 where
  -- the engine represents the tables
  pub represents : Represents engine tables
  -- the session has neither a moment nor a user
  pub session : engine.session ≡ no_session
  -- the engine isn't stopped
  pub running : engine.stopped ≡ false
  -- the engine is ready for a command
  pub ready : IsReady engine
