-- Commands that were answered.
use Rattle.std.specs.Prelude.{ℕ, ◌≡◌, ◌≤◌, ◌⊎◌, ◌&&◌, List, [], ◌∷◌, ◌++◌, length, take, Bool, Option, None}
use Rattle.std.specs.List.{flat_map, list_all}
use Rattle.std.specs.Io.KnownBytes.{Appends}
use Rattle.tap_rows.specs.declared.tables.Tables.{Tables}
use Rattle.script_lang.specs.declared.command.Command.{Command}
use Rattle.script_lang.specs.declared.reply.Reply.{Reply}
use Rattle.script_lang.specs.Replies.{reply_bytes, is_accepted}
use Rattle.tap_model.specs.declared.session.Session.{Session}
use Rattle.tap_model.specs.Verdicts.{verdict}
use Rattle.tap_model.specs.Replies.{answer_of, tables_after}
use Rattle.tap_model.specs.Stories.{Story}
use Rattle.keeper_core.specs.declared.keeper.Keeper.{Ghosts}
use Rattle.tap_engine.specs.declared.engine.Engine.{Engine}
use Rattle.tap_engine.specs.Answering.{AddsRows}
use Rattle.tap_top.specs.Points.{SoundAlong}
use Rattle.tap_top.specs.Premises.{IsDurableIn, FromEngine}

-- the commands were answered as in a story, their replies were taken, and this holds of the tables at its end
pub record Answered (tables : Tables) (session : Session) (commands : List Command)
    (out out' : Option (List ℕ)) (Ends : Tables → Type 0) (session' : Session) (all_ok : Bool) : Type 0 where
  pub replies : List Reply
  pub tables' : Tables
  pub story : Story tables session commands replies tables' session'
  pub sound : SoundAlong tables session commands replies tables' session' story
  pub written : Appends out out' (flat_map reply_bytes replies)
  pub ok : all_ok ≡ list_all is_accepted replies
  pub ends : Ends tables'

-- the commands and one more were answered as in a story, and this holds of the tables at its end; their replies were taken,
-- and of its own the first n bytes
pub record CutOff (tables : Tables) (session : Session) (done : List Command) (last : Command)
    (out out' : Option (List ℕ)) (Ends : Tables → Type 0) : Type 0 where
  pub replies : List Reply
  pub reply : Reply
  pub tables' : Tables
  pub session' : Session
  pub story : Story tables session (done ++ last ∷ []) (replies ++ reply ∷ []) tables' session'
  pub sound : SoundAlong tables session (done ++ last ∷ []) (replies ++ reply ∷ []) tables' session' story
  pub n : ℕ
  pub within : n ≤ length (reply_bytes reply)
  pub written : Appends out out' (flat_map reply_bytes replies ++ take n (reply_bytes reply))
  pub ends : Ends tables'

-- the next command is accepted and adds rows, and a crash leaves these tables or those with the rows that it adds
pub record MayHaveCommitted (leaves : Tables → Type 0) (next : Command) (session : Session) (tables : Tables) : Type 0 where
  pub accepted : verdict next session tables ≡ None
  pub adds : AddsRows next session tables
  pub either : (x : Tables) → leaves x → (x ≡ tables) ⊎ (x ≡ tables_after (answer_of next session tables).change tables)

-- the commands were answered and their replies were taken; the commit of the next one failed
pub record Uncommitted (tables : Tables) (session : Session) (done : List Command) (next : Command)
    (out out' : Option (List ℕ)) (leaves : Tables → Type 0) : Type 0 where
  pub session' : Session
  pub all_ok : Bool
  pub answered : Answered tables session done out out' (MayHaveCommitted leaves next session') session' all_ok

-- the last commands were answered; whether all replies begin `ok`, those before them too
pub record Closed (tables : Tables) (session : Session) (commands : List Command)
    (out out' : Option (List ℕ)) (Ends : Tables → Type 0) (before all_ok : Bool) : Type 0 where
  pub session' : Session
  pub ok : Bool
  pub answered : Answered tables session commands out out' Ends session' ok
  pub all_is : all_ok ≡ (before && ok)

-- there was one command more, and it was cut off as Cut says
pub record ClosedCut (commands : List Command) (Cut : List Command → Command → Type 0) : Type 0 where
  pub last : Command
  pub only : commands ≡ last ∷ []
  pub cut : Cut [] last

-- a call cut commands short at a failed put or a failed commit, over tables on which the engine and the keeper agreed; At says of
-- which command that is true, Put and Keeper say that the put or the commit failed
pub record CutsShort {K : Type 0} (g : Ghosts K) (engine : Engine) (old new : K)
    (out out' : Option (List ℕ)) (At : (List Command → Command → Type 0) → Type 0) (Put Keeper : Type 0) : Type 0 where
  -- if a put failed, the tables with the rows of the last command are durable, and its reply was put in part
  pub put : Put → FromEngine g engine old new (λ t.
      At (λ done last. CutOff t engine.session done last out out' (IsDurableIn g new)))
  -- if a commit failed, the replies to the commands before were put
  pub uncommitted : Keeper → FromEngine g engine old new (λ t.
      At (λ done next. Uncommitted t engine.session done next out out' (g.may_leave new)))
