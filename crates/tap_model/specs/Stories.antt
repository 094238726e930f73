-- What a list of commands does, one after another.
use Rattle.std.specs.Prelude.{◌≡◌, ◌⊎◌, List, [], ◌∷◌, false, Some, if◌then◌else◌}
use Rattle.tap_rows.specs.declared.tables.Tables.{Tables}
use Rattle.script_lang.specs.declared.command.Command.{Command}
use Rattle.script_lang.specs.declared.reply.Reply.{Reply}
use Rattle.script_lang.specs.declared.reply.Reply.TheVariants.{No}
use Rattle.script_lang.specs.Replies.{is_accepted}
use Rattle.script_lang.specs.declared.refusal.Refusal.{Refusal}
use Rattle.script_lang.specs.declared.refusal.Refusal.TheVariants.{Memory}
use Rattle.tap_model.specs.declared.session.Session.{Session}
use Rattle.tap_model.specs.Verdicts.{verdict, is_spared}
use Rattle.tap_model.specs.Replies.{answer_of, tables_after}

-- the reply, and the tables and the session after it, are those of the command's answer
pub record Follows (tables : Tables) (session : Session) (command : Command) (reply : Reply) (tables' : Tables) (session' : Session) :
    Type 0 where
  pub reply_is : reply ≡ (answer_of command session tables).reply
  pub tables_are : tables' ≡ tables_after (answer_of command session tables).change tables
  pub session_is : session' ≡ (answer_of command session tables).session

-- the reply is out of memory, and nothing changes; the command is none of those that need no memory
pub record GivesUp (tables : Tables) (session : Session) (command : Command) (reply : Reply) (tables' : Tables) (session' : Session) :
    Type 0 where
  pub reply_is : reply ≡ No Memory
  pub tables_are : tables' ≡ tables
  pub session_is : session' ≡ session
  pub not_spared : is_spared command session tables ≡ false

-- the tables after a command with this reply: those with its rows if it was accepted, else the same tables
abbrev pub next_tables : Command → Reply → Session → Tables → Tables
next_tables command reply session tables = if is_accepted reply then tables_after (answer_of command session tables).change tables
    else tables

-- one step of a story: the command is answered, or the program is out of memory
abbrev pub StoryStep : Tables → Session → Command → Reply → Tables → Session → Type 0
StoryStep tables session command reply tables' session' =
    Follows tables session command reply tables' session' ⊎ GivesUp tables session command reply tables' session'

-- the commands, from these tables and this session on, get these replies and lead to those tables and that session
abbrev pub Story : Tables → Session → List Command → List Reply → Tables → Session → Type 0
Story tables session [] [] tables' session' = (tables' ≡ tables) × (session' ≡ session)
Story tables session (command ∷ commands) (reply ∷ replies) tables' session' =
    (mid : Tables) × (next : Session) × StoryStep tables session command reply mid next × Story mid next commands replies tables' session'
Story tables session [] (reply ∷ replies) tables' session' = ⊥
Story tables session (command ∷ commands) [] tables' session' = ⊥

-- this refusal may come: it is the command's verdict, or it is out of memory and the command may need memory
abbrev pub Refuses : Refusal → Command → Session → Tables → Type 0
Refuses refusal command session tables =
    (verdict command session tables ≡ Some refusal) ⊎ ((refusal ≡ Memory) × (is_spared command session tables ≡ false))
