-- What a crash leaves: the tables after some first commands.
use Rattle.std.specs.Prelude.{ℕ, ℤ, ◌≡◌, ◌≤◌, ◌-◌, List, ◌++◌, length, take, Option}
use Rattle.std.specs.List.{flat_map}
use Rattle.std.specs.Io.KnownBytes.{Consumes, Appends}
use Rattle.tap_rows.specs.declared.tables.Tables.{Tables}
use Rattle.script_lang.specs.declared.command.Command.{Command}
use Rattle.script_lang.specs.declared.reply.Reply.{Reply}
use Rattle.script_lang.specs.Replies.{reply_bytes}
use Rattle.tap_model.specs.declared.session.Session.{Session}
use Rattle.tap_model.specs.Sessions.{no_session}
use Rattle.tap_model.specs.Stories.{Story}
use Rattle.tap_top.specs.declared.top.TheConstants.{SCRIPT_LIMIT}
use Rattle.tap_top.specs.Premises.{IfKnown}
use Rattle.tap_top.specs.Statuses.{AreFirst}

-- x is the tables after the first k of these commands with these replies, for a k that is at least n
pub record IsPrefixOfStory (tables : Tables) (commands : List Command) (replies : List Reply) (n : ℕ) (x : Tables) : Type 0 where
  pub k : ℕ
  pub enough : n ≤ k
  pub within : k ≤ length commands
  pub session : Session
  pub story : Story tables no_session (take k commands) (take k replies) x session

-- the first n replies lie whole in these bytes
pub record AreFullyWritten (n : ℕ) (replies : List Reply) (bytes : List ℕ) : Type 0 where
  pub rest : List ℕ
  pub is : bytes ≡ flat_map reply_bytes (take n replies) ++ rest

-- these bytes are a front of the bytes of these replies, and all replies but the last lie whole in them
pub record AreWrittenReplies (replies : List Reply) (bytes : List ℕ) : Type 0 where
  pub rest : List ℕ
  pub front : flat_map reply_bytes replies ≡ bytes ++ rest
  pub most : AreFullyWritten (length replies - 1) replies bytes

-- a crash leaves the tables after some first commands of the script, with all those among them whose replies lie whole in
-- what was written; over a store of a known version nothing else was written than these replies, of which the last may be
-- cut off or left out
pub record LeavesPrefix (tables : Tables) (left left' out out' : Option (List ℕ))
    (versions : ℤ → Type 0) (leaves : Tables → Type 0) : Type 0 where
  pub bytes : List ℕ
  pub taken : Consumes left left' bytes
  pub commands : List Command
  pub first : AreFirst commands (take SCRIPT_LIMIT bytes) left'
  pub replies : List Reply
  pub tables' : Tables
  pub session' : Session
  pub story : Story tables no_session commands replies tables' session'
  pub written : List ℕ
  pub put : Appends out out' written
  pub said : IfKnown versions (AreWrittenReplies replies written)
  pub each : (n : ℕ) → n ≤ length replies → AreFullyWritten n replies written → (x : Tables) → leaves x
      → IsPrefixOfStory tables commands replies n x
