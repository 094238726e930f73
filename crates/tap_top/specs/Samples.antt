-- What a sample did: its commands in place of a script's, and at the end the lines that sum them up.
use Rattle.std.specs.Prelude.{ℕ, ◌≡◌, ◌≢◌, ◌≤◌, ◌+◌, ◌^◌, ◌⊎◌, List, [], ◌∷◌, ◌++◌, length, take, Bool, Option, if◌then◌else◌}
use Rattle.std.specs.List.{list_all}
use Rattle.std.specs.Io.KnownBytes.{Appends}
use Rattle.tap_rows.specs.declared.tables.Tables.{Tables}
use Rattle.tap_rows.specs.Kept.{Each}
use Rattle.script_lang.specs.declared.command.Command.{Command}
use Rattle.script_lang.specs.declared.refusal.Refusal.TheVariants.{Memory}
use Rattle.script_lang.specs.declared.reply.Reply.{Reply}
use Rattle.script_lang.specs.declared.reply.Reply.TheVariants.{Ran, No}
use Rattle.script_lang.specs.Replies.{is_accepted}
use Rattle.sample_gen.specs.Samples.{sample_of}
use Rattle.sample_gen.specs.Summaries.{summary_lines}
use Rattle.sample_gen.specs.declared.summary.Summary.{Summary}
use Rattle.tap_model.specs.declared.session.Session.{Session}
use Rattle.tap_model.specs.Sessions.{no_session}
use Rattle.tap_model.specs.Stories.{Story}
use Rattle.tap_top.specs.declared.tally.Tally.{Tally}
use Rattle.tap_top.specs.Points.{SoundAlong}
use Rattle.tap_top.specs.Answers.{MayHaveCommitted}
use Rattle.tap_top.specs.Crashes.{IsPrefixOfStory}
use Rattle.tap_base.specs.Prefixes.{IsPrefix}

-- a reply that refuses counts once
abbrev pub refusals_in : Reply → ℕ
refusals_in reply = if is_accepted reply then 0 else 1

-- what a run delivered
abbrev pub hits_in : Reply → ℕ
hits_in (Ran ordinal moment hits) = length hits
hits_in reply = 0

-- with this reply a count would pass the end of its type
abbrev pub PassesEnd : Tally → Reply → Type 0
PassesEnd tally reply = (2 ^ 64 ≤ tally.refused + refusals_in reply) ⊎ (2 ^ 64 ≤ tally.delivered + hits_in reply)

-- the sum over all replies
abbrev pub reply_total : (Reply → ℕ) → List Reply → ℕ
reply_total count [] = 0
reply_total count (reply ∷ replies) = count reply + reply_total count replies

-- the commands were performed as in a story, and this holds of their replies and of the tables at its end
pub record Performed (tables : Tables) (session : Session) (commands : List Command)
    (Ends : List Reply → Tables → Type 0) (session' : Session) : Type 0 where
  pub replies : List Reply
  pub tables' : Tables
  pub story : Story tables session commands replies tables' session'
  pub sound : SoundAlong tables session commands replies tables' session' story
  pub ends : Ends replies tables'

-- no reply says that a command was out of memory
abbrev pub NeverOutOfMemory : List Reply → Type 0
NeverOutOfMemory replies = Each (λ reply. reply ≢ No Memory) replies

-- the counts of replies, none of which says that a command was out of memory
pub record Counted (tally : Tally) (replies : List Reply) : Type 0 where
  pub refused : tally.refused ≡ reply_total refusals_in replies
  pub delivered : tally.delivered ≡ reply_total hits_in replies
  pub none : NeverOutOfMemory replies

-- the counts of replies, added to those before; none of the replies says that a command was out of memory
pub record Adds (before after : Tally) (replies : List Reply) : Type 0 where
  pub refused : after.refused ≡ before.refused + reply_total refusals_in replies
  pub delivered : after.delivered ≡ before.delivered + reply_total hits_in replies
  pub none : NeverOutOfMemory replies

-- no reply but the last says that a command was out of memory
pub record LastOutOfMemory (replies : List Reply) : Type 0 where
  pub most : List Reply
  pub last : List Reply
  pub split : replies ≡ most ++ last
  pub none : NeverOutOfMemory most
  pub few : length last ≤ 1

-- some first commands were performed, until one was out of memory
pub record FirstPerformed (tables : Tables) (session : Session) (commands : List Command) (Ends : Tables → Type 0) : Type 0 where
  pub done : List Command
  pub first : IsPrefix done commands
  pub session' : Session
  pub performed : Performed tables session done (λ replies tables'. LastOutOfMemory replies × Ends tables') session'

-- some first commands were performed, and the commit of the next one failed
pub record NextUncommitted (tables : Tables) (session : Session) (commands : List Command) (leaves : Tables → Type 0) : Type 0 where
  pub done : List Command
  pub next : Command
  pub first : IsPrefix (done ++ next ∷ []) commands
  pub session' : Session
  pub performed :
      Performed tables session done (λ replies tables'. NeverOutOfMemory replies × MayHaveCommitted leaves next session' tables') session'

-- the summary of a sample with n messages: of these replies, and of the tables at the end
abbrev pub summary_of : ℕ → List Reply → Tables → Summary
summary_of n replies tables = record {
  messages = n;
  commands = length (sample_of n);
  refused = reply_total refusals_in replies;
  documents = length tables.docs;
  notes = length tables.notes;
  delivered = reply_total hits_in replies;
}

-- statuses 0 and 1: all commands of the sample were performed, none was out of memory, and the lines of its summary were put
pub record Sampled (tables : Tables) (n : ℕ) (out out' : Option (List ℕ)) (Ends : Tables → Type 0) (all_ok : Bool) : Type 0 where
  pub session' : Session
  pub performed : Performed tables no_session (sample_of n) (λ replies tables'. NeverOutOfMemory replies × Ends tables') session'
  pub written : Appends out out' (summary_lines (summary_of n performed.replies performed.tables'))
  pub ok : all_ok ≡ list_all is_accepted performed.replies

-- the first k bytes of a text were put
pub record FrontPut (text : List ℕ) (out out' : Option (List ℕ)) : Type 0 where
  pub k : ℕ
  pub written : Appends out out' (take k text)

-- status 4: all commands of the sample were performed, none was out of memory, and of the lines of its summary the first
-- bytes were put
pub record SampledCut (tables : Tables) (n : ℕ) (out out' : Option (List ℕ)) (Ends : Tables → Type 0) : Type 0 where
  pub session' : Session
  pub performed : Performed tables no_session (sample_of n) (λ replies tables'. NeverOutOfMemory replies × Ends tables') session'
  pub cut : FrontPut (summary_lines (summary_of n performed.replies performed.tables')) out out'

-- a crash leaves the tables after some first commands
pub record LeavesFirst (tables : Tables) (commands : List Command) (leaves : Tables → Type 0) : Type 0 where
  pub done : List Command
  pub first : IsPrefix done commands
  pub replies : List Reply
  pub tables' : Tables
  pub session' : Session
  pub story : Story tables no_session done replies tables' session'
  pub each : (x : Tables) → leaves x → IsPrefixOfStory tables done replies 0 x

-- a crash leaves exactly these tables
abbrev pub LeavesOnly : Tables → (Tables → Type 0) → Type 0
LeavesOnly tables leaves = (x : Tables) → leaves x → x ≡ tables
