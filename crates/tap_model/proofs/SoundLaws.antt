-- Each step keeps what holds of the tables and the session, a session may begin so, and it leaves tables to begin with.
use Rattle.std.proofs.Common.{◌≡◌, ◌∙◌, refl, arith, ℤ, pos, [], true, false, Option, Some, None, inl, inr, if◌then◌else◌}
use Rattle.std.proofs.lemmas.Int.{ints}
use Rattle.tap_rows.specs.declared.tables.Tables.{Tables}
use Rattle.tap_rows.specs.declared.change.Change.{Change}
use Rattle.tap_rows.specs.declared.rows.QueryRow.{QueryRow}
use Rattle.tap_rows.specs.Tables.{no_rows}
use Rattle.tap_rows.specs.WellFormed.{is_well_formed}
use Rattle.tap_rows.specs.Fits.{fits}
use Rattle.tap_rows.proofs.KeptLaws.{kept-empty}
use Rattle.tap_rows.proofs.FitsLaws.{fits-is}
use Rattle.script_lang.specs.declared.command.Command.{Command}
use Rattle.script_lang.specs.declared.command.Command.TheVariants.{Run}
use Rattle.script_lang.specs.declared.reply.Reply.{Reply}
use Rattle.restart_core.specs.Starts.{is_from_now}
use Rattle.tap_model.specs.declared.session.Session.{Session}
use Rattle.tap_model.specs.Sessions.{no_session, moment_or_zero, or_zero}
use Rattle.tap_model.specs.Queries.{query_truth, start_of}
use Rattle.tap_model.specs.Replies.{answer_of, tables_after}
use Rattle.tap_model.specs.Stories.{StoryStep}
use Rattle.tap_model.specs.Sound.{IsSound, IsSoundFor, IsStore, IsNow, asks_deliveries}
use Rattle.tap_model.proofs.AnswerLaws.{truth-of-second}
use Rattle.tap_model.proofs.HeldLaws.{Held, answer-held}
use Rattle.tap_model.proofs.FitLaws.{accepted_fits}
use Rattle.tap_model.proofs.TextLaws.{answer-read}
use Rattle.tap_base.specs.Numbers.{IsMoment}

-- a sound point is sound for every command
pub sound-for : (command : Command) (tables : Tables) (session : Session) → IsSound tables session → IsSoundFor command tables session
sound-for command tables session sound = record {
  kept = λ asks. sound.kept;
  now = sound.now;
  formed = sound.formed;
  sources = sound.sources;
  rules = sound.rules;
  user = sound.user;
}

-- a point that is sound for a command that looks at deliveries is sound
pub sound-asked : (command : Command) (tables : Tables) (session : Session) → asks_deliveries command ≡ true
    → IsSoundFor command tables session → IsSound tables session
sound-asked command tables session asks sound = record {
  kept = sound.kept asks;
  now = sound.now;
  formed = sound.formed;
  sources = sound.sources;
  rules = sound.rules;
  user = sound.user;
}

-- the rows stand in order after a command
answer-formed : (command : Command) (session : Session) (tables : Tables) → IsSoundFor command tables session
    → is_well_formed (tables_after (answer_of command session tables).change tables) ≡ true
answer-formed command session tables sound =
    go (answer_of command session tables).change (λ change e. accepted_fits tables session command change sound e) where
      go : (o : Option Change) → ((change : Change) → o ≡ Some change → fits tables change ≡ true)
          → is_well_formed (tables_after o tables) ≡ true
      go None fit = sound.formed
      go (Some change) fit = fits-is tables change sound.formed ∙ fit change refl

-- what an answer leaves is sound for a command that the point before was sound for
answer-sound : (command next : Command) (session : Session) (tables : Tables) → IsSoundFor command tables session
    → IsSoundFor next tables session
    → IsSoundFor next (tables_after (answer_of command session tables).change tables) (answer_of command session tables).session
answer-sound command next session tables sound for-next =
    let before : Held (asks_deliveries next ≡ true) tables session = record { kept = for-next.kept; now = for-next.now } in
    let held = answer-held command session tables before in
    let read = answer-read command session tables (record { sources = sound.sources; rules = sound.rules; user = sound.user }) in
    record {
      kept = held.kept;
      now = held.now;
      formed = answer-formed command session tables sound;
      sources = read.sources;
      rules = read.rules;
      user = read.user;
    }

-- so does each step of a story
pub step-sound-for : (tables : Tables) (session : Session) (command : Command) (reply : Reply) (tables' : Tables) (session' : Session)
    (next : Command) → StoryStep tables session command reply tables' session' → IsSoundFor command tables session
    → IsSoundFor next tables session → IsSoundFor next tables' session'
step-sound-for tables session command reply tables' session' next (inl follows) sound for-next =
    rw (follows.tables_are, follows.session_is) (answer-sound command next session tables sound for-next)
step-sound-for tables session command reply tables' session' next (inr stays) sound for-next =
    rw (stays.tables_are, stays.session_is) for-next

-- each step from a sound point leads to a sound point
pub step-sound : (tables : Tables) (session : Session) (command : Command) (reply : Reply) (tables' : Tables) (session' : Session)
    → StoryStep tables session command reply tables' session' → IsSound tables session → IsSound tables' session'
step-sound tables session command reply tables' session' step sound =
    sound-asked (Run []) tables' session' refl (step-sound-for tables session command reply tables' session' (Run []) step
    (sound-for command tables session sound) (sound-for (Run []) tables session sound))

-- the present moment is one
pub moment_or_zero-moment : (tables : Tables) (session : Session) → IsSound tables session → IsMoment (moment_or_zero session)
moment_or_zero-moment tables session sound = go session.moment sound.now where
  go : (moment : Option ℤ) → IsNow moment tables → IsMoment (or_zero moment)
  go None now = (omega (arith, ints), omega (arith, ints))
  go (Some m) now = now.0

-- a query's start is a moment, since its arrival is
pub start-moment : (query : QueryRow) → IsMoment query.arrival → IsMoment (start_of query)
unfolding start_of
start-moment query range = elim (is_from_now query.source)
    as (λ b. IsMoment (if b then query.arrival else pos 0)) [ true ↦ range | false ↦ (omega (arith, ints), omega (arith, ints)) ]

-- a new session over no rows begins so
pub sound-start : IsSound no_rows no_session
sound-start =
    record { kept = kept-empty query_truth start_of truth-of-second; now = tt; formed = refl; sources = tt; rules = tt; user = tt }

-- a session leaves tables that another may begin with
pub sound-store : (tables : Tables) (session : Session) → IsSound tables session → IsStore tables
sound-store tables session sound =
    record { kept = sound.kept; now = tt; formed = sound.formed; sources = sound.sources; rules = sound.rules; user = tt }
