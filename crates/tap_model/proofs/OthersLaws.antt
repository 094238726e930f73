-- A command that doesn't concern a user leaves what the user sees.
use Rattle.std.proofs.Common.{◌≡◌, ◌∙◌, ap, refl, ℕ, ℤ, List, [], ◌∷◌, ◌++◌, true, false, Option, Some, None, inl, inr}
use Rattle.std.specs.Option.{option_map}
use Rattle.std.specs.Str.{bytes_eq}
use Rattle.tap_base.specs.Numbers.{moment_of}
use Rattle.tap_rows.specs.declared.tables.Tables.{Tables}
use Rattle.tap_rows.specs.declared.rows.QueryRow.{QueryRow}
use Rattle.tap_rows.specs.Deliveries.{next_run}
use Rattle.script_lang.specs.declared.command.Command.{Command}
use Rattle.script_lang.specs.declared.command.Command.TheVariants.{At, AsUser, Mail, Mbox, AddNote, Define, Run, BoxOf, ListOf, Filter}
use Rattle.script_lang.specs.declared.command.Command.TheVariants.{Explain, Ask, Wake, ScoresOf, DigestOf, Find, Bad}
use Rattle.script_lang.specs.declared.refusal.Refusal.{Refusal}
use Rattle.script_lang.specs.declared.refusal.Refusal.TheVariants.{NoUser}
use Rattle.restart_core.specs.Starts.{stored_source}
use Rattle.tap_model.specs.declared.session.Session.{Session}
use Rattle.tap_model.specs.Sessions.{moment_or_zero, user_of, or_empty}
use Rattle.tap_model.specs.Queries.{query_named}
use Rattle.tap_model.specs.Verdicts.{verdict, missing, no_moment, no_user, block_text}
use Rattle.tap_model.specs.Replies.{Answer, answer_of, answer_by, accepted, tables_after, next_query, next_filter, run_query, show_box}
use Rattle.tap_model.specs.Replies.{show_list, show_lines, show_wake, show_digest, ask_at}
use Rattle.tap_model.specs.Stories.{StoryStep}
use Rattle.tap_model.specs.Sound.{IsSound}
use Rattle.tap_model.specs.Privacy.{is_user, concerns, view_of, Move}
use Rattle.tap_model.proofs.AnswerLaws.{second-none}
use Rattle.tap_model.proofs.SoundLaws.{step-sound}
use Rattle.tap_model.proofs.ViewLaws.{cores, source_in, brief_of, view-same}
use Rattle.tap_model.proofs.CoreLaws.{cores-other, cores-run-other, filter-other}

-- an answer leaves the user's view, deliveries aside
abbrev Leaves : List ℕ → Session → Tables → Answer → Type 0
Leaves user s t answer = brief_of user answer.session (tables_after answer.change t) ≡ brief_of user s t

-- a user who gives a command is another one
other-user : (user : List ℕ) (giver : Option (List ℕ)) → missing NoUser giver ≡ None → is_user user giver ≡ false
    → bytes_eq (or_empty giver) user ≡ false
other-user user None there other = absurd (no there) where
  no : Some NoUser ≡ None → ⊥
  no e = cc
other-user user (Some name) there other = other

with-queries : (user : List ℕ) (s : Session) (t d : Tables) → d.docs ≡ t.docs → d.notes ≡ t.notes → cores user d.runs d.queries
    ≡ cores user t.runs t.queries → source_in d user ≡ source_in t user → brief_of user s d ≡ brief_of user s t
with-queries user s t d docs notes queries filter =
    ap (λ x. record { docs = x; notes = d.notes; queries = cores user d.runs d.queries; filter = source_in d user; moment = s.moment }) docs
    ∙ ap (λ x. record { docs = t.docs; notes = x; queries = cores user d.runs d.queries; filter = source_in d user; moment = s.moment })
    notes
    ∙ ap (λ x. record { docs = t.docs; notes = t.notes; queries = x; filter = source_in d user; moment = s.moment }) queries
    ∙ ap (λ x. record { docs = t.docs; notes = t.notes; queries = cores user t.runs t.queries; filter = x; moment = s.moment }) filter

define-other : (user name source : List ℕ) (s : Session) (t : Tables) → bytes_eq (user_of s) user ≡ false
    → Leaves user s t (accepted (Define name source) s t)
define-other user name source s t other =
    with-queries user s t (tables_after (accepted (Define name source) s t).change t) refl refl
    (cores-other user t.runs t.queries (next_query t s name (stored_source source)) other) refl

run-other : (user name : List ℕ) (s : Session) (t : Tables) (q : Option QueryRow) → IsSound t s → bytes_eq (user_of s) user ≡ false
    → query_named (user_of s) name t ≡ q → Leaves user s t (run_query q s t)
run-other user name s t None sound other is = refl
run-other user name s t (Some q) sound other is =
    with-queries user s t (tables_after (run_query (Some q) s t).change t) refl refl
    (cores-run-other user (user_of s) name t.runs (next_run t q.num (moment_or_zero s)) 1 t.queries q other sound.kept.queries is refl)
    refl

box-other : (user name : List ℕ) (s : Session) (t : Tables) (q : Option QueryRow) → Leaves user s t (show_box q name s t)
box-other user name s t None = refl
box-other user name s t (Some q) = refl

list-other : (user name : List ℕ) (s : Session) (t : Tables) (q : Option QueryRow) → Leaves user s t (show_list q name s t)
list-other user name s t None = refl
list-other user name s t (Some q) = refl

lines-other : (user name : List ℕ) (s : Session) (t : Tables) (q : Option QueryRow) → Leaves user s t (show_lines q name s t)
lines-other user name s t None = refl
lines-other user name s t (Some q) = refl

wake-other : (user name : List ℕ) (s : Session) (t : Tables) (q : Option QueryRow) → Leaves user s t (show_wake q name s t)
wake-other user name s t None = refl
wake-other user name s t (Some q) = refl

digest-other : (user name : List ℕ) (ordinal : ℕ) (s : Session) (t : Tables) (q : Option QueryRow)
    → Leaves user s t (show_digest q name ordinal s t)
digest-other user name ordinal s t None = refl
digest-other user name ordinal s t (Some q) = refl

filter-left : (user source : List ℕ) (s : Session) (t : Tables) → bytes_eq (user_of s) user ≡ false
    → brief_of user s (record t { filters = t.filters ++ next_filter t s source ∷ [] }) ≡ brief_of user s t
filter-left user source s t other =
    with-queries user s t (record t { filters = t.filters ++ next_filter t s source ∷ [] }) refl refl refl
    (ap (option_map (λ filter. filter.source)) (filter-other user t.filters (next_filter t s source) other))

ask-other : (user source : List ℕ) (s : Session) (t : Tables) (second : Option ℤ) → Leaves user s t (ask_at second source s t)
ask-other user source s t None = refl
ask-other user source s t (Some second) = refl

no-false : true ≡ false → ⊥
no-false e = cc

accepted-other : (c : Command) (user : List ℕ) (s : Session) (t : Tables) → concerns user s c ≡ false → IsSound t s → verdict c s t ≡ None
    → Leaves user s t (accepted c s t)
accepted-other (At text) user s t other sound none = absurd (no-false other)
accepted-other (AsUser name) user s t other sound none = refl
accepted-other (Mail block) user s t other sound none = absurd (no-false other)
accepted-other (Mbox block) user s t other sound none = absurd (no-false other)
accepted-other (AddNote doc kind value text) user s t other sound none = absurd (no-false other)
accepted-other (Define name source) user s t other sound none =
    define-other user name source s t (other-user user s.user (second-none (no_moment s) (no_user s) _ none) other)
accepted-other (Run name) user s t other sound none = run-other user name s t (query_named (user_of s) name t) sound
    (other-user user s.user (second-none (no_moment s) (no_user s) _ none) other) refl
accepted-other (BoxOf name) user s t other sound none = box-other user name s t (query_named (user_of s) name t)
accepted-other (ListOf name) user s t other sound none = list-other user name s t (query_named (user_of s) name t)
accepted-other (Filter block) user s t other sound none =
    filter-left user (block_text block) s t (other-user user s.user (second-none (no_moment s) (no_user s) _ none) other)
accepted-other (Explain name) user s t other sound none = lines-other user name s t (query_named (user_of s) name t)
accepted-other (Ask moment source) user s t other sound none = ask-other user source s t (moment_of moment)
accepted-other (Wake name) user s t other sound none = wake-other user name s t (query_named (user_of s) name t)
accepted-other (ScoresOf kind) user s t other sound none = refl
accepted-other (Find lookup) user s t other sound none = refl
accepted-other (DigestOf name ordinal) user s t other sound none = digest-other user name ordinal s t (query_named (user_of s) name t)
accepted-other (Bad refusal) user s t other sound none = refl

answer-other : (c : Command) (user : List ℕ) (s : Session) (t : Tables) → concerns user s c ≡ false → IsSound t s
    → Leaves user s t (answer_of c s t)
answer-other c user s t other sound = go (verdict c s t) refl where
  go : (v : Option Refusal) → verdict c s t ≡ v → Leaves user s t (answer_by v c s t)
  go None none = accepted-other c user s t other sound none
  go (Some refusal) is = refl

-- a step by a command that doesn't concern the user
pub step-other : (user : List ℕ) (a : Move) → concerns user a.session a.command ≡ false
    → view_of user a.session' a.tables' ≡ view_of user a.session a.tables
step-other user a other = view-same user a.session' a.session a.tables' a.tables
    (step-sound a.tables a.session a.command a.reply a.tables' a.session' a.step a.sound) a.sound (go a.step) where
      go : StoryStep a.tables a.session a.command a.reply a.tables' a.session'
          → brief_of user a.session' a.tables' ≡ brief_of user a.session a.tables
      go (inl f) = ap (λ s. brief_of user s a.tables') f.session_is
          ∙ ap (λ t. brief_of user (answer_of a.command a.session a.tables).session t) f.tables_are
          ∙ answer-other a.command user a.session a.tables other a.sound
      go (inr stays) = ap (λ s. brief_of user s a.tables') stays.session_is ∙ ap (λ t. brief_of user a.session t) stays.tables_are
