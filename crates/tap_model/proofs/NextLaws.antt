-- The tables after a reply: a command that isn't accepted adds no rows.
use Rattle.std.proofs.Common.{◌≡◌, ◌∙◌, sym, ap, refl, ℕ, ℤ, List, Bool, true, false, Option, Some, None, inl, inr, if◌then◌else◌}
use Rattle.tap_base.specs.Numbers.{moment_of}
use Rattle.tap_rows.specs.declared.tables.Tables.{Tables}
use Rattle.tap_rows.specs.declared.rows.QueryRow.{QueryRow}
use Rattle.script_lang.specs.declared.command.Command.{Command}
use Rattle.script_lang.specs.declared.command.Command.TheVariants.{At, AsUser, Mail, Mbox, AddNote, Define, Run, BoxOf, ListOf, Filter}
use Rattle.script_lang.specs.declared.command.Command.TheVariants.{Explain, Ask, Wake, ScoresOf, DigestOf, Find, Bad}
use Rattle.script_lang.specs.declared.refusal.Refusal.{Refusal}
use Rattle.script_lang.specs.declared.reply.Reply.{Reply}
use Rattle.script_lang.specs.Replies.{is_accepted}
use Rattle.tap_model.specs.declared.session.Session.{Session}
use Rattle.tap_model.specs.Sessions.{user_of}
use Rattle.tap_model.specs.Queries.{query_named}
use Rattle.tap_model.specs.Verdicts.{verdict}
use Rattle.tap_model.specs.Replies.{Answer, answer_of, answer_by, accepted, tables_after, set_moment, run_query, show_box, show_list}
use Rattle.tap_model.specs.Replies.{show_lines, show_wake, show_digest, ask_at}
use Rattle.tap_model.specs.Stories.{StoryStep, next_tables}

-- an answer that isn't accepted adds no rows
abbrev Stays : Answer → Type 0
Stays answer = is_accepted answer.reply ≡ false → answer.change ≡ None

not-both : true ≡ false → ⊥
not-both e = cc

moment-stays : (second : Option ℤ) (session : Session) → Stays (set_moment second session)
moment-stays None session e = refl
moment-stays (Some second) session e = refl

run-stays : (query : Option QueryRow) (session : Session) (tables : Tables) → Stays (run_query query session tables)
run-stays None session tables e = refl
run-stays (Some query) session tables e = absurd (not-both e)

box-stays : (query : Option QueryRow) (name : List ℕ) (session : Session) (tables : Tables) → Stays (show_box query name session tables)
box-stays None name session tables e = refl
box-stays (Some query) name session tables e = refl

list-stays : (query : Option QueryRow) (name : List ℕ) (session : Session) (tables : Tables) → Stays (show_list query name session tables)
list-stays None name session tables e = refl
list-stays (Some query) name session tables e = refl

lines-stays : (query : Option QueryRow) (name : List ℕ) (session : Session) (tables : Tables) → Stays (show_lines query name session tables)
lines-stays None name session tables e = refl
lines-stays (Some query) name session tables e = refl

wake-stays : (query : Option QueryRow) (name : List ℕ) (session : Session) (tables : Tables) → Stays (show_wake query name session tables)
wake-stays None name session tables e = refl
wake-stays (Some query) name session tables e = refl

digest-stays : (query : Option QueryRow) (name : List ℕ) (ordinal : ℕ) (session : Session) (tables : Tables)
    → Stays (show_digest query name ordinal session tables)
digest-stays None name ordinal session tables e = refl
digest-stays (Some query) name ordinal session tables e = refl

ask-stays : (second : Option ℤ) (source : List ℕ) (session : Session) (tables : Tables) → Stays (ask_at second source session tables)
ask-stays None source session tables e = refl
ask-stays (Some second) source session tables e = refl

accepted-stays : (command : Command) (session : Session) (tables : Tables) → Stays (accepted command session tables)
accepted-stays (Bad refusal) session tables e = refl
accepted-stays (At text) session tables e = moment-stays (moment_of text) session e
accepted-stays (AsUser name) session tables e = refl
accepted-stays (Mail block) session tables e = absurd (not-both e)
accepted-stays (Define name source) session tables e = absurd (not-both e)
accepted-stays (Run name) session tables e = run-stays (query_named (user_of session) name tables) session tables e
accepted-stays (BoxOf name) session tables e = box-stays (query_named (user_of session) name tables) name session tables e
accepted-stays (Mbox block) session tables e = absurd (not-both e)
accepted-stays (AddNote doc kind value text) session tables e = absurd (not-both e)
accepted-stays (ListOf name) session tables e = list-stays (query_named (user_of session) name tables) name session tables e
accepted-stays (Filter block) session tables e = absurd (not-both e)
accepted-stays (Explain name) session tables e = lines-stays (query_named (user_of session) name tables) name session tables e
accepted-stays (Ask moment source) session tables e = ask-stays (moment_of moment) source session tables e
accepted-stays (Wake name) session tables e = wake-stays (query_named (user_of session) name tables) name session tables e
accepted-stays (ScoresOf kind) session tables e = refl
accepted-stays (Find lookup) session tables e = refl
accepted-stays (DigestOf name ordinal) session tables e =
    digest-stays (query_named (user_of session) name tables) name ordinal session tables e

pub refused-stays : (command : Command) (session : Session) (tables : Tables) → is_accepted (answer_of command session tables).reply ≡ false
    → (answer_of command session tables).change ≡ None
refused-stays command session tables = go (verdict command session tables) where
  go : (v : Option Refusal) → Stays (answer_by v command session tables)
  go None e = accepted-stays command session tables e
  go (Some refusal) e = refl

-- the tables after the reply of the answer are those after its rows
pub next-is : (command : Command) (reply : Reply) (session : Session) (tables : Tables) → reply ≡ (answer_of command session tables).reply
    → next_tables command reply session tables ≡ tables_after (answer_of command session tables).change tables
next-is command reply session tables is = go (is_accepted reply) refl where
  go : (b : Bool) → is_accepted reply ≡ b → (if b then tables_after (answer_of command session tables).change tables else tables)
      ≡ tables_after (answer_of command session tables).change tables
  go true e = refl
  go false e = sym (ap (λ change. tables_after change tables) (refused-stays command session tables (sym (ap is_accepted is) ∙ e)))

-- each step leads to the tables after its reply
pub step-next : (tables : Tables) (session : Session) (command : Command) (reply : Reply) (tables' : Tables) (session' : Session)
    → StoryStep tables session command reply tables' session' → tables' ≡ next_tables command reply session tables
step-next tables session command reply tables' session' (inl follows) = follows.tables_are
    ∙ sym (next-is command reply session tables follows.reply_is)
step-next tables session command reply tables' session' (inr stays) = stays.tables_are
    ∙ sym (ap (λ reply. next_tables command reply session tables) stays.reply_is)
