-- The texts of stored queries and filters can be read, and a session's user is a name: each command keeps that.
use Rattle.std.proofs.Common.{◌≡◌, ◌∙◌, ap, refl, ℕ, ℤ, List, [], ◌∷◌, Option, Some, None}
use Rattle.tap_base.specs.Numbers.{moment_of}
use Rattle.tap_rows.specs.declared.tables.Tables.{Tables}
use Rattle.tap_rows.specs.declared.rows.Doc.{Doc}
use Rattle.tap_rows.specs.declared.rows.QueryRow.{QueryRow}
use Rattle.tap_rows.specs.Kept.{Each}
use Rattle.tap_rows.proofs.LaterLaws.{each-append}
use Rattle.script_lang.specs.declared.command.Command.{Command}
use Rattle.script_lang.specs.declared.command.Command.TheVariants.{At, AsUser, Mail, Mbox, AddNote, Define, Run, BoxOf, ListOf, Filter}
use Rattle.script_lang.specs.declared.command.Command.TheVariants.{Explain, Ask, Wake, ScoresOf, DigestOf, Find, Bad}
use Rattle.script_lang.specs.declared.refusal.Refusal.{Refusal}
use Rattle.restart_core.specs.Starts.{condition_text, stored_source}
use Rattle.restart_core.proofs.StartLaws.{stored-text}
use Rattle.tap_model.specs.declared.session.Session.{Session}
use Rattle.tap_model.specs.Sessions.{moment_or_zero, user_of}
use Rattle.tap_model.specs.Queries.{query_named}
use Rattle.tap_model.specs.Verdicts.{verdict, checks, text_fault, filter_fault, block_text, messages_of}
use Rattle.tap_model.specs.Replies.{Answer, answer_of, answer_by, accepted, tables_after, set_moment, next_docs, some_docs, next_query}
use Rattle.tap_model.specs.Replies.{next_filter, run_query, show_box, show_list, show_lines, show_wake, show_digest, ask_at}
use Rattle.tap_model.specs.Sound.{IsUser}
use Rattle.tap_model.proofs.FitLaws.{all-none, name-is}

pub record Readable (tables : Tables) (session : Session) : Type 0 where
  pub sources : Each (λ query. text_fault (condition_text query.source) ≡ None) tables.queries
  pub rules : Each (λ filter. filter_fault filter.source ≡ None) tables.filters
  pub user : IsUser session.user

abbrev Leaves : Tables → Answer → Type 0
Leaves tables answer = Readable (tables_after answer.change tables) answer.session

moment-read : (second : Option ℤ) (session : Session) (tables : Tables) → Readable tables session
    → Leaves tables (set_moment second session)
moment-read None session tables read = read
moment-read (Some second) session tables read = record { sources = read.sources; rules = read.rules; user = read.user }

docs-read : (docs : List Doc) (session : Session) (tables : Tables) → Readable tables session
    → Readable (tables_after (some_docs docs) tables) session
docs-read [] session tables read = read
docs-read (doc ∷ docs) session tables read = record { sources = read.sources; rules = read.rules; user = read.user }

run-read : (query : Option QueryRow) (session : Session) (tables : Tables) → Readable tables session
    → Leaves tables (run_query query session tables)
run-read None session tables read = read
run-read (Some query) session tables read = record { sources = read.sources; rules = read.rules; user = read.user }

box-read : (query : Option QueryRow) (name : List ℕ) (session : Session) (tables : Tables) → Readable tables session
    → Leaves tables (show_box query name session tables)
box-read None name session tables read = read
box-read (Some query) name session tables read = read

list-read : (query : Option QueryRow) (name : List ℕ) (session : Session) (tables : Tables) → Readable tables session
    → Leaves tables (show_list query name session tables)
list-read None name session tables read = read
list-read (Some query) name session tables read = read

lines-read : (query : Option QueryRow) (name : List ℕ) (session : Session) (tables : Tables) → Readable tables session
    → Leaves tables (show_lines query name session tables)
lines-read None name session tables read = read
lines-read (Some query) name session tables read = read

wake-read : (query : Option QueryRow) (name : List ℕ) (session : Session) (tables : Tables) → Readable tables session
    → Leaves tables (show_wake query name session tables)
wake-read None name session tables read = read
wake-read (Some q) name session tables read = read

digest-read : (query : Option QueryRow) (name : List ℕ) (ordinal : ℕ) (session : Session) (tables : Tables) → Readable tables session
    → Leaves tables (show_digest query name ordinal session tables)
digest-read None name ordinal session tables read = read
digest-read (Some q) name ordinal session tables read = read

ask-read : (second : Option ℤ) (source : List ℕ) (session : Session) (tables : Tables) → Readable tables session
    → Leaves tables (ask_at second source session tables)
ask-read None source session tables read = read
ask-read (Some second) source session tables read = read

accepted-read : (command : Command) (session : Session) (tables : Tables) → Readable tables session
    → Each (λ check. check ≡ None) (checks command session tables) → Leaves tables (accepted command session tables)
accepted-read (Bad refusal) session tables read pass = read
accepted-read (At text) session tables read pass = moment-read (moment_of text) session tables read
accepted-read (AsUser name) session tables read pass = record { sources = read.sources; rules = read.rules; user = name-is name pass.0 }
accepted-read (Mail block) session tables read pass =
    docs-read (next_docs tables (moment_or_zero session) (block_text block ∷ [])) session tables read
accepted-read (Define name source) session tables read pass = record {
  sources = each-append (λ query. text_fault (condition_text query.source) ≡ None) tables.queries
      (next_query tables session name (stored_source source) ∷ []) read.sources (ap text_fault (stored-text source) ∙ pass.1.1.1.1.0, tt);
  rules = read.rules;
  user = read.user;
}
accepted-read (Run name) session tables read pass = run-read (query_named (user_of session) name tables) session tables read
accepted-read (BoxOf name) session tables read pass = box-read (query_named (user_of session) name tables) name session tables read
accepted-read (Mbox block) session tables read pass =
    docs-read (next_docs tables (moment_or_zero session) (messages_of block)) session tables read
accepted-read (AddNote doc kind value text) session tables read pass =
    record { sources = read.sources; rules = read.rules; user = read.user }
accepted-read (ListOf name) session tables read pass = list-read (query_named (user_of session) name tables) name session tables read
accepted-read (Filter block) session tables read pass = record {
  sources = read.sources;
  rules = each-append (λ filter. filter_fault filter.source ≡ None) tables.filters (next_filter tables session (block_text block) ∷ [])
      read.rules (pass.1.1.1.1.1.1.0, tt);
  user = read.user;
}
accepted-read (Explain name) session tables read pass = lines-read (query_named (user_of session) name tables) name session tables read
accepted-read (Ask moment source) session tables read pass = ask-read (moment_of moment) source session tables read
accepted-read (Wake name) session tables read pass = wake-read (query_named (user_of session) name tables) name session tables read
accepted-read (ScoresOf kind) session tables read pass = read
accepted-read (Find lookup) session tables read pass = read
accepted-read (DigestOf name ordinal) session tables read pass =
    digest-read (query_named (user_of session) name tables) name ordinal session tables read

pub answer-read : (command : Command) (session : Session) (tables : Tables) → Readable tables session
    → Leaves tables (answer_of command session tables)
answer-read command session tables read = go (verdict command session tables) refl where
  go : (v : Option Refusal) → verdict command session tables ≡ v → Leaves tables (answer_by v command session tables)
  go None none = accepted-read command session tables read (all-none (checks command session tables) none)
  go (Some refusal) is = read
