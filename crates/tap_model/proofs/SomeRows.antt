-- The change of an answer has rows.
use Rattle.std.proofs.Common.{◌≡◌, ℕ, ℤ, List, [], ◌∷◌, Option, Some, None}
use Rattle.std.specs.Prelude.{◌≢◌}
use Rattle.tap_base.specs.Numbers.{moment_of}
use Rattle.tap_rows.specs.declared.tables.Tables.{Tables}
use Rattle.tap_rows.specs.declared.change.Change.{Change}
use Rattle.tap_rows.specs.declared.change.Change.TheVariants.{Docs}
use Rattle.tap_rows.specs.declared.rows.Doc.{Doc}
use Rattle.tap_rows.specs.declared.rows.QueryRow.{QueryRow}
use Rattle.script_lang.specs.declared.command.Command.{Command}
use Rattle.script_lang.specs.declared.command.Command.TheVariants.{At, AsUser, Mail, Mbox, AddNote, Define, Run, BoxOf, ListOf, Filter}
use Rattle.script_lang.specs.declared.command.Command.TheVariants.{Explain, Ask, Wake}
use Rattle.script_lang.specs.declared.command.Command.TheVariants.{ScoresOf, DigestOf, Find, Bad}
use Rattle.script_lang.specs.declared.refusal.Refusal.{Refusal}
use Rattle.tap_model.specs.declared.session.Session.{Session}
use Rattle.tap_model.specs.Sessions.{moment_or_zero, user_of}
use Rattle.tap_model.specs.Queries.{query_named}
use Rattle.tap_model.specs.Verdicts.{verdict, block_text, messages_of}
use Rattle.tap_model.specs.Replies.{Answer, answer_of, answer_by, accepted, next_docs, some_docs}
use Rattle.tap_model.specs.Replies.{set_moment, run_query, show_box, show_list, show_lines, show_wake, show_digest, ask_at}

-- the answer's change, if it has one, has rows
abbrev HasRows : Answer → Type 0
HasRows answer = (change : Change) → answer.change ≡ Some change → change ≢ Docs []

no-change : (change : Change) → None ≡ Some change → change ≢ Docs []
no-change change e = absurd (let is = e in cc)

docs-rows : (docs : List Doc) (change : Change) → some_docs docs ≡ Some change → change ≢ Docs []
docs-rows [] change e none = no-change change e none
docs-rows (doc ∷ docs) change e none = cc

run-rows : (query : Option QueryRow) (session : Session) (tables : Tables) → HasRows (run_query query session tables)
run-rows None session tables change e none = no-change change e none
run-rows (Some query) session tables change e none = cc

moment-rows : (second : Option ℤ) (session : Session) → HasRows (set_moment second session)
moment-rows None session change e = no-change change e
moment-rows (Some second) session change e = no-change change e

box-rows : (query : Option QueryRow) (name : List ℕ) (session : Session) (tables : Tables) → HasRows (show_box query name session tables)
box-rows None name session tables change e = no-change change e
box-rows (Some query) name session tables change e = no-change change e

list-rows : (query : Option QueryRow) (name : List ℕ) (session : Session) (tables : Tables) → HasRows (show_list query name session tables)
list-rows None name session tables change e = no-change change e
list-rows (Some query) name session tables change e = no-change change e

lines-rows : (query : Option QueryRow) (name : List ℕ) (session : Session) (tables : Tables)
    → HasRows (show_lines query name session tables)
lines-rows None name session tables change e = no-change change e
lines-rows (Some query) name session tables change e = no-change change e

wake-rows : (query : Option QueryRow) (name : List ℕ) (session : Session) (tables : Tables) → HasRows (show_wake query name session tables)
wake-rows None name session tables change e = no-change change e
wake-rows (Some query) name session tables change e = no-change change e

digest-rows : (query : Option QueryRow) (name : List ℕ) (ordinal : ℕ) (session : Session) (tables : Tables)
    → HasRows (show_digest query name ordinal session tables)
digest-rows None name ordinal session tables change e = no-change change e
digest-rows (Some query) name ordinal session tables change e = no-change change e

ask-rows : (second : Option ℤ) (source : List ℕ) (session : Session) (tables : Tables) → HasRows (ask_at second source session tables)
ask-rows None source session tables change e = no-change change e
ask-rows (Some second) source session tables change e = no-change change e

accepted-rows : (command : Command) (session : Session) (tables : Tables) → HasRows (accepted command session tables)
accepted-rows (At text) session tables change e none = moment-rows (moment_of text) session change e none
accepted-rows (AsUser name) session tables change e none = no-change change e none
accepted-rows (Mail block) session tables change e none =
    docs-rows (next_docs tables (moment_or_zero session) (block_text block ∷ [])) change e none
accepted-rows (Mbox block) session tables change e none =
    docs-rows (next_docs tables (moment_or_zero session) (messages_of block)) change e none
accepted-rows (AddNote doc kind value text) session tables change e none = cc
accepted-rows (Define name source) session tables change e none = cc
accepted-rows (Run name) session tables change e none = run-rows (query_named (user_of session) name tables) session tables change e none
accepted-rows (BoxOf name) session tables change e none =
    box-rows (query_named (user_of session) name tables) name session tables change e none
accepted-rows (ListOf name) session tables change e none =
    list-rows (query_named (user_of session) name tables) name session tables change e none
accepted-rows (Filter block) session tables change e none = cc
accepted-rows (Explain name) session tables change e none =
    lines-rows (query_named (user_of session) name tables) name session tables change e none
accepted-rows (Ask moment source) session tables change e none = ask-rows (moment_of moment) source session tables change e none
accepted-rows (Wake name) session tables change e none =
    wake-rows (query_named (user_of session) name tables) name session tables change e none
accepted-rows (ScoresOf kind) session tables change e none = no-change change e none
accepted-rows (Find lookup) session tables change e none = no-change change e none
accepted-rows (DigestOf name ordinal) session tables change e none =
    digest-rows (query_named (user_of session) name tables) name ordinal session tables change e none
accepted-rows (Bad refusal) session tables change e none = no-change change e none

-- the change of an answer has rows
pub change-rows : (command : Command) (session : Session) (tables : Tables) → HasRows (answer_of command session tables)
change-rows command session tables = go (verdict command session tables) where
  go : (v : Option Refusal) → HasRows (answer_by v command session tables)
  go None change e = accepted-rows command session tables change e
  go (Some refusal) change e = no-change change e
