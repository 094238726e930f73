-- Why a command is refused: the first of its checks that refuses it.
use Rattle.std.specs.Prelude.{ℕ, ℤ, List, [], ◌∷◌, length, take, sum_by, Bool, true, ◌&&◌, nat_le, int_le, int_lt, Option, Some}
use Rattle.std.specs.Prelude.{None, is_none, is_some, Result, Ok, Err, if◌then◌else◌}
use Rattle.std.specs.List.{list_all}
use Rattle.tap_base.specs.Numbers.{moment_of}
use Rattle.tap_base.specs.Names.{is_name}
use Rattle.tap_rows.specs.declared.tables.Tables.{Tables}
use Rattle.tap_rows.specs.declared.rows.QueryRow.{QueryRow}
use Rattle.tap_rows.specs.declared.results.Hit.{Hit}
use Rattle.tap_rows.specs.Results.{run_moments}
use Rattle.mail_lines.specs.declared.block.Block.{Block}
use Rattle.mail_lines.specs.declared.block.Block.TheVariants.{Whole, Long}
use Rattle.script_lang.specs.declared.command.Command.{Command}
use Rattle.script_lang.specs.declared.command.Command.TheVariants.{At, AsUser, Mail, Mbox, AddNote, Define, Run, BoxOf, ListOf, Filter}
use Rattle.script_lang.specs.declared.command.Command.TheVariants.{Explain, Ask, Wake}
use Rattle.script_lang.specs.declared.command.Command.TheVariants.{ScoresOf, DigestOf, Find, Bad}
use Rattle.script_lang.specs.declared.lookup.Lookup.{Lookup}
use Rattle.script_lang.specs.declared.lookup.Lookup.TheVariants.{ShowDoc, ListNotes, ListQueries, Count}
use Rattle.script_lang.specs.declared.refusal.Refusal.{Refusal}
use Rattle.script_lang.specs.declared.refusal.Refusal.TheVariants.{BadMoment, Backwards, NoMoment, NoUser, BadName, Taken, NoQuery, NoDoc}
use Rattle.script_lang.specs.declared.refusal.Refusal.TheVariants.{Lex}
use Rattle.script_lang.specs.declared.refusal.Refusal.TheVariants.{Parse, Types, NotOver, Limit, Rule, ManyRules, NoRun}
use Rattle.script_lang.specs.declared.refusal.LimitName.TheVariants.{Message, Block as BlockLimit, Note, Documents, Notes, Queries}
use Rattle.script_lang.specs.declared.refusal.LimitName.TheVariants.{AllQueries, Users}
use Rattle.script_lang.specs.declared.refusal.LimitName.TheVariants.{Filters, Runs, Picks, Store}
use Rattle.mail_lines.specs.Mbox.{mbox_messages}
use Rattle.tql_core.specs.Condition.{Condition}
use Rattle.tql_text.specs.declared.fault.TextFault.{TextFault}
use Rattle.tql_text.specs.declared.fault.TextFault.TheVariants as T
use Rattle.tql_text.specs.Texts.{condition_of}
use Rattle.filter_rules.specs.declared.fault.RuleFault.{RuleFault}
use Rattle.filter_rules.specs.declared.fault.RuleFault.TheVariants as R
use Rattle.filter_rules.specs.Rules.{Rule as FilterRule}
use Rattle.filter_rules.specs.RuleTexts.{rules_of}
use Rattle.restart_core.specs.Starts.{condition_text, stored_source}
use Rattle.tap_model.specs.declared.session.Session.{Session}
use Rattle.tap_model.specs.Limits.{message_limit, filter_text_limit, note_text_limit, document_limit, note_limit, user_query_limit}
use Rattle.tap_model.specs.Limits.{query_limit}
use Rattle.tap_model.specs.Limits.{user_limit, filter_limit, run_limit, pick_limit, store_limit}
use Rattle.tap_model.specs.Sessions.{moment_or_zero, user_of, last_moment}
use Rattle.tap_model.specs.Queries.{query_named, hits_of}
use Rattle.tap_model.specs.Limits.{stored_bytes, owners_in, different, queries_of, new_users, limit_refusal}

-- the first refusal of some checks, if there is one
abbrev pub first_refusal : List (Option Refusal) → Option Refusal
first_refusal [] = None
first_refusal (None ∷ checks) = first_refusal checks
first_refusal (Some refusal ∷ checks) = Some refusal

-- refused if there is none
abbrev pub missing : {A : Type 0} → Refusal → Option A → Option Refusal
missing refusal None = Some refusal
missing refusal (Some x) = None

-- refused unless this holds
abbrev pub refuse_unless : Bool → Refusal → Option Refusal
refuse_unless holds refusal = if holds then None else Some refusal

-- the session has no moment
abbrev pub no_moment : Session → Option Refusal
no_moment session = missing NoMoment session.moment

-- the session has no user
abbrev pub no_user : Session → Option Refusal
no_user session = missing NoUser session.user

-- the text is no name
unfoldable pub bad_name : List ℕ → Option Refusal
bad_name name = refuse_unless (is_name name) BadName

-- the refusal of a text's fault; out of memory is no fault of the text
abbrev pub fault_refusal : TextFault → Option Refusal
fault_refusal (T.Lex fault) = Some (Lex fault)
fault_refusal (T.Parse fault) = Some (Parse fault)
fault_refusal (T.Types fault) = Some (Types fault)
fault_refusal T.Memory = None

-- the refusal of a reading
abbrev pub reading_refusal : Result Condition TextFault → Option Refusal
reading_refusal (Ok condition) = None
reading_refusal (Err fault) = fault_refusal fault

-- the refusal of a text that is no query
unfoldable pub text_fault : List ℕ → Option Refusal
text_fault text = reading_refusal (condition_of text)

-- the second is below the last moment
abbrev pub is_back : Option ℤ → Option ℤ → Option Refusal
is_back None second = None
is_back (Some last) None = None
is_back (Some last) (Some second) = refuse_unless (int_le last second) (Backwards last)

-- the second isn't below the present moment
abbrev pub not_over : Option ℤ → Option ℤ → Option Refusal
not_over None now = None
not_over (Some second) None = None
not_over (Some second) (Some now) = refuse_unless (int_lt second now) (NotOver now)

-- the user has a query of this name
abbrev pub taken : Session → List ℕ → Tables → Option Refusal
taken session name tables = refuse_unless (is_none (query_named (user_of session) name tables)) Taken

-- the user has no query of this name
abbrev pub no_query : Session → List ℕ → Tables → Option Refusal
no_query session name tables = missing NoQuery (query_named (user_of session) name tables)

-- how many runs the user's query of this name had
abbrev pub runs_found : Option QueryRow → Tables → ℕ
runs_found None tables = 0
runs_found (Some query) tables = length (run_moments query.num.0 tables.runs)

-- a query with this many runs has none of this ordinal
unfoldable pub no_run : ℕ → ℕ → Option Refusal
no_run ordinal runs = refuse_unless (nat_le 1 ordinal && nat_le ordinal runs) (NoRun runs)

-- the message is too long
abbrev pub too_long : Block → Option Refusal
too_long Long = Some (Limit Message)
too_long (Whole text) = refuse_unless (nat_le (length text) message_limit) (Limit Message)

-- the messages of a mailbox file; a block that is too long has none
abbrev pub messages_of : Block → List (List ℕ)
messages_of Long = []
messages_of (Whole text) = mbox_messages text

-- are all messages short enough?
abbrev pub are_short : List (List ℕ) → Bool
are_short messages = list_all (λ message. nat_le (length message) message_limit) messages

-- one of the messages is too long
abbrev pub long_message : List (List ℕ) → Option Refusal
long_message messages = refuse_unless (are_short messages) (Limit Message)

-- the mailbox file is too long
abbrev pub long_block : Block → Option Refusal
long_block Long = Some (Limit BlockLimit)
long_block (Whole text) = None

-- the bytes of the messages
abbrev pub bytes_of_all : List (List ℕ) → ℕ
bytes_of_all messages = sum_by length messages

-- the number is no document's, if there are that many documents
unfoldable pub no_doc : ℕ → ℕ → Option Refusal
no_doc doc count = refuse_unless (nat_le 1 doc && nat_le doc count) NoDoc

-- a note of that many bytes is too long
unfoldable pub long_note : ℕ → Option Refusal
long_note len = refuse_unless (nat_le len note_text_limit) (Limit Note)

-- the refusal of a fault of a filter's text; out of memory is no fault of the text
abbrev pub rule_refusal : RuleFault → Option Refusal
rule_refusal (R.Line number place) = Some (Rule number place)
rule_refusal R.ManyRules = Some ManyRules
rule_refusal R.Memory = None

-- the refusal of a reading of rules
abbrev pub rules_refusal : Result (List FilterRule) RuleFault → Option Refusal
rules_refusal (Ok rules) = None
rules_refusal (Err fault) = rule_refusal fault

-- the first fault of a filter's text
unfoldable pub filter_fault : List ℕ → Option Refusal
filter_fault source = rules_refusal (rules_of source)

-- the filter's block is too long
abbrev pub long_filter : Block → Option Refusal
long_filter Long = Some (Limit BlockLimit)
long_filter (Whole text) = refuse_unless (nat_le (length text) filter_text_limit) (Limit BlockLimit)

-- the text of a block; one that is too long has none
abbrev pub block_text : Block → List ℕ
block_text Long = []
block_text (Whole text) = text

-- what a run of this query delivers, if there is one
abbrev pub hits_found : Option QueryRow → Tables → ℤ → List Hit
hits_found None tables moment = []
hits_found (Some query) tables moment = hits_of query tables moment

-- how many documents a run of the user's query of this name delivers now
abbrev pub delivers : Session → List ℕ → Tables → ℕ
delivers session name tables = length (hits_found (query_named (user_of session) name tables) tables (moment_or_zero session))

-- the checks of a look-up, in their order
abbrev pub lookup_checks : Lookup → Session → Tables → List (Option Refusal)
lookup_checks (ShowDoc num) session tables = no_doc num (length tables.docs) ∷ []
lookup_checks (ListNotes num) session tables = no_doc num (length tables.docs) ∷ []
lookup_checks ListQueries session tables = no_user session ∷ []
lookup_checks Count session tables = []

-- the checks of a command, in their order
abbrev pub checks : Command → Session → Tables → List (Option Refusal)
checks (Bad refusal) session tables = Some refusal ∷ []
checks (At text) session tables = missing BadMoment (moment_of text) ∷ is_back (last_moment session tables) (moment_of text) ∷ []
checks (AsUser name) session tables = bad_name name ∷ []
checks (Mail block) session tables =
    no_moment session
    ∷ too_long block
    ∷ limit_refusal Documents document_limit (length tables.docs) 1
    ∷ limit_refusal Store store_limit (stored_bytes tables) (length (block_text block))
    ∷ []
checks (Define name source) session tables =
    no_moment session
    ∷ no_user session
    ∷ bad_name name
    ∷ taken session name tables
    ∷ text_fault (condition_text source)
    ∷ limit_refusal Queries user_query_limit (queries_of (user_of session) tables) 1
    ∷ limit_refusal AllQueries query_limit (length tables.queries) 1
    ∷ limit_refusal Users user_limit (different (owners_in tables)) (new_users (user_of session) tables)
    ∷ limit_refusal Store store_limit (stored_bytes tables) (length (stored_source source))
    ∷ []
checks (Run name) session tables =
    no_moment session
    ∷ no_user session
    ∷ bad_name name
    ∷ no_query session name tables
    ∷ limit_refusal Runs run_limit (length tables.runs) 1
    ∷ limit_refusal Picks pick_limit (length tables.picks) (delivers session name tables)
    ∷ []
checks (BoxOf name) session tables = no_user session ∷ bad_name name ∷ no_query session name tables ∷ []
checks (Mbox block) session tables =
    no_moment session
    ∷ long_message (messages_of block)
    ∷ long_block block
    ∷ limit_refusal Documents document_limit (length tables.docs) (length (messages_of block))
    ∷ limit_refusal Store store_limit (stored_bytes tables) (bytes_of_all (messages_of block))
    ∷ []
checks (AddNote doc kind value text) session tables =
    no_moment session
    ∷ no_user session
    ∷ bad_name kind
    ∷ no_doc doc (length tables.docs)
    ∷ long_note (length text)
    ∷ limit_refusal Notes note_limit (length tables.notes) 1
    ∷ limit_refusal Store store_limit (stored_bytes tables) (length text)
    ∷ []
checks (ListOf name) session tables = no_user session ∷ bad_name name ∷ no_query session name tables ∷ []
checks (Filter block) session tables =
    no_moment session
    ∷ no_user session
    ∷ long_filter block
    ∷ limit_refusal Users user_limit (different (owners_in tables)) (new_users (user_of session) tables)
    ∷ limit_refusal Filters filter_limit (length tables.filters) 1
    ∷ limit_refusal Store store_limit (stored_bytes tables) (length (block_text block))
    ∷ filter_fault (block_text block)
    ∷ []
checks (Explain name) session tables = no_user session ∷ bad_name name ∷ no_query session name tables ∷ []
checks (Ask moment source) session tables =
    missing BadMoment (moment_of moment) ∷ no_moment session ∷ text_fault source ∷ not_over (moment_of moment) session.moment ∷ []
checks (Wake name) session tables = no_moment session ∷ no_user session ∷ bad_name name ∷ no_query session name tables ∷ []
checks (ScoresOf kind) session tables = bad_name kind ∷ []
checks (DigestOf name ordinal) session tables =
    no_user session
    ∷ bad_name name
    ∷ no_query session name tables
    ∷ no_run ordinal (runs_found (query_named (user_of session) name tables) tables)
    ∷ []
checks (Find lookup) session tables = lookup_checks lookup session tables

-- the first check that refuses the command
abbrev pub verdict : Command → Session → Tables → Option Refusal
verdict command session tables = first_refusal (checks command session tables)

-- the checks of a command before it asks for memory: those before the text of a query, a filter or a question is read, a mailbox
-- file is cut, or the runs of a digest are counted; of every other command all checks
abbrev pub early_checks : Command → Session → Tables → List (Option Refusal)
early_checks (Define name source) session tables = take 4 (checks (Define name source) session tables)
early_checks (Mbox block) session tables = take 1 (checks (Mbox block) session tables)
early_checks (Filter block) session tables = take 6 (checks (Filter block) session tables)
early_checks (Ask moment source) session tables = take 2 (checks (Ask moment source) session tables)
early_checks (DigestOf name ordinal) session tables = take 3 (checks (DigestOf name ordinal) session tables)
early_checks command session tables = checks command session tables

-- does the command need no memory, and so never get `no 18`? `at`, a line that is no command, `counts`, and one that such a check
-- refuses
abbrev pub is_spared : Command → Session → Tables → Bool
is_spared (Bad refusal) session tables = true
is_spared (At text) session tables = true
is_spared (Find Count) session tables = true
is_spared command session tables = is_some (first_refusal (early_checks command session tables))
