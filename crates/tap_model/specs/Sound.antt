-- What holds of the tables and the session at every point of a story.
use Rattle.std.specs.Prelude.{ℕ, ◌≡◌, ℤ, List, Bool, true, false, Option, Some, None}
use Rattle.tap_base.specs.Names.{is_name}
use Rattle.tap_rows.specs.declared.tables.Tables.{Tables}
use Rattle.tap_rows.specs.Kept.{Each, IsKept, IsBy}
use Rattle.tap_rows.specs.WellFormed.{is_well_formed}
use Rattle.restart_core.specs.Starts.{condition_text}
use Rattle.script_lang.specs.declared.command.Command.{Command}
use Rattle.script_lang.specs.declared.command.Command.TheVariants.{At, AsUser, Mail, Mbox, AddNote, Define, Run, BoxOf, ListOf, Filter}
use Rattle.script_lang.specs.declared.command.Command.TheVariants.{Explain, Ask, Wake}
use Rattle.script_lang.specs.declared.command.Command.TheVariants.{ScoresOf, DigestOf, Find, Bad}
use Rattle.script_lang.specs.declared.lookup.Lookup.TheVariants.{ShowDoc, ListNotes, ListQueries, Count}
use Rattle.tap_model.specs.declared.session.Session.{Session}
use Rattle.tap_model.specs.Sessions.{no_session}
use Rattle.tap_model.specs.Queries.{query_truth, start_of}
use Rattle.tap_model.specs.Verdicts.{text_fault, filter_fault}
use Rattle.tap_base.specs.Numbers.{IsMoment}

-- the session has no moment, or one from 0 to 250,000,000,000 with no row after it
abbrev pub IsNow : Option ℤ → Tables → Type 0
IsNow None tables = Unit {0}
IsNow (Some moment) tables = IsMoment moment × IsBy start_of moment tables

-- if the session has a user, it is a name
abbrev pub IsUser : Option (List ℕ) → Type 0
IsUser None = Unit {0}
IsUser (Some name) = is_name name ≡ true

-- a point at which what is said of deliveries holds; no row is later than the session's moment; the rows stand in order; the texts of
-- queries and filters can be read; and the session's user is a name
pub record IsSoundWith (deliveries : Type 0) (tables : Tables) (session : Session) : Type 0 where
  pub kept : deliveries
  pub now : IsNow session.moment tables
  pub formed : is_well_formed tables ≡ true
  pub sources : Each (λ query. text_fault (condition_text query.source) ≡ None) tables.queries
  pub rules : Each (λ filter. filter_fault filter.source ≡ None) tables.filters
  pub user : IsUser session.user

-- a sound point, as every point of a story is: `IsSoundWith`, and each query's deliveries are its box
abbrev pub IsSound : Tables → Session → Type 0
IsSound tables session = IsSoundWith (IsKept query_truth start_of tables) tables session

-- tables that a session may begin with: sound with a new session, as every sound session leaves them
abbrev pub IsStore : Tables → Type 0
IsStore tables = IsSound tables no_session

-- does the command look at what a query has delivered: `run`, `box`, `list`, `wake`, `digest`, `queries`?
abbrev pub asks_deliveries : Command → Bool
asks_deliveries (At text) = false
asks_deliveries (AsUser name) = false
asks_deliveries (Mail block) = false
asks_deliveries (Mbox block) = false
asks_deliveries (AddNote doc kind value text) = false
asks_deliveries (Define name source) = false
asks_deliveries (Run name) = true
asks_deliveries (BoxOf name) = true
asks_deliveries (ListOf name) = true
asks_deliveries (Filter block) = false
asks_deliveries (Explain name) = false
asks_deliveries (Ask moment source) = false
asks_deliveries (Wake name) = true
asks_deliveries (ScoresOf kind) = false
asks_deliveries (DigestOf name ordinal) = true
asks_deliveries (Find (ShowDoc num)) = false
asks_deliveries (Find (ListNotes num)) = false
asks_deliveries (Find ListQueries) = true
asks_deliveries (Find Count) = false
asks_deliveries (Bad refusal) = false

-- a point that is sound for a command: deliveries need be boxes only if the command looks at them
abbrev pub IsSoundFor : Command → Tables → Session → Type 0
IsSoundFor command tables session = IsSoundWith (asks_deliveries command ≡ true → IsKept query_truth start_of tables) tables session
