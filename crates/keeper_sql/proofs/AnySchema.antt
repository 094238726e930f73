-- A text that is a query, or an insert, under one schema is one under each.
use Rattle.std.proofs.Common.{◌≡◌, ℕ, List, Bool, true, false, Option, None, Ok, Err, if◌then◌else◌, refl, sym, ap, subst}
use Rattle.std.specs.Prelude.{IfOk}
use Rattle.std.proofs.lemmas.Result.{IfOk-weaker}
use Rattle.sqlite_syntax.specs.declared.statement.Parsed.{Parsed}
use Rattle.sqlite_schema.specs.declared.schema.Schema.{Schema}
use Rattle.sqlite_schema.specs.declared.command.Command.{Command}
use Rattle.sqlite_schema.specs.declared.command.Returning.{Returning}
use Rattle.sqlite_resolve.specs.declared.compiled.Compiled.{Compiled}
use Rattle.sqlite_resolve.specs.declared.error.CompileError.TheVariants.{NoSuchTable}
use Rattle.sqlite_resolve.specs.Lowering.{Checked, and_then}
use Rattle.sqlite_resolve.specs.Compile.{compiled, first, planned, meaning, command, returning, with_command}
use Rattle.sqlite_tied.specs.Compute.{everything}
use Rattle.sqlite.specs.Listing.{understood, reads_listing, is_select, if_select, listing_schema}
use Rattle.keeper_sql.specs.Schema.{select_meta, select_docs, select_notes, select_queries, select_runs, select_picks, select_filters}

-- this holds of the command and of what it returns
abbrev pub IsSuch : (Command × Option Returning → Type 0) → Compiled → Type 0
IsSuch P c = P (c.command, c.returning)

module _ (P : Command × Option Returning → Type 0) where
  -- under each schema this holds of what the statement means
  abbrev pub Means : Parsed → Type 0
  Means p = (schema : Schema) (base : ℕ) (found : Command × Option Returning) → meaning schema p base ≡ Ok found → P found

  from_meaning : (m : Checked (Command × Option Returning)) (p : Parsed) (formats : List (List ℕ)) (c : Compiled)
      → ((found : Command × Option Returning) → m ≡ Ok found → P found)
      → and_then (and_then m (λ found. Ok (formats, found))) (λ plan. Ok (with_command p plan)) ≡ Ok c → IsSuch P c
  from_meaning (Ok found) p formats c so h = let e : with_command p (formats, found) ≡ c = cc in subst (IsSuch P) e (so found refl)
  from_meaning (Err e) p formats c so h = absurd (let x = h in cc)

  from_plan : (schema : Schema) (p : Parsed) (c : Compiled) → Means p
      → and_then (planned schema p) (λ plan. Ok (with_command p plan)) ≡ Ok c → IsSuch P c
  unfolding planned
  from_plan schema p c so h = from_meaning _ p _ c (so schema _) h

  from_first : (schema : Schema) (r : Checked Parsed) (c : Compiled) → IfOk r Means
      → and_then r (λ p. and_then (planned schema p) (λ plan. Ok (with_command p plan))) ≡ Ok c → IsSuch P c
  from_first schema (Ok p) c so h = from_plan schema p c so h
  from_first schema (Err e) c so h = absurd (let x = h in cc)

  from_text : (schema : Schema) (text : List ℕ) (c : Compiled) → IfOk (first text) Means → compiled schema text ≡ Ok c → IsSuch P c
  unfolding compiled
  from_text schema text c so h = from_first schema (first text) c so h

  picked : (b : Bool) (d c : Compiled) → IsSuch P d → (if b then Ok d else Err NoSuchTable) ≡ Ok c → IsSuch P c
  picked true d c so h = let e : d ≡ c = cc in subst (IsSuch P) e so
  picked false d c so h = absurd (let x = h in cc)

  from_listing : (r : Checked Compiled) (c : Compiled) → ((d : Compiled) → r ≡ Ok d → IsSuch P d) → if_select r ≡ Ok c → IsSuch P c
  from_listing (Ok d) c so h = picked (is_select d.command) d c (so d refl) h
  from_listing (Err e) c so h = absurd (let x = h in cc)

  either : (b : Bool) (schema : Schema) (text : List ℕ) (c : Compiled) → IfOk (first text) Means
      → (if b then if_select (compiled listing_schema text) else compiled schema text) ≡ Ok c → IsSuch P c
  either true schema text c so h = from_listing (compiled listing_schema text) c (λ d e. from_text listing_schema text d so e) h
  either false schema text c so h = from_text schema text c so h

  pub understood_means : (schema : Schema) (text : List ℕ) (c : Compiled) → IfOk (first text) Means → understood schema text ≡ Ok c
      → IsSuch P c
  unfolding understood
  understood_means schema text c so h = either (reads_listing schema text) schema text c so h

-- ---- queries

-- under each schema the statement returns no rows of a write
abbrev pub ReturnsNone : Parsed → Type 0
ReturnsNone p = (schema : Schema) (base : ℕ) → returning schema base p.statement ≡ Ok None

-- the text is such a statement
abbrev pub Asks : List ℕ → Type 0
Asks text = IfOk (first text) ReturnsNone

-- nothing is returned
abbrev IsBare : Command × Option Returning → Type 0
IsBare found = found.1 ≡ None

with_none : (r : Checked Command) (found : Command × Option Returning) → and_then r (λ c. Ok (c, None)) ≡ Ok found → IsBare found
with_none (Ok c) found h = let e : ◌≡◌ {A = Command × Option Returning} (c, None) found = cc in sym (ap (λ x. x.1) e)
with_none (Err e) found h = absurd (let x = h in cc)

means_none : (p : Parsed) → ReturnsNone p → Means IsBare p
unfolding meaning
means_none p none schema base found h =
    with_none (command schema p.formats base p.statement) found
    (subst (λ r. and_then r (λ shown. and_then (command schema p.formats base p.statement) (λ c. Ok (c, shown))) ≡ Ok found)
    (none schema base) h)

pub understood_none : (schema : Schema) (text : List ℕ) (c : Compiled) → Asks text → understood schema text ≡ Ok c → c.returning ≡ None
understood_none schema text c asks h = understood_means IsBare schema text c (IfOk-weaker (first text) _ _ means_none asks) h

pub meta_asks : Asks select_meta
unfolding everything
meta_asks = λ schema base. refl

pub docs_asks : Asks select_docs
unfolding everything
docs_asks = λ schema base. refl

pub notes_asks : Asks select_notes
unfolding everything
notes_asks = λ schema base. refl

pub queries_asks : Asks select_queries
unfolding everything
queries_asks = λ schema base. refl

pub runs_asks : Asks select_runs
unfolding everything
runs_asks = λ schema base. refl

pub picks_asks : Asks select_picks
unfolding everything
picks_asks = λ schema base. refl

pub filters_asks : Asks select_filters
unfolding everything
filters_asks = λ schema base. refl
