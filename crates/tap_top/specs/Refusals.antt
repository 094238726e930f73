-- Why a store is refused, and the line that says so.
use Rattle.std.specs.Prelude.{ℕ, ℤ, ◌≡◌, ◌≢◌, ◌⊎◌, List, ◌++◌, take, codes, Option, Some, None, if◌then◌else◌}
use Rattle.std.specs.Option.{option_or}
use Rattle.std.specs.Fmt.{decimal, signed_decimal}
use Rattle.std.specs.Io.KnownBytes.{Appends}
use Rattle.keeper_core.specs.Stored.{is_attachable}
use Rattle.keeper_core.specs.declared.keeper.Keeper.{Ghosts}
use Rattle.tap_rows.specs.declared.tables.Tables.{Tables}
use Rattle.script_lang.specs.Replies.{line}
use Rattle.restart_core.specs.declared.fault.RestartFault.{RestartFault}
use Rattle.restart_core.specs.declared.fault.RestartFault.TheVariants.{Damaged as DamagedRow, Memory}
use Rattle.restart_core.specs.declared.fault.TableName.{TableName}
use Rattle.restart_core.specs.declared.fault.TableName.TheVariants.{Docs, Notes, Queries, Runs, Picks, Filters}
use Rattle.restart_core.specs.declared.fault.Why.{Why}
use Rattle.restart_core.specs.declared.fault.Why.TheVariants.{Number, Moment, Reference, Name, Twice, Text, Second, Order}
use Rattle.restart_core.specs.Damages.{damage_of}
use Rattle.tap_kept.specs.Starting.{first_unread}
use Rattle.tap_top.specs.Premises.{FromStore, FromVersion, IfKnown}
use Rattle.tap_top.specs.declared.store_fault.StoreFault.{StoreFault}
use Rattle.tap_top.specs.declared.store_fault.StoreFault.TheVariants.{Version, Damaged}

-- the word of a table in the line of a refused store
abbrev pub table_word : TableName → List ℕ
table_word Docs = codes "docs"
table_word Notes = codes "notes"
table_word Queries = codes "queries"
table_word Runs = codes "runs"
table_word Picks = codes "picks"
table_word Filters = codes "filters"

-- the word of a reason in that line
abbrev pub why_word : Why → List ℕ
why_word Number = codes "number"
why_word Moment = codes "moment"
why_word Reference = codes "reference"
why_word Name = codes "name"
why_word Twice = codes "twice"
why_word Text = codes "text"
why_word Second = codes "second"
why_word Order = codes "order"

-- the line that is put for a refused store
abbrev pub stop_line : StoreFault → List ℕ
stop_line (Version version) = line (codes "stop 6 version " ++ signed_decimal version)
stop_line (Damaged table num why) =
    line (codes "stop 6 damaged " ++ table_word table ++ codes " " ++ decimal num ++ codes " " ++ why_word why)

-- the fault of a damaged row
abbrev pub damaged_by : Option RestartFault → Option StoreFault
damaged_by None = None
damaged_by (Some (DamagedRow table num why)) = Some (Damaged table num why)
damaged_by (Some Memory) = None

-- the fault of a filter whose text can't be read
abbrev pub unread_by : Option ℕ → Option StoreFault
unread_by None = None
unread_by (Some num) = Some (Damaged Filters num Text)

-- why tables are refused: for the first damaged row, else for the first filter whose text can't be read
abbrev pub row_fault : Tables → Option StoreFault
row_fault tables = option_or (damaged_by (damage_of tables)) (unread_by (first_unread tables.filters))

-- why a store of this version with these tables is refused: an unknown version, else the first damaged row, else the first filter
-- that can't be read
abbrev pub fault_of : ℤ → Tables → Option StoreFault
fault_of version tables = if is_attachable version then row_fault tables else Some (Version version)

-- a line was put: with status 6 all of it, else its first n bytes
pub record CutLine (status : ℕ) (text : List ℕ) (out out' : Option (List ℕ)) : Type 0 where
  pub n : ℕ
  pub written : Appends out out' (take n text)
  pub whole : status ≡ 6 → take n text ≡ text

-- a store with this fault was refused, or not looked at: of its line the first n bytes were put, all of them with status 6;
-- nothing was read, its tables are as before, and a crash leaves exactly these
pub record Refused (status : ℕ) (fault : StoreFault) (left left' out out' : Option (List ℕ))
    (tells leaves : Tables → Type 0) (tables : Tables) : Type 0 where
  pub statuses : status ≡ 2 ⊎ (status ≡ 4 ⊎ (status ≡ 5 ⊎ (status ≡ 6 ⊎ status ≡ 7)))
  pub unread : left' ≡ left
  pub line : CutLine status (stop_line fault) out out'
  pub none : status ≢ 4 → status ≢ 6 → line.n ≡ 0
  pub told : status ≢ 5 → tells tables
  pub exact : (x : Tables) → leaves x → x ≡ tables

-- a store is refused, with status 6, if and only if its version isn't known or one of its rows is damaged; one of a known version
-- that a session left is not refused
pub record Refusals {K : Type 0} (g : Ghosts K) (old new : K) (status : ℕ) (left left' out out' : Option (List ℕ)) : Type 0 where
  pub refused : FromVersion g old new (λ t v. (fault : StoreFault) → fault_of v t ≡ Some fault →
      Refused status fault left left' out out' (g.tells new) (g.may_leave new) t)
  pub fine : FromVersion g old new (λ t v. fault_of v t ≡ None → status ≢ 6)
  pub known : FromStore g old new (λ t. IfKnown (g.has_version old) (status ≢ 6))
