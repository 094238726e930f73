-- What is said of the tables of a keeper.
use Rattle.std.specs.Prelude.{◌≡◌, ◌≢◌, ℤ, ⊤, true, [], Result, Ok, Err}
use Rattle.tap_rows.specs.declared.tables.Tables.{Tables}
use Rattle.tap_rows.specs.declared.change.Change.{Change}
use Rattle.tap_rows.specs.declared.change.Change.TheVariants.{Docs}
use Rattle.tap_rows.specs.Fits.{fits}
use Rattle.tap_rows.specs.WellFormed.{is_well_formed}
use Rattle.keeper_core.specs.declared.fault.AttachFault.{AttachFault}
use Rattle.keeper_core.specs.declared.fault.AttachFault.TheVariants.{Alien, Failed, Memory}

-- a keeper tells these tables, and a crash leaves exactly these
pub record IsDurable (tells leaves : Tables → Type 0) (tables : Tables) : Type 0 where
  pub told : tells tables
  pub exact : (x : Tables) → leaves x → x ≡ tables

-- the change has rows, and they stand in order behind those of well-formed tables; for such a change a commit promises its rows
pub record AddsRowsTo (change : Change) (tables : Tables) : Type 0 where
  pub formed : is_well_formed tables ≡ true
  pub fits : fits tables change ≡ true
  pub some : change ≢ Docs []

-- if an attach was refused for a version, this holds of it
abbrev pub IfAlien : {T : Type 0} → Result T AttachFault → (ℤ → Type 0) → Type 0
IfAlien (Ok given) P = ⊤
IfAlien (Err (Alien version)) P = P version
IfAlien (Err Failed) P = ⊤
IfAlien (Err Memory) P = ⊤
