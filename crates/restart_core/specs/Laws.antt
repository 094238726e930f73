-- Laws of the sources of queries, and of damaged rows.
use Rattle.std.specs.Prelude.{◌≡◌, ℕ, List, true, None, IsOk}
use Rattle.tap_rows.specs.declared.tables.Tables.{Tables}
use Rattle.tap_rows.specs.Kept.{Each}
use Rattle.tap_rows.specs.WellFormed.{is_well_formed}
use Rattle.restart_core.specs.Starts.{is_from_now, condition_text, stored_source}
use Rattle.restart_core.specs.Damages.{damage_of}
use Rattle.restart_core.specs.Readings.{reading_of}

-- the stored source is from now if and only if the given one is, and has its condition's text
pub record StoredSourcesSayTheSame : Type 0 where
  pub start : (source : List ℕ) → is_from_now (stored_source source) ≡ is_from_now source
  pub text : (source : List ℕ) → condition_text (stored_source source) ≡ condition_text source

-- no row is damaged if and only if the tables are well formed and each query's source can be read
pub record SoundTablesAreUndamaged : Type 0 where
  pub formed : (tables : Tables) → damage_of tables ≡ None → is_well_formed tables ≡ true
  pub readable : (tables : Tables) → damage_of tables ≡ None → Each (λ query. IsOk (reading_of query)) tables.queries
  pub undamaged : (tables : Tables) → is_well_formed tables ≡ true → Each (λ query. IsOk (reading_of query)) tables.queries
      → damage_of tables ≡ None
