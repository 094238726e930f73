-- What the statements that make the tables mean, while the tables are made and once all are there.
use Rattle.std.proofs.Common.{◌≡◌, ◌<◌, ℕ, zero, suc, Ok, false, refl, arith}
use Rattle.sqlite_tied.specs.Compute.{everything}
use Rattle.sqlite_resolve.specs.Compile.{table_defined_by}
use Rattle.sqlite_catalog.specs.Change.{created, next_tree}
use Rattle.sqlite.specs.Does.{lacks_sequence}
use Rattle.sqlite.specs.Listing.{understood}
use Rattle.sqlite.proofs.Callers.{IsPlain, command_of, statement_of}
use Rattle.sqlite_schema.specs.declared.schema.Table.{Table}
use Rattle.sqlite_schema.specs.declared.command.Command.TheVariants.{CreateTable, Nothing}
use Rattle.keeper_sql.specs.Schema.{store_schema, schema_prefix, create_text, meta_at, docs_at, notes_at, queries_at, runs_at, picks_at}
use Rattle.keeper_sql.specs.Schema.{filters_at}

-- over the tables before this place, the text of the place makes this table
abbrev pub MakesTable : ℕ → Table → Type 0
MakesTable k table =
    (command_of (understood (schema_prefix k) (create_text k)) ≡ CreateTable)
    × (statement_of (create_text k) (understood (schema_prefix k) (create_text k)) ≡ create_text k)
    × (table_defined_by (create_text k) ≡ Ok table) × IsPlain (understood (schema_prefix k) (create_text k))

-- behind the tables before this place, this table is the next one
abbrev pub IsNext : ℕ → Table → Type 0
IsNext k table =
    (next_tree (schema_prefix k) ≡ k) × (created (schema_prefix k) table ≡ schema_prefix (suc k))
    × (lacks_sequence (schema_prefix (suc k)) ≡ false)

pub makes_next : (k : ℕ) → k < 7 → (table : Table) × MakesTable k table × IsNext k table
unfolding understood everything
makes_next zero lt = (meta_at 0, (refl, refl, refl, (refl, refl)), (refl, refl, refl))
makes_next (suc zero) lt = (docs_at 0, (refl, refl, refl, (refl, refl)), (refl, refl, refl))
makes_next (suc (suc zero)) lt = (notes_at 0, (refl, refl, refl, (refl, refl)), (refl, refl, refl))
makes_next (suc (suc (suc zero))) lt = (queries_at 0, (refl, refl, refl, (refl, refl)), (refl, refl, refl))
makes_next (suc (suc (suc (suc zero)))) lt = (runs_at 0, (refl, refl, refl, (refl, refl)), (refl, refl, refl))
makes_next (suc (suc (suc (suc (suc zero))))) lt = (picks_at 0, (refl, refl, refl, (refl, refl)), (refl, refl, refl))
makes_next (suc (suc (suc (suc (suc (suc zero)))))) lt = (filters_at 0, (refl, refl, refl, (refl, refl)), (refl, refl, refl))
makes_next (suc (suc (suc (suc (suc (suc (suc k))))))) lt = absurd (omega (arith, lt))

-- over all tables, the text of this place does nothing
abbrev pub DoesNothing : ℕ → Type 0
DoesNothing k = (command_of (understood store_schema (create_text k)) ≡ Nothing) × IsPlain (understood store_schema (create_text k))

pub does_nothing : (k : ℕ) → k < 7 → DoesNothing k
unfolding understood everything
does_nothing zero lt = (refl, (refl, refl))
does_nothing (suc zero) lt = (refl, (refl, refl))
does_nothing (suc (suc zero)) lt = (refl, (refl, refl))
does_nothing (suc (suc (suc zero))) lt = (refl, (refl, refl))
does_nothing (suc (suc (suc (suc zero)))) lt = (refl, (refl, refl))
does_nothing (suc (suc (suc (suc (suc zero))))) lt = (refl, (refl, refl))
does_nothing (suc (suc (suc (suc (suc (suc zero)))))) lt = (refl, (refl, refl))
does_nothing (suc (suc (suc (suc (suc (suc (suc k))))))) lt = absurd (omega (arith, lt))
