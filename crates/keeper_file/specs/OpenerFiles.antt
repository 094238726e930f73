-- What an opener's files hold.
use Rattle.std.specs.Prelude.{Bool}
use Rattle.tap_rows.specs.declared.tables.Tables.{Tables}
use Rattle.sqlite_wal.specs.Recovery.{Image}

-- what an opener says of its files: what they held initially, whether it has opened nothing, also none that it failed to open,
-- whether they returned what was written, and what a crash of them may leave
pub record FilesOf (O : Type 0) : Type 1 where
  pub image : Image
  pub is_unused : O → Bool
  pub clean : O → Type 0
  pub leaves : O → Tables → Type 0
