-- A crash leaves what the files of an opener held, also after an open that failed.
use Rattle.std.proofs.Common.{◌≡◌, ◌⊎◌, inl, inr, Option, Some, None}
use Rattle.std.specs.Prelude.{IfSome, IsSomeAnd}
use Rattle.std.specs.Coded.{Coded-set}
use Rattle.std.proofs.Math.Logic.{∥∥₁_elim}
use Rattle.tap_rows.specs.declared.tables.Tables.{Tables}
use Rattle.tap_rows.specs.contracts.tables.Tables as rows
use Rattle.sqlite_disk.specs.declared.Disk.{Ghosts}
use Rattle.sqlite_wal.specs.Recovery.{Image}
use Rattle.sqlite.specs.declared.file.Leftover.{Leftover}
use Rattle.sqlite.specs.Files.{IsCleanLeft}
use Rattle.keeper_file.specs.Images.{ImageTells}
use Rattle.keeper_file.specs.ImageTells.{image_one}
use Rattle.keeper_file.specs.Leftovers.{HasNoSums, LeftTells, Spares, AreCleanSoFar, MayLeaveSoFar}

alone_after : {D : Type 0} {g : Ghosts D} (image : Image) (left : Option (Leftover D g)) (t x : Tables) → IfSome left (Spares image)
    → IfSome left (λ it. IsCleanLeft it × HasNoSums image) → ImageTells image t
    → ImageTells image x ⊎ IsSomeAnd left (λ it. LeftTells it x) → x ≡ t
alone_after image left t x spares clean told (inl may) = image_one image x t may told
alone_after image None t x spares clean told (inr may) = absurd may
alone_after image (Some it) t x spares clean told (inr may) = spares clean.0 clean.1 t told x may

module _ {S D : Type 0} {g : Ghosts D} (image : Image) where
  pub left_so_far : (start : Option S) (left : Option (Leftover D g)) (t : Tables) → ImageTells image t → MayLeaveSoFar image start left t
  left_so_far (Some start) left t told = told
  left_so_far None left t told = inl told

  pub alone_so_far : (start : Option S) (left : Option (Leftover D g)) (t x : Tables) → ∥ IfSome left (Spares image) ∥₁
      → AreCleanSoFar image start left → ImageTells image t → MayLeaveSoFar image start left x → x ≡ t
  alone_so_far (Some start) left t x spares clean told may = image_one image x t may told
  alone_so_far None left t x spares clean told may =
      ∥∥₁_elim spares (Coded-set rows.the_row.coded _ _) (λ s. alone_after image left t x s clean told may)
