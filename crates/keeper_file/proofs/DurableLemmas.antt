-- What a keeper tells is durable.
use Rattle.std.proofs.Common.{◌≡◌, ℤ, IsTrue, Result, Ok, Err}
use Rattle.tap_rows.specs.declared.tables.Tables.{Tables}
use Rattle.keeper_core.specs.Keeping.{IsDurable, IfAlien}
use Rattle.keeper_core.specs.declared.fault.AttachFault.{AttachFault}
use Rattle.keeper_core.specs.declared.fault.AttachFault.TheVariants as fault
use Rattle.sqlite_trees.specs.declared.store.Store.{Ghosts}
use Rattle.sqlite_trees.specs.Tree.{Trees}
use Rattle.keeper_file.specs.Images.{ImageTells}
use Rattle.keeper_file.specs.OpenerFiles.{FilesOf}
use Rattle.keeper_file.specs.Cases.{Tells, IsHonest, MayLeave}
use Rattle.keeper_file.specs.declared.inner.Inner.{Inner}
use Rattle.keeper_file.specs.Telling.{tells_alone_at}

pub alien_then : {T : Type 0} (r : Result T AttachFault) (P Q : ℤ → Type 0) → IfAlien r P → ((v : ℤ) → P v → Q v) → IfAlien r Q
alien_then (Ok x) P Q p so = tt
alien_then (Err (fault.Alien v)) P Q p so = so v p
alien_then (Err fault.Failed) P Q p so = tt
alien_then (Err fault.Memory) P Q p so = tt

module _ {A O : Type 0} (files : FilesOf O) (g : Ghosts A)
    (exact : (o : O) (t x : Tables) → files.clean o → ImageTells files.image t → files.leaves o x → x ≡ t)
    (settled : (s : A) (db : Trees) → IsTrue (g.view s).is_open → g.recovers s db → db ≡ (g.view s).committed) where
  -- a crash leaves what it tells
  pub told_durable : (inner : Inner A O g) (t : Tables) → IsHonest files g inner → Tells files g inner t
      → IsDurable (Tells files g inner) (MayLeave files g inner) t
  told_durable inner t honest told =
      record { told = told; exact = λ x left. tells_alone_at files g inner t x exact settled honest told left }
