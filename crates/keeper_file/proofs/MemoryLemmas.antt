-- A store in memory is attached at `:memory:`, or was misplaced.
use Rattle.std.proofs.Common.{◌≡◌, ℕ, Bool, false, List, [], ◌∷◌, Option, Some, None, inl, inr, refl, sym, ap, ◌∙◌}
use Rattle.std.specs.Prelude.{codes, unwrap_or, is_some}
use Rattle.sqlite_trees.specs.declared.store.Store.{Ghosts}
use Rattle.keeper_file.specs.Cases.{IsInMemory, has_files, is_stopped, path_of, is_stopped_at, memory_path, path_with}
use Rattle.keeper_file.specs.declared.inner.Inner.{Inner}
use Rattle.keeper_file.specs.declared.inner.Inner.TheVariants.{Unopened, Memory, File}

-- while it runs it isn't misplaced
pub not_misplaced : (path : Option (List ℕ)) (b : Bool) → is_stopped_at path b ≡ false → path ≡ None
not_misplaced None b runs = refl
not_misplaced (Some path) b runs = absurd (let e = runs in cc)

pub runs_with : (path : Option (List ℕ)) (b : Bool) → is_stopped_at path b ≡ false → b ≡ false
runs_with None b runs = runs
runs_with (Some path) b runs = absurd (let e = runs in cc)

pub at_memory : (path at : List ℕ) → at ≡ codes ":memory:" → path ≡ at → memory_path path ≡ at
at_memory path at is placed = ap memory_path (placed ∙ is) ∙ sym is

in_memory : (path : List ℕ) → IsInMemory (memory_path path)
in_memory [] = inl refl
in_memory (byte ∷ bytes) = inr refl

memory_with : (other : Option (List ℕ)) (b : Bool) (path : List ℕ) → is_stopped_at other b ≡ false → IsInMemory (path_with other path)
memory_with None b path runs = in_memory path
memory_with (Some other) b path runs = absurd (let e = runs in cc)

unopened_at : (path : Option (List ℕ)) → is_some path ≡ false → IsInMemory (unwrap_or path [])
unopened_at None runs = inl refl
unopened_at (Some path) runs = absurd (let e = runs in cc)

-- a keeper that runs and has no file open is attached nowhere, or in memory
pub without_files : {A O : Type 0} {g : Ghosts A} (inner : Inner A O g) → is_stopped inner ≡ false → has_files inner ≡ false
    → IsInMemory (path_of inner)
without_files (Unopened u) runs none = unopened_at u.failed_at runs
without_files (Memory m) runs none = memory_with m.misplaced_at m.keeper.stopped (unwrap_or m.keeper.path []) runs
without_files (File k) runs none = absurd (let e = none in cc)
