-- What an attach does to a keeper that opens its store as it is attached.
use Rattle.std.specs.Prelude.{◌≡◌, ◌≢◌, ◌⊎◌, ◌↔◌, ◌≤◌, ℕ, ℤ, pos, List, true, false, Result, Err, IsOk, IfOk, OnOk, codes}
use Rattle.tap_base.specs.Counts.{Rose}
use Rattle.tap_rows.specs.declared.tables.Tables.{Tables}
use Rattle.keeper_core.specs.Keeping.{IsDurable, IfAlien}
use Rattle.keeper_core.specs.declared.fault.AttachFault.{AttachFault}
use Rattle.keeper_core.specs.declared.fault.AttachFault.TheVariants as fault
use Rattle.sqlite_trees.specs.declared.store.Store.{Ghosts}
use Rattle.keeper_file.specs.OpenerFiles.{FilesOf}
use Rattle.keeper_file.specs.Cases.{Tells, HasVersion, IsHonest, MayLeave, has_open_store, is_in_memory, is_attached, is_stopped, faults_of}
use Rattle.keeper_file.specs.Cases.{path_of}
use Rattle.keeper_file.specs.declared.inner.Inner.{Inner}

module _ {A O : Type 0} {g : Ghosts A} where
  -- what was opened now is in memory if and only if the path is `:memory:`; what was open stays so
  pub record OpensAtPath (old new : Inner A O g) (at : List ℕ) : Type 0 where
    pub memory : has_open_store old ≡ false → has_open_store new ≡ true → (is_in_memory new ≡ true) ↔ (at ≡ codes ":memory:")
    pub same : has_open_store old ≡ true → is_in_memory new ≡ is_in_memory old

module _ {A O : Type 0} (files : FilesOf O) (g : Ghosts A) where
  -- the promise of each keeper for an attach
  pub record Attaches (old new : Inner A O g) (at : List ℕ) (result : Result Tables AttachFault) : Type 0 where
    pub attached : (is_attached new ≡ true) ↔ IsOk result
    pub stopped : (is_stopped new ≡ true) ↔ (result ≡ Err fault.Failed)
    pub placed : (path_of new ≡ at) ⊎ ((result ≡ Err fault.Memory) × (path_of new ≡ path_of old))
    pub stays : result ≡ Err fault.Memory → path_of new ≡ path_of old
    pub later : faults_of old ≤ faults_of new
    pub cause : result ≡ Err fault.Failed → Rose (faults_of old) (faults_of new)
    pub calm : is_stopped new ≡ false → faults_of new ≡ faults_of old
    pub honest : IsHonest files g new → IsHonest files g old
    pub given : IfOk result (λ given. IsHonest files g new → (s : Tables) → Tells files g old s → s ≡ given)
    pub kept : IsHonest files g new → (s : Tables) → Tells files g old s → is_stopped new ≡ false
        → IsDurable (Tells files g new) (MayLeave files g new) s
    pub crash : IsHonest files g new → (s : Tables) → Tells files g old s → (x : Tables) → MayLeave files g new x → x ≡ s
    pub answered : IfOk result (λ given. IsHonest files g new → (t : Tables) → Tells files g new t → t ≡ given)
    pub version : OnOk result (IsHonest files g new → (t : Tables) → Tells files g new t → HasVersion files g new (pos 2))
    pub known : IsHonest files g new → (v : ℤ) → HasVersion files g old v → OnOk result ((v ≡ pos 1) ⊎ (v ≡ pos 2))
    pub alien : IfAlien result (λ v. (v ≢ pos 1) × (v ≢ pos 2))
    pub same : IfAlien result (λ v. IsHonest files g new → (w : ℤ) → HasVersion files g old w → (w ≡ v) × HasVersion files g new w)
    pub migrated : result ≡ Err fault.Memory → IsHonest files g new → (w : ℤ) → HasVersion files g old w
        → HasVersion files g new w ⊎ ((w ≡ pos 1) × HasVersion files g new (pos 2))

  -- while no store is open after it, the keeper tells what it told before, and a crash leaves exactly that
  abbrev pub SparesFiles : Inner A O g → Inner A O g → Type 0
  SparesFiles old new = has_open_store new ≡ false → IsHonest files g new → (t : Tables) → Tells files g old t
      → IsDurable (Tells files g new) (MayLeave files g new) t
