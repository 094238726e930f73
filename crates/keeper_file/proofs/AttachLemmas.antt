-- An attach, from the open of the store and the attach of what is open.
use Rattle.std.proofs.Common.{◌≡◌, ◌⊎◌, ◌≤◌, ℕ, ℤ, List, true, false, Option, Some, None, Result, Ok, Err, inl, inr, refl, sym, ap, subst}
use Rattle.std.proofs.Common.{◌∙◌}
use Rattle.std.specs.Prelude.{codes, IfErr}
use Rattle.std.proofs.lemmas.Result.{IfOk-weaker}
use Rattle.tap_base.specs.Counts.{Rose}
use Rattle.tap_rows.specs.declared.tables.Tables.{Tables}
use Rattle.keeper_core.specs.Keeping.{IsDurable}
use Rattle.keeper_core.specs.declared.fault.AttachFault.{AttachFault}
use Rattle.keeper_core.specs.declared.fault.AttachFault.TheVariants as fault
use Rattle.sqlite_trees.specs.declared.store.Store.{Ghosts}
use Rattle.sqlite.specs.Held.{Held, state}
use Rattle.sqlite.specs.State.{HasCleanDisk}
use Rattle.keeper_file.specs.OpenerFiles.{FilesOf}
use Rattle.keeper_file.specs.Failing.{FailsToAttachFrom, FailsToAttachOpen}
use Rattle.keeper_file.specs.Attaching.{Attaches}
use Rattle.keeper_file.specs.Cases.{Tells, HasVersion, IsHonest, MayLeave, is_attached, is_stopped, faults_of, path_of, is_stopped_at}
use Rattle.keeper_file.specs.Cases.{memory_path}
use Rattle.keeper_file.specs.declared.inner.Inner.{Inner}
use Rattle.keeper_file.specs.declared.inner.Inner.TheVariants.{Memory}
use Rattle.keeper_file.specs.declared.inner.InMemory.{InMemory}
use Rattle.keeper_sql.specs.declared.sql_keeper.SqlKeeper.{SqlKeeper}
use Rattle.sqlite_trees.specs.declared.memory.MemStore.{MemStore}
use Rattle.sqlite.specs.Steps.{over_memory}
use Rattle.keeper_file.proofs.DurableLemmas.{alien_then}
use Rattle.keeper_file.proofs.MemoryLemmas.{not_misplaced, at_memory}

module _ {A O : Type 0} (files : FilesOf O) (g : Ghosts A) (old new : Inner A O g) (at : List ℕ)
    (honest : IsHonest files g new → IsHonest files g old)
    (version : IsHonest files g new → (v : ℤ) → HasVersion files g old v → HasVersion files g new v) where
  -- no store was opened
  module _ (durable : IsHonest files g new → (t : Tables) → Tells files g old t → IsDurable (Tells files g new) (MayLeave files g new) t)
      (free : is_attached new ≡ false) (later : faults_of old ≤ faults_of new) where
    short : is_stopped new ≡ false → path_of new ≡ path_of old → faults_of new ≡ faults_of old
        → Attaches files g old new at (Err fault.Memory)
    short running path faults = record {
      attached = (λ yes. absurd (let a = yes in let b = free in cc), λ ok. absurd (let e = ok in cc));
      stopped = (λ yes. absurd (let a = yes in let b = running in cc), λ same. absurd (let e = same in cc));
      placed = inr (refl, path);
      stays = λ out. path;
      later = later;
      cause = λ same. absurd (let e = same in cc);
      calm = λ runs. faults;
      honest = honest;
      given = tt;
      kept = λ clean s told runs. durable clean s told;
      crash = λ clean s told x left. (durable clean s told).exact x left;
      answered = tt;
      version = tt;
      known = λ clean v has. tt;
      alien = tt;
      same = tt;
      migrated = λ out clean w has. inl (version clean w has);
    }

    failed : is_stopped new ≡ true → path_of new ≡ at → Rose (faults_of old) (faults_of new)
        → Attaches files g old new at (Err fault.Failed)
    failed halted path rose = record {
      attached = (λ yes. absurd (let a = yes in let b = free in cc), λ ok. absurd (let e = ok in cc));
      stopped = (λ yes. refl, λ same. halted);
      placed = inl path;
      stays = λ same. absurd (let e = same in cc);
      later = later;
      cause = λ same. rose;
      calm = λ runs. absurd (let a = halted in let b = runs in cc);
      honest = honest;
      given = tt;
      kept = λ clean s told runs. durable clean s told;
      crash = λ clean s told x left. (durable clean s told).exact x left;
      answered = tt;
      version = tt;
      known = λ clean v has. tt;
      alien = tt;
      same = tt;
      migrated = λ same clean w has. absurd (let e = same in cc);
    }

    pub not_opened : (f : AttachFault)
        → ((f ≡ fault.Memory) × (is_stopped new ≡ false) × (path_of new ≡ path_of old) × (faults_of new ≡ faults_of old))
        ⊎ ((f ≡ fault.Failed) × (is_stopped new ≡ true) × (path_of new ≡ at) × Rose (faults_of old) (faults_of new))
        → Attaches files g old new at (Err f)
    not_opened f (inl m) = subst (λ x. Attaches files g old new at (Err x)) (sym m.0) (short m.1 m.2 m.3)
    not_opened f (inr m) = subst (λ x. Attaches files g old new at (Err x)) (sym m.0) (failed m.1 m.2 m.3)

-- a store was open, or was opened first
pub then_attached :
    {A O : Type 0} (files : FilesOf O) (g : Ghosts A) (old mid new : Inner A O g) (at : List ℕ) (result : Result Tables AttachFault)
    → (IsHonest files g mid → IsHonest files g old)
    → (IsHonest files g mid → (t : Tables) → Tells files g old t → Tells files g mid t)
    → (IsHonest files g mid → (v : ℤ) → HasVersion files g old v → HasVersion files g mid v)
    → path_of mid ≡ path_of old → faults_of mid ≡ faults_of old → Attaches files g mid new at result → Attaches files g old new at result
then_attached files g old mid new at result honest told version path faults a = record {
  attached = a.attached;
  stopped = a.stopped;
  placed = subst (λ p. (path_of new ≡ at) ⊎ ((result ≡ Err fault.Memory) × (path_of new ≡ p))) path a.placed;
  stays = λ out. a.stays out ∙ path;
  later = subst (λ n. n ≤ faults_of new) faults a.later;
  cause = λ is. subst (λ n. Rose n (faults_of new)) faults (a.cause is);
  calm = λ runs. a.calm runs ∙ faults;
  honest = λ clean. honest (a.honest clean);
  given = IfOk-weaker result _ _ (λ given so clean s tells. so clean s (told (a.honest clean) s tells)) a.given;
  kept = λ clean s tells runs. a.kept clean s (told (a.honest clean) s tells) runs;
  crash = λ clean s tells x left. a.crash clean s (told (a.honest clean) s tells) x left;
  answered = a.answered;
  version = a.version;
  known = λ clean v has. a.known clean v (version (a.honest clean) v has);
  alien = a.alien;
  same = alien_then result _ _ a.same (λ v so clean w has. so clean w (version (a.honest clean) w has));
  migrated = λ out clean w has. a.migrated out clean w (version (a.honest clean) w has);
}

pub attaches_from :
    {A O : Type 0} (files : FilesOf O) (g : Ghosts A) (old now new : Inner A O g) (at : List ℕ) (result : Result Tables AttachFault)
    → old ≡ now → Attaches files g now new at result → Attaches files g old new at result
attaches_from files g old now new at result is a = subst (λ k. Attaches files g k new at result) (sym is) a

-- ---- an attach that failed

pub failed_from : {S : Type 0} (g : Ghosts S) (old new : Held S) (result : Result Tables AttachFault) → result ≡ Err fault.Failed
    → (HasCleanDisk (state g new) → IfErr result (FailsToAttachFrom g old new)) → HasCleanDisk (state g new)
    → FailsToAttachFrom g old new fault.Failed
failed_from g old new result failed fails clean = subst (λ r. IfErr r (FailsToAttachFrom g old new)) failed (fails clean)

pub failed_open : {A O : Type 0} {g : Ghosts A} (old now new : Inner A O g) → old ≡ now → FailsToAttachOpen now new
    → FailsToAttachOpen old new
failed_open old now new is fails = subst (λ k. FailsToAttachOpen k new) (sym is) fails

-- ---- a store in memory

pub attaches_with : {A O : Type 0} (files : FilesOf O) (g : Ghosts A) (old : InMemory) (now : SqlKeeper MemStore over_memory) (at : List ℕ)
    (result : Result Tables AttachFault)
    → is_stopped_at old.misplaced_at old.keeper.stopped ≡ false
    → Attaches {A = A} files g (Memory (record { keeper = old.keeper; misplaced_at = None }))
    (Memory (record { keeper = now; misplaced_at = None })) at result
    → Attaches {A = A} files g (Memory old) (Memory (record { keeper = now; misplaced_at = old.misplaced_at })) at result
attaches_with {A} files g old now at result runs a =
    subst (λ path. Attaches {A = A} files g (Memory (record { keeper = old.keeper; misplaced_at = path }))
    (Memory (record { keeper = now; misplaced_at = path })) at result)
    (sym (not_misplaced old.misplaced_at old.keeper.stopped runs)) a

pub placed_in_memory : (now was at : List ℕ) (result : Result Tables AttachFault) → at ≡ codes ":memory:"
    → (now ≡ at) ⊎ ((result ≡ Err fault.Memory) × (now ≡ was))
    → (memory_path now ≡ at) ⊎ ((result ≡ Err fault.Memory) × (memory_path now ≡ memory_path was))
placed_in_memory now was at result is (inl placed) = inl (at_memory now at is placed)
placed_in_memory now was at result is (inr out) = inr (out.0, ap memory_path out.1)
