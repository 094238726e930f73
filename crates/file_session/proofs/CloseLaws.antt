-- What a close gave, from its clauses.
use Rattle.std.proofs.Common.{◌≡◌, ◌≢◌, ◌⊎◌, ◌↔◌, ◌∙◌, ℕ, List, [], Bool, true, false, not, arith}
use Rattle.std.proofs.Common.{Option, Some, None, Result, Ok, Err, IsTrue, inl, inr, refl, sym, ap, subst}
use Rattle.std.specs.Prelude.{IfOk, IfErr, IfSome, is_some}
use Rattle.sqlite.specs.Files.{over_files}
use Rattle.sqlite_disk.specs.declared.Disk.{Ghosts}
use Rattle.sqlite_disk.specs.declared.Files.{Files}
use Rattle.sqlite_store.specs.declared.store.FileStore.{FileStore}
use Rattle.sqlite_store.specs.FileStore.{view}
use Rattle.sqlite_wal.specs.Reads.{AreClean}
use Rattle.tap_rows.specs.declared.tables.Tables.{Tables}
use Rattle.keeper_file.specs.declared.inner.Inner.{Inner}
use Rattle.keeper_file.specs.OpenerFiles.{FilesOf}
use Rattle.keeper_file.specs.Cases.{Tells, IsHonest, IsInMemory, has_files}
use Rattle.keeper_file.specs.Closing.{AreWhole, StoreLeavesOnly}
use Rattle.keeper_file.specs.Failing.{FailsToCloseOpen}
use Rattle.sqlite.specs.declared.error.Error.{Error}
use Rattle.file_session.specs.Closes.{IsClosedAs}

module _ {D O : Type 0} {g : Ghosts D} (first : FilesOf O) (inner : Inner (FileStore D g) O over_files) where
  pub closed-so : (given : Result (Option (Files D)) (Error × FileStore D g)) → (given ≡ Ok None → has_files inner ≡ false)
      → IfOk given (λ files. IfSome files (λ both. AreClean g both.log both.db → IsHonest first over_files inner))
      → IfErr given (λ left. IsTrue (view left.1).is_clean → IsHonest first over_files inner)
      → IfOk given (λ files. IfSome files (λ both. AreClean g both.log both.db → (t : Tables) → Tells first over_files inner t
      → AreWhole g both t))
      → IfErr given (λ left. IsTrue (view left.1).is_clean → (t : Tables) → Tells first over_files inner t → StoreLeavesOnly g left.1 t)
      → IfErr given (λ left. IsTrue (view left.1).is_clean → FailsToCloseOpen inner left.1 left.0)
      → IsClosedAs first inner (Some given)
  closed-so (Ok None) none honest left whole exact fails = none refl
  closed-so (Ok (Some files)) none honest left whole exact fails =
      λ clean. record { honest = honest clean; kept = λ t told. whole clean t told }
  closed-so (Err it) none honest left whole exact fails =
      λ clean. (record { honest = left clean; kept = λ t told. exact clean t told }, fails clean)

running : (b : Bool) (status : ℕ) → (b ≡ true) ↔ (status ≡ 5) → status ≢ 5 → b ≡ false
running true status stopped other = absurd (other (stopped.0 refl))
running false status stopped other = refl

-- initially nothing was attached
pub at_first : (A : Type 0) (now old named : List ℕ) → old ≡ [] → (A × (now ≡ old)) ⊎ (now ≡ named) → (A × (now ≡ [])) ⊎ (now ≡ named)
at_first A now old named none (inl (a, stays)) = inl (a, stays ∙ none)
at_first A now old named none (inr placed) = inr placed

-- a keeper that neither failed nor was refused is closed
pub neither : (status : ℕ) → status ≢ 5 → status ≢ 6 → (status ≡ 5) ⊎ (status ≡ 6) → ⊥
neither status five six (inl is) = five is
neither status five six (inr is) = six is

pub is_closed : {T : Type 0} (given : T) (status : ℕ) → status ≢ 5 → status ≢ 6 → (Some given ≡ None) ↔ ((status ≡ 5) ⊎ (status ≡ 6))
is_closed given status five six = (λ is. absurd (let e = is in cc), λ either. absurd (neither status five six either))

pub differ : false ≡ true → ⊥
differ is = let e = is in cc

-- a keeper that was closed had a file open
pub had_file : {D : Type 0} {g : Ghosts D} (given : Result (Option (Files D)) (Error × FileStore D g)) (has back : Bool)
    → (given ≡ Ok None → has ≡ false) → has ≡ true → back ≡ false → (Some given ≡ Some (Ok None)) ↔ (back ≡ true)
had_file (Ok None) has back none there gone = absurd (differ (sym (none refl) ∙ there))
had_file (Ok (Some files)) has back none there gone = (λ is. absurd (let e = is in cc), λ is. absurd (differ (sym gone ∙ is)))
had_file (Err left) has back none there gone = (λ is. absurd (let e = is in cc), λ is. absurd (differ (sym gone ∙ is)))

-- ---- the two keepers that a call may leave

pub at_some : {X : Type 0} (P : X → Type 0) (o : Option X) (x : X) → o ≡ Some x → IfSome o P → P x
at_some P o x is h = subst (λ v. IfSome v P) is h

pub from_both : {X : Type 0} (P Q : X → Type 0) (R : Type 0) (o : Option X) → is_some o ≡ true → IfSome o P → IfSome o Q
    → ((x : X) → P x → Q x → R) → R
from_both P Q R (Some x) is p q so = so x p q
from_both P Q R None is p q so = absurd (differ is)

-- what comes back if no file was open
pub unplaced : {X : Type 0} (A M : Type 0) (At : X → Type 0) (o : Option X) → is_some o ≡ true → IfSome o (λ x. (A × At x) ⊎ M) → A ⊎ M
unplaced A M At (Some x) is (inl at) = inl at.0
unplaced A M At (Some x) is (inr memory) = inr memory
unplaced A M At None is placed = absurd (differ is)

-- a keeper that has files open neither failed nor was refused
pub is_there : {X B : Type 0} (open_one : Option X) (keeper : X) (status : ℕ) → open_one ≡ Some keeper
    → ((status ≡ 5) ⊎ (status ≡ 6) → (is_some open_one ≡ false) × B) → (status ≡ 5) ⊎ (status ≡ 6) → ⊥
is_there open_one keeper status is gone either = differ (sym (gone either).0 ∙ ap is_some is)

-- the other one isn't there
pub other_one : {X Y : Type 0} (one : Option X) (other : Option Y) (at : Option X) (b : Bool) → one ≡ at → is_some at ≡ b
    → is_some other ≡ not (is_some one) → is_some other ≡ not b
other_one one other at b is there said = said ∙ ap not (ap is_some is ∙ there)

pub never_closed : {T : Type 0} (given : T) (A : Type 0) → (A → ⊥) → (Some given ≡ None) ↔ A
never_closed given A never = (λ is. absurd (let e = is in cc), λ a. absurd (never a))

pub either_of : {A B : Type 0} → A ⊎ ((A → ⊥) × B) → A ⊎ B
either_of (inl a) = inl a
either_of (inr both) = inr both.1

pub not_two : (status : ℕ) → status ≡ 2 → (status ≡ 5) ⊎ (status ≡ 6) → ⊥
not_two status two (inl is) = omega (arith, two, is)
not_two status two (inr is) = omega (arith, two, is)

-- a keeper that runs and has no file open is attached nowhere, or in memory
pub in_memory : (A : Type 0) (stopped : Bool) (status : ℕ) (now named : List ℕ) → (stopped ≡ false → IsInMemory now)
    → (stopped ≡ true) ↔ (status ≡ 5) → status ≢ 5 → (A × (now ≡ [])) ⊎ (now ≡ named) → (A × (now ≡ [])) ⊎ IsInMemory named
in_memory A stopped status now named memory is other (inl nowhere) = inl nowhere
in_memory A stopped status now named memory is other (inr placed) = inr (subst IsInMemory placed (memory (running stopped status is other)))
