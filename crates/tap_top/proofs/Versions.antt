-- The version of a store after a run.
use Rattle.std.proofs.Common.{◌≡◌, ◌≤◌, ◌∙◌, sym, subst, refl, arith, ℕ, ℤ, pos, Bool, true, false, Result, Ok, Err, inl, inr}
use Rattle.std.specs.Prelude.{◌⊎◌, ◌≢◌}
use Rattle.tap_rows.specs.declared.tables.Tables.{Tables}
use Rattle.keeper_core.specs.declared.fault.AttachFault.{AttachFault}
use Rattle.keeper_core.specs.declared.fault.AttachFault.TheVariants.{Alien}
use Rattle.keeper_core.specs.Keeping.{IfAlien}
use Rattle.tap_top.specs.declared.status.Status.{Status}
use Rattle.tap_top.specs.Codes.{code_of, IsOfClose, IsOfRun}
use Rattle.tap_top.specs.declared.opening.OpenFault.{OpenFault}
use Rattle.tap_top.specs.declared.opening.OpenFault.TheVariants.{Refused as RefusedStore, Keeper, Memory}
use Rattle.tap_top.specs.Opened.{IfRefused}
use Rattle.tap_top.proofs.Codes.{run-code, close-code}
use Rattle.tap_top.specs.Versions.{IsMigrated, MayBeMigrated, MayBeUnopened, VersionAtExit}

-- a store of a known version was attached
pub known-migrated : (v : ℤ) (versions' : ℤ → Type 0) → (v ≡ pos 1) ⊎ (v ≡ pos 2) → versions' (pos 2) → IsMigrated v versions'
known-migrated v versions' (inl one) two = ((λ _. two), (λ no. absurd (no one)))
known-migrated v versions' (inr is) two = ((λ _. two), (λ _. subst versions' (sym is) two))

pub known-may : (v : ℤ) (versions' : ℤ → Type 0) → (v ≡ pos 1) ⊎ (v ≡ pos 2) → versions' (pos 2) → MayBeMigrated v versions'
known-may v versions' (inl one) two = inr (one, two)
known-may v versions' (inr is) two = inl (subst versions' (sym is) two)

alien-for : (P : ℤ → Type 0) (end : AttachFault) (version : ℤ) → IfAlien {T = Tables} (Err end) P → end ≡ Alien version → P version
alien-for P end version holds is = subst (λ x. IfAlien {T = Tables} (Err x) P) is holds

-- a store of another version was refused
pub alien-migrated : (end : AttachFault) (version w : ℤ) (versions' : ℤ → Type 0) (honest : Type 0) (versions : ℤ → Type 0)
    → end ≡ Alien version → IfAlien {T = Tables} (Err end) (λ v. (v ≢ pos 1) × (v ≢ pos 2))
    → IfAlien {T = Tables} (Err end) (λ v. honest → (u : ℤ) → versions u → (u ≡ v) × versions' u) → honest → versions w
    → IsMigrated w versions'
alien-migrated end version w versions' honest versions is alien same now has =
    let other = alien-for (λ v. (v ≢ pos 1) × (v ≢ pos 2)) end version alien is in
    let here = alien-for (λ v. honest → (u : ℤ) → versions u → (u ≡ v) × versions' u) end version same is now w has in
    ((λ one. absurd (other.0 (sym here.0 ∙ one))), (λ _. here.1))

-- what holds of each fault holds of the one for which a store was refused
pub each-refused : {T : Type 0} (r : Result T OpenFault) (P : Type 0) → P → IfRefused r (λ _. P)
each-refused (Ok opened) P holds = tt
each-refused (Err (RefusedStore fault)) P holds = holds
each-refused (Err Keeper) P holds = tt
each-refused (Err Memory) P holds = tt

run-not : (n : ℕ) → (n ≤ 1 ⊎ (n ≡ 3 ⊎ (n ≡ 4 ⊎ (n ≡ 5 ⊎ (n ≡ 7 ⊎ n ≡ 8))))) → n ≡ 2 → ⊥
run-not n one is = grind (arith, one, is)

pub run-not-two : (status : Status) → IsOfRun status → code_of status ≡ 2 → ⊥
run-not-two status one is = run-not (code_of status) (run-code status one) is

sample-not : (n : ℕ) → (n ≤ 1 ⊎ (n ≡ 4 ⊎ (n ≡ 5 ⊎ n ≡ 7))) → n ≡ 2 → ⊥
sample-not n one is = grind (arith, one, is)

pub sample-not-two : (status : Status) → IsOfClose status → code_of status ≡ 2 → ⊥
sample-not-two status one is = sample-not (code_of status) (close-code status one) is

-- the store was opened, and has version 2
pub exit-opened : (status : ℕ) (versions versions' : ℤ → Type 0) → (status ≡ 2 → ⊥) → versions' (pos 2)
    → ((v : ℤ) → versions v → (v ≡ pos 1) ⊎ (v ≡ pos 2)) → VersionAtExit status versions versions'
exit-opened status versions versions' no-words two known = record {
  opened = λ _. two;
  unattached = λ is. absurd (no-words is);
  attached = λ _ v has. known-migrated v versions' (known v has) two;
  memory = λ _ v has. known-may v versions' (known v has) two;
}

-- a keeper failed
pub exit-failed : (status : ℕ) (versions versions' : ℤ → Type 0) → status ≡ 5 → VersionAtExit status versions versions'
exit-failed status versions versions' five = record {
  opened = λ no. absurd (no (inr (inr (inl five))));
  unattached = λ is. absurd (not-two is);
  attached = λ is. absurd (not-refused is);
  memory = λ is. absurd (not-seven is);
} where
  not-two : status ≡ 2 → ⊥
  not-two is = omega arith

  not-refused : (status ≡ 4) ⊎ (status ≡ 6) → ⊥
  not-refused is = grind (arith, five, is)

  not-seven : status ≡ 7 → ⊥
  not-seven is = omega arith

-- an engine ran over the store
pub exit-run : (status : ℕ) (halted : Bool) (versions versions' : ℤ → Type 0) → (status ≡ 2 → ⊥) → (halted ≡ true → status ≡ 5)
    → (halted ≡ false → versions' (pos 2)) → ((v : ℤ) → versions v → (v ≡ pos 1) ⊎ (v ≡ pos 2)) → VersionAtExit status versions versions'
exit-run status true versions versions' no-words stopped two known = exit-failed status versions versions' (stopped refl)
exit-run status false versions versions' no-words stopped two known = exit-opened status versions versions' no-words (two refl) known

-- a store was refused
pub exit-refused : (status : ℕ) (versions versions' : ℤ → Type 0) → (status ≡ 6 ⊎ status ≡ 4)
    → ((v : ℤ) → versions v → IsMigrated v versions') → VersionAtExit status versions versions'
exit-refused status versions versions' one migrated = record {
  opened = λ no. absurd (no (may one));
  unattached = λ is. absurd (not-two is);
  attached = λ _. migrated;
  memory = λ is. absurd (not-seven is);
} where
  may : (status ≡ 6 ⊎ status ≡ 4) → MayBeUnopened status
  may (inl six) = inr (inr (inr (inl six)))
  may (inr four) = inr (inl four)

  not-two : status ≡ 2 → ⊥
  not-two is = grind (arith, one, is)

  not-seven : status ≡ 7 → ⊥
  not-seven is = grind (arith, one, is)

-- there was no memory to open a store
pub exit-memory : (versions versions' : ℤ → Type 0) → ((v : ℤ) → versions v → MayBeMigrated v versions')
    → VersionAtExit 7 versions versions'
exit-memory versions versions' may = record {
  opened = λ no. absurd (no (inr (inr (inr (inr refl)))));
  unattached = λ is. absurd (omega (arith, is));
  attached = λ is. absurd (neither 7 refl is);
  memory = λ _. may;
} where
  neither : (n : ℕ) → n ≡ 7 → (n ≡ 4) ⊎ (n ≡ 6) → ⊥
  neither n seven is = grind (arith, seven, is)

-- the words were refused
pub exit-words : (versions : ℤ → Type 0) → VersionAtExit 2 versions versions
exit-words versions = record {
  opened = λ no. absurd (no (inl refl));
  unattached = λ _ v has. has;
  attached = λ is. absurd (neither 2 refl is);
  memory = λ is. absurd (omega (arith, is));
} where
  neither : (n : ℕ) → n ≡ 2 → (n ≡ 4) ⊎ (n ≡ 6) → ⊥
  neither n two is = grind (arith, two, is)

-- there was no memory to read the words
pub exit-unopened : (versions : ℤ → Type 0) → VersionAtExit 7 versions versions
exit-unopened versions = exit-memory versions versions (λ v has. inl has)
