-- What a run of the mail filter ends with: whatever its store is, over the tables of a store, and of its keeper.
use Rattle.std.specs.Prelude.{ℕ, ℤ, ◌≡◌, ◌≢◌, ◌≤◌, ◌⊎◌, ◌↔◌, List, [], Option, Some, None, true, false}
use Rattle.std.specs.Io.KnownBytes.{IsAtEnd}
use Rattle.clap.specs.Words.{takes, fault_of as faults_of}
use Rattle.command_words.specs.Options.{app}
use Rattle.command_words.specs.Words.{sample_in}
use Rattle.command_words.specs.WellWorded.{IsWellWorded}
use Rattle.peer_edges.specs.Asks.{AskedOnlyWhen}
use Rattle.tap_base.specs.Counts.{Rose}
use Rattle.tap_rows.specs.declared.tables.Tables.{Tables}
use Rattle.keeper_core.specs.declared.keeper.Keeper.{Ghosts}
use Rattle.keeper_core.specs.States.{IsPlacedBy}
use Rattle.tap_model.specs.Sound.{IsStore}
use Rattle.tap_top.specs.declared.store_fault.StoreFault.{StoreFault}
use Rattle.tap_top.specs.Ends.{ScriptEnds, SampleEnds}
use Rattle.tap_top.specs.Prompt.{IsUpToDate}
use Rattle.tap_top.specs.Premises.{IfKnown}
use Rattle.tap_top.specs.Refusals.{fault_of, Refused}
use Rattle.tap_top.specs.Versions.{VersionAtExit}
use Rattle.tap_top.specs.Statuses.{PassedScriptLimit}

-- how a run ended, whatever its store is
pub record RunEnds (words : List (List ℕ)) (status : ℕ) (left left' out out' : Option (List ℕ)) (reads reads' puts puts' : ℕ) :
    Type 0 where
  -- 2 comes only if the words aren't taken
  pub untaken : status ≡ 2 → takes app words ≡ false
  -- 2 comes only if `clap` finds a fault in the words
  pub exact : status ≡ 2 → faults_of app words ≢ []
  -- 2 doesn't come for well-worded words
  pub worded : (path : Option (List ℕ)) (number : Option ℕ) → IsWellWorded words path number → status ≢ 2
  -- if `clap` finds a fault, 2 comes unless the run is out of memory
  pub faulty : (status ≡ 2) ⊎ ((status ≡ 7) ⊎ (faults_of app words ≡ []))
  -- with 2 nothing was read or written
  pub nothing : status ≡ 2 → (out' ≡ out) × (left' ≡ left)
  -- a sample that ends with 5 or 7 has put nothing
  pub sample_silent : (n : ℕ) → sample_in words ≡ Some n → (status ≡ 5) ⊎ (status ≡ 7) → out' ≡ out
  -- a sample reads nothing
  pub sample_unread : (n : ℕ) → sample_in words ≡ Some n → (left' ≡ left) × ((status ≢ 3) × (status ≢ 8))
  -- 3 comes only if the source's count of faults rose
  pub read_cause : status ≡ 3 → Rose reads reads'
  -- with another status that count is unchanged
  pub read_calm : status ≢ 3 → reads' ≡ reads
  -- 4 comes only if the sink's count of faults rose
  pub put_cause : status ≡ 4 → Rose puts puts'
  -- with another status that count is unchanged
  pub put_calm : status ≢ 4 → puts' ≡ puts
  -- 8 comes only if more bytes were taken than a script may have
  pub many : status ≡ 8 → PassedScriptLimit left left'
  -- a script that ended with its commands was read to its end
  pub ended : sample_in words ≡ None → status ≤ 1 → IsAtEnd left'
  -- no other status comes
  pub statuses : status ≤ 8

-- how a run ended over a store with these tables
pub record RunEndsOver (words : List (List ℕ)) (status : ℕ) (left left' out out' : Option (List ℕ))
    (asked asked' : Option (List ℕ) → Option (List ℕ) → Type 0)
    (tables : Tables) (versions versions' : ℤ → Type 0) (tells leaves : Tables → Type 0) : Type 0 where
  -- over a store that a session left, how the script ended, by the status, and what a crash leaves
  pub script : sample_in words ≡ None → IsStore tables → ScriptEnds status tables left left' out out' versions tells leaves
  -- how a sample ended over it
  pub sample : (n : ℕ) → sample_in words ≡ Some n → IsStore tables → SampleEnds status tables n out out' versions tells leaves
  -- whenever the source was asked for more, the reply to each command that was complete in the bytes taken so far was out, whole,
  -- and nothing else
  pub prompt : IsStore tables → AskedOnlyWhen (λ l o. IsUpToDate tables left l out o) asked asked'
  -- what a crash leaves is a store again
  pub kept : IsStore tables → (x : Tables) → leaves x → IsStore x
  -- what the keeper tells is a store again, unless it failed
  pub told : IsStore tables → status ≢ 5 → (x : Tables) → tells x → IsStore x
  -- the version of the store after
  pub version : IsStore tables → VersionAtExit status versions versions'
  -- a store of an unknown version, or with a damaged row, is refused
  pub refused : (v : ℤ) → versions v → (fault : StoreFault) → fault_of v tables ≡ Some fault
      → Refused status fault left left' out out' tells leaves tables
  -- no other store is refused
  pub fine : (v : ℤ) → versions v → fault_of v tables ≡ None → status ≢ 6
  -- a store of a known version that a session left isn't refused
  pub known : IsStore tables → IfKnown versions (status ≢ 6)

-- how a run leaves its keeper; `path` is that of the words
pub record RunLeaves {K : Type 0} (g : Ghosts K) (old new : K) (status : ℕ) (path : List ℕ) : Type 0 where
  -- 5 comes only if the keeper's count of faults rose
  pub keeper_cause : status ≡ 5 → Rose (g.faults old) (g.faults new)
  -- unless the keeper is stopped, that count is unchanged
  pub keeper_calm : g.stopped new ≡ false → g.faults new ≡ g.faults old
  -- 5 comes if and only if the keeper is stopped
  pub stopped : (g.stopped new ≡ true) ↔ (status ≡ 5)
  -- the keeper's path is that of the words, or, with 2 or 7, perhaps the one before
  pub placed : IsPlacedBy status (g.path old) (g.path new) path
  -- with 2 the keeper is unchanged
  pub unattached : status ≡ 2 → new ≡ old
