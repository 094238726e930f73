-- What a session of the server of a box ends with: whatever its store is, and over the tables of a store.
use Rattle.std.specs.Prelude.{ℕ, ℤ, ◌≡◌, ◌≢◌, ◌≤◌, ◌⊎◌, List, [], Option, Some, None, false}
use Rattle.std.specs.Io.KnownBytes.{IsAtEnd}
use Rattle.clap.specs.Words.{takes, fault_of as faults_of}
use Rattle.command_words.specs.PopOptions.{pop_app}
use Rattle.command_words.specs.PopWords.{user_in, box_in, secret_in, IsPopWorded}
use Rattle.tap_base.specs.Counts.{Rose}
use Rattle.tap_rows.specs.declared.tables.Tables.{Tables}
use Rattle.tap_model.specs.Sound.{IsStore}
use Rattle.tap_top.specs.declared.store_fault.StoreFault.{StoreFault}
use Rattle.tap_top.specs.Premises.{IfKnown}
use Rattle.tap_top.specs.Refusals.{fault_of, Refused}
use Rattle.tap_top.specs.Versions.{VersionAtExit}
use Rattle.pop_session.specs.Ends.{PassedSessionLimit}
use Rattle.pop_box.specs.Letters.{letters_in}
use Rattle.pop_box.specs.Prompt.{AskedUpToDate}
use Rattle.pop_box.specs.Served.{Served, TookQuit, Unchanged}

-- how a session of the server ended, whatever its store is
pub record PopEnds (words : List (List ℕ)) (status : ℕ) (left left' out out' : Option (List ℕ)) (reads reads' puts puts' : ℕ) :
    Type 0 where
  -- 2 comes only if the words aren't taken
  pub untaken : status ≡ 2 → takes pop_app words ≡ false
  -- 2 comes only if `clap` finds a fault in the words
  pub exact : status ≡ 2 → faults_of pop_app words ≢ []
  -- 2 doesn't come for well-worded words
  pub worded : (path : Option (List ℕ)) (user name secret : List ℕ) → IsPopWorded words path user name secret → status ≢ 2
  -- if `clap` finds a fault, 2 comes unless the run is out of memory
  pub faulty : (status ≡ 2) ⊎ ((status ≡ 7) ⊎ (faults_of pop_app words ≡ []))
  -- with 2 nothing was read or written
  pub nothing : status ≡ 2 → (out' ≡ out) × (left' ≡ left)
  -- 3 comes only if the source's count of faults rose
  pub read_cause : status ≡ 3 → Rose reads reads'
  -- with another status that count is unchanged
  pub read_calm : status ≢ 3 → reads' ≡ reads
  -- 4 comes only if the sink's count of faults rose
  pub put_cause : status ≡ 4 → Rose puts puts'
  -- with another status that count is unchanged
  pub put_calm : status ≢ 4 → puts' ≡ puts
  -- 8 comes only if more bytes were taken than a session looks at
  pub many : status ≡ 8 → PassedSessionLimit left left'
  -- 0 comes only if an accepted QUIT is among the bytes that were taken
  pub quit : status ≡ 0 → TookQuit (user_in words) (secret_in words) left left'
  -- 1 comes only at the end of the input
  pub ended : status ≡ 1 → IsAtEnd left'
  -- no other status comes
  pub statuses : status ≤ 9

-- how a session of the server ended over a store with these tables
pub record PopEndsOver (words : List (List ℕ)) (status : ℕ) (left left' out out' : Option (List ℕ))
    (asked asked' : Option (List ℕ) → Option (List ℕ) → Type 0)
    (tables : Tables) (versions versions' : ℤ → Type 0) (tells leaves : Tables → Type 0) : Type 0 where
  -- over a store that a session left, how the box was served, by the status
  pub session : IsStore tables →
      Served status (letters_in (user_in words) (box_in words) tables) (user_in words) (secret_in words) left left' out out' versions
  -- whenever the source was asked for more, the greeting and the replies to all requests that were complete in the bytes taken so
  -- far were out, whole, and nothing else; and no QUIT among them was accepted
  pub prompt : IsStore tables →
      AskedUpToDate (letters_in (user_in words) (box_in words) tables) (user_in words) (secret_in words) left out asked asked'
  -- the tables are unchanged, whatever they are
  pub unchanged : Unchanged status tables tells leaves
  -- the version of the store after
  pub version : VersionAtExit status versions versions'
  -- a store of an unknown version, or with a damaged row, is refused
  pub refused : (v : ℤ) → versions v → (fault : StoreFault) → fault_of v tables ≡ Some fault
      → Refused status fault left left' out out' tells leaves tables
  -- no other store is refused
  pub fine : (v : ℤ) → versions v → fault_of v tables ≡ None → status ≢ 6
  -- a store of a known version that a session left isn't refused
  pub known : IsStore tables → IfKnown versions (status ≢ 6)
