-- What the top call did, by its status.
use Rattle.std.specs.Prelude.{ℕ, ◌≡◌, ◌≤◌, ◌<◌, ◌+◌, ◌⊎◌, List, [], ◌∷◌, ◌++◌, length, take, Bool, Option, Some, None}
use Rattle.std.specs.Io.KnownBytes.{Consumes, IsAtEnd}
use Rattle.tap_rows.specs.declared.tables.Tables.{Tables}
use Rattle.script_lang.specs.declared.command.Command.{Command}
use Rattle.script_lang.specs.Script.{script, complete}
use Rattle.tap_model.specs.declared.session.Session.{Session}
use Rattle.tap_model.specs.Sessions.{no_session}
use Rattle.tap_top.specs.declared.top.TheConstants.{SCRIPT_LIMIT}
use Rattle.tap_edges.specs.declared.pieces.TheConstants.{PIECE}
use Rattle.tap_top.specs.Answers.{Answered, CutOff, Uncommitted}
use Rattle.tap_base.specs.Prefixes.{IsPrefix}

-- the first commands of the complete ones; or, if nothing is left in the source, of the whole script
abbrev pub AreFirst : List Command → List ℕ → Option (List ℕ) → Type 0
AreFirst commands bytes left = IsPrefix commands (complete bytes) ⊎ (IsAtEnd left × IsPrefix commands (script bytes))

-- one byte completed the last command, and fewer bytes than a piece has follow it
pub record IsPrompt (done : List Command) (last : Command) (bytes : List ℕ) : Type 0 where
  pub most : List ℕ
  pub byte : ℕ
  pub more : List ℕ
  pub split : bytes ≡ (most ++ byte ∷ []) ++ more
  pub before : complete most ≡ done
  pub then_done : complete (most ++ byte ∷ []) ≡ done ++ last ∷ []
  pub few : length more < PIECE

-- the end of input completed the last command, or cut it off
pub record IsAtClose (done : List Command) (last : Command) (bytes : List ℕ) (left : Option (List ℕ)) : Type 0 where
  pub ended : IsAtEnd left
  pub before : complete bytes ≡ done
  pub then_done : script bytes ≡ done ++ last ∷ []

-- statuses 0 and 1: the input was read to its end, and its commands were answered
pub record Whole (tables : Tables) (left left' out out' : Option (List ℕ)) (Ends : Tables → Type 0) (all_ok : Bool) : Type 0 where
  pub bytes : List ℕ
  pub taken : Consumes left left' bytes
  pub ended : IsAtEnd left'
  pub fits : length bytes ≤ SCRIPT_LIMIT
  pub session : Session
  pub answered : Answered tables no_session (script bytes) out out' Ends session all_ok

-- status 3: the complete commands of the bytes taken were answered
pub record ReadCut (tables : Tables) (left left' out out' : Option (List ℕ)) (Ends : Tables → Type 0) : Type 0 where
  pub bytes : List ℕ
  pub taken : Consumes left left' bytes
  pub fits : length bytes ≤ SCRIPT_LIMIT
  pub session : Session
  pub all_ok : Bool
  pub answered : Answered tables no_session (complete bytes) out out' Ends session all_ok

-- the run ended at a command, which was cut off so: it and those before it are the first of the script, and fewer bytes than
-- a piece has were taken after it
pub record CutAt (left left' : Option (List ℕ)) (Cut : List Command → Command → Type 0) : Type 0 where
  pub bytes : List ℕ
  pub taken : Consumes left left' bytes
  pub few : length bytes ≤ SCRIPT_LIMIT + PIECE
  pub done : List Command
  pub last : Command
  pub first : AreFirst (done ++ last ∷ []) (take SCRIPT_LIMIT bytes) left'
  pub prompt : IsPrompt done last bytes ⊎ IsAtClose done last bytes left'
  pub cut : Cut done last

-- status 4: some first commands were answered, and all but a part of the last reply was taken
abbrev pub PutCut : Tables → Option (List ℕ) → Option (List ℕ) → Option (List ℕ) → Option (List ℕ) → (Tables → Type 0) → Type 0
PutCut tables left left' out out' Ends = CutAt left left' (λ done last. CutOff tables no_session done last out out' Ends)

-- status 5, after a failed commit: some first commands were answered, and nothing of the reply to the next one was put
abbrev pub KeeperCut : Tables → Option (List ℕ) → Option (List ℕ) → Option (List ℕ) → Option (List ℕ) → (Tables → Type 0) → Type 0
KeeperCut tables left left' out out' leaves = CutAt left left' (λ done next. Uncommitted tables no_session done next out out' leaves)

-- status 5, after a failed attach: nothing was read or written, and a crash leaves exactly the tables
pub record Unattached (tables : Tables) (left left' out out' : Option (List ℕ)) (leaves : Tables → Type 0) : Type 0 where
  pub unread : left' ≡ left
  pub unwritten : out' ≡ out
  pub exact : (x : Tables) → leaves x → x ≡ tables

-- status 7, out of memory: some first commands were answered, all of them completed by a line of the bytes that a script may
-- have
pub record OutOfMemory (tables : Tables) (left left' out out' : Option (List ℕ)) (Ends : Tables → Type 0) : Type 0 where
  pub bytes : List ℕ
  pub taken : Consumes left left' bytes
  pub few : length bytes ≤ SCRIPT_LIMIT + PIECE
  pub commands : List Command
  pub first : IsPrefix commands (complete (take SCRIPT_LIMIT bytes))
  pub session : Session
  pub all_ok : Bool
  pub answered : Answered tables no_session commands out out' Ends session all_ok

-- more bytes were taken than a script may have
pub record PassedScriptLimit (left left' : Option (List ℕ)) : Type 0 where
  pub bytes : List ℕ
  pub taken : Consumes left left' bytes
  pub many : SCRIPT_LIMIT < length bytes
  pub few : length bytes ≤ SCRIPT_LIMIT + PIECE

-- status 8: more bytes were taken than a script may have, and the complete commands of the first of them were answered
pub record TooLong (tables : Tables) (left left' out out' : Option (List ℕ)) (Ends : Tables → Type 0) : Type 0 where
  pub long : PassedScriptLimit left left'
  pub session : Session
  pub all_ok : Bool
  pub answered : Answered tables no_session (complete (take SCRIPT_LIMIT long.bytes)) out out' Ends session all_ok

-- the source tells its bytes, and they are no more than a script may have
abbrev pub HoldsScript : Option (List ℕ) → Type 0
HoldsScript None = ⊥
HoldsScript (Some bytes) = length bytes ≤ SCRIPT_LIMIT

-- the sizes that definitions name by a constant, as numbers: the most bytes of a script and of one read
pub record ScriptSizes : Type 0 where
  pub script : SCRIPT_LIMIT ≡ 268435456
  pub piece : PIECE ≡ 65536
