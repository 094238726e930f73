-- How a box was served, by the status.
use Rattle.std.specs.Prelude.{ℕ, ℤ, ◌≡◌, ◌≢◌, ◌≤◌, ◌⊎◌, List, true, take, codes, Option, Some, None}
use Rattle.std.specs.Io.KnownBytes.{Appends}
use Rattle.tap_rows.specs.declared.tables.Tables.{Tables}
use Rattle.tap_top.specs.Premises.{IfKnown}
use Rattle.pop_session.specs.declared.letter.Letter.{Letter}
use Rattle.pop_session.specs.Letters.{crlf_line}
use Rattle.pop_session.specs.declared.hold.TheConstants.{SESSION_LIMIT}
use Rattle.tap_edges.specs.declared.pieces.TheConstants.{PIECE}
use Rattle.pop_session.specs.Sessions.{has_quit}
use Rattle.pop_session.specs.Ends.{IsSession, LettersEnd, TookBytes}

-- the line `-ERR box` and CRLF
abbrev pub box_line : List ℕ
box_line = crlf_line (codes "-ERR box")

-- of the line the first n bytes were put, all of them with status 9
pub record BoxLine (status : ℕ) (out out' : Option (List ℕ)) : Type 0 where
  pub n : ℕ
  pub written : Appends out out' (take n box_line)
  pub whole : status ≡ 9 → take n box_line ≡ box_line

-- the line that says that there is no such box was put, or a front of it; nothing was read
pub record NoBox (status : ℕ) (left left' out out' : Option (List ℕ)) : Type 0 where
  pub statuses : (status ≡ 9) ⊎ (status ≡ 4)
  pub unread : left' ≡ left
  pub line : BoxLine status out out'

-- the box was found, and a session over its letters ended; or there is none, and the line says so, or a front of it, and nothing
-- was read
abbrev pub BoxServed : ℕ → Option (List Letter) → List ℕ → List ℕ
    → Option (List ℕ) → Option (List ℕ) → Option (List ℕ) → Option (List ℕ) → Type 0
BoxServed status None user secret left left' out out' = NoBox status left left' out out'
BoxServed status (Some letters) user secret left left' out out' = IsSession status
    × LettersEnd status user secret letters left left' out out'

-- the box was served; or memory ran out before, and nothing was read or written
abbrev pub LettersServed : ℕ → Option (List Letter) → List ℕ → List ℕ
    → Option (List ℕ) → Option (List ℕ) → Option (List ℕ) → Option (List ℕ) → Type 0
LettersServed status found user secret left left' out out' =
    ((status ≡ 7) × ((left' ≡ left) × (out' ≡ out))) ⊎ BoxServed status found user secret left left' out out'

-- the status says that nothing was served: the words were refused, the keeper failed, the store was refused, or memory ran out
abbrev pub IsUnserved : ℕ → Type 0
IsUnserved status = (status ≡ 2) ⊎ ((status ≡ 5) ⊎ ((status ≡ 6) ⊎ (status ≡ 7)))

-- the status of a run that no fault cut off
abbrev pub IsUndisturbedSession : ℕ → Type 0
IsUndisturbedSession status = (status ≤ 1) ⊎ ((status ≡ 6) ⊎ ((status ≡ 7) ⊎ ((status ≡ 8) ⊎ (status ≡ 9))))

-- over the store of tables in which the letters of the box are these: with a status that says that nothing was served,
-- nothing was read, and nothing was written unless the store was refused; else the box was served. Status 4 also comes if
-- the line of a refused store can't be put, which no store of a known version is
pub record Served (status : ℕ) (found : Option (List Letter)) (user secret : List ℕ) (left left' out out' : Option (List ℕ))
    (versions : ℤ → Type 0) : Type 0 where
  pub unread : IsUnserved status → left' ≡ left
  pub silent : (status ≡ 2) ⊎ ((status ≡ 5) ⊎ (status ≡ 7)) → out' ≡ out
  pub served : status ≢ 4 → IsUnserved status ⊎ BoxServed status found user secret left left' out out'
  pub put : status ≡ 4 → IfKnown versions (BoxServed status found user secret left left' out out')

-- an accepted QUIT of this user and secret is among the bytes that were taken
pub record TookQuit (user secret : List ℕ) (left left' : Option (List ℕ)) : Type 0 where
  pub taken : TookBytes left left'
  pub quit : has_quit (take SESSION_LIMIT taken.bytes) user secret ≡ true

-- the tables are unchanged: a crash leaves exactly these, and unless the keeper failed it tells them
pub record Unchanged (status : ℕ) (tables : Tables) (tells leaves : Tables → Type 0) : Type 0 where
  pub exact : (x : Tables) → leaves x → x ≡ tables
  pub told : status ≢ 5 → tells tables

-- the sizes that definitions name by a constant, as numbers: the most bytes of a session and of one read
pub record SessionSizes : Type 0 where
  pub session : SESSION_LIMIT ≡ 268435456
  pub piece : PIECE ≡ 65536
