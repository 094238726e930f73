-- How a session over a source and a sink ended, by its status.
use Rattle.std.specs.Prelude.{ℕ, ◌≡◌, ◌≢◌, ◌≤◌, ◌<◌, ◌⊎◌, ◌+◌, ◌-◌, List, [], length, take, Bool, true, false, Option}
use Rattle.std.specs.Io.KnownBytes.{Consumes, Appends, IsAtEnd}
use Rattle.pop_session.specs.declared.letter.Letter.{Letter}
use Rattle.pop_session.specs.Replies.{greeting}
use Rattle.pop_session.specs.Sessions.{pop_replies, has_quit}
use Rattle.pop_session.specs.declared.hold.TheConstants.{SESSION_LIMIT}
use Rattle.tap_edges.specs.declared.pieces.TheConstants.{PIECE}
use Rattle.tap_base.specs.Counts.{Rose}
use Rattle.tap_base.specs.Prefixes.{IsPrefix}

-- bytes were taken from the source, at most one piece more than a session looks at (268,435,456)
pub record TookBytes (left left' : Option (List ℕ)) : Type 0 where
  pub bytes : List ℕ
  pub taken : Consumes left left' bytes
  pub few : length bytes ≤ SESSION_LIMIT + PIECE

-- more bytes were taken than a session looks at
pub record PassedSessionLimit (left left' : Option (List ℕ)) : Type 0 where
  pub taken : TookBytes left left'
  pub many : SESSION_LIMIT < length taken.bytes

module _ (replies : List ℕ → List ℕ) (quits : List ℕ → Bool) (left left' out out' : Option (List ℕ)) where
  -- status 0: an accepted QUIT is among the bytes that a session looks at, and all replies were put
  pub record QuitEnd : Type 0 where
    pub taken : TookBytes left left'
    pub quit : quits (take SESSION_LIMIT taken.bytes) ≡ true
    pub written : Appends out out' (replies taken.bytes)

  -- statuses 1 and 3: no QUIT was accepted, and the replies to the bytes taken were put
  pub record OpenEnd : Type 0 where
    pub taken : TookBytes left left'
    pub fits : length taken.bytes ≤ SESSION_LIMIT
    pub no_quit : quits taken.bytes ≡ false
    pub written : Appends out out' (replies taken.bytes)

  -- status 8: no QUIT was accepted among the bytes that a session looks at, and the replies to these were put
  pub record LongEnd : Type 0 where
    pub long : PassedSessionLimit left left'
    pub no_quit : quits (take SESSION_LIMIT long.taken.bytes) ≡ false
    pub written : Appends out out' (replies (take SESSION_LIMIT long.taken.bytes))

  -- status 4: a front of the replies to the bytes taken was put. If the greeting isn't whole in it, no byte was taken; if it is,
  -- all replies to the bytes before the last piece are in it
  pub record PutEnd (greeting : List ℕ) : Type 0 where
    pub taken : TookBytes left left'
    pub put : List ℕ
    pub written : Appends out out' put
    pub front : IsPrefix put (replies taken.bytes)
    pub unread : (IsPrefix greeting put → ⊥) → taken.bytes ≡ []
    pub prompt : IsPrefix greeting put → IsPrefix (replies (take (length taken.bytes - PIECE) taken.bytes)) put

  -- how a session ended, by its status
  pub record SessionEnds (status : ℕ) (greeting : List ℕ) : Type 0 where
    pub quit : status ≡ 0 → QuitEnd
    pub ended : status ≡ 1 → OpenEnd × IsAtEnd left'
    pub read : status ≡ 3 → OpenEnd
    pub put : status ≡ 4 → PutEnd greeting
    pub long : status ≡ 8 → LongEnd

-- the status of a session that began
abbrev pub IsSession : ℕ → Type 0
IsSession status = (status ≤ 1) ⊎ ((status ≡ 3) ⊎ ((status ≡ 4) ⊎ (status ≡ 8)))

-- when a session's statuses come
pub record SessionCauses (status reads reads' puts puts' : ℕ) (left left' : Option (List ℕ)) : Type 0 where
  -- 3 comes only if the source's count of faults rose
  pub read_cause : status ≡ 3 → Rose reads reads'
  -- with another status that count is unchanged
  pub read_calm : status ≢ 3 → reads' ≡ reads
  -- 4 comes only if the sink's count of faults rose
  pub put_cause : status ≡ 4 → Rose puts puts'
  -- with another status that count is unchanged
  pub put_calm : status ≢ 4 → puts' ≡ puts
  -- 8 comes only if more bytes were taken than a session looks at
  pub many : status ≡ 8 → PassedSessionLimit left left'

-- how a session of this user over these letters ended, from its greeting on
abbrev pub LettersEnd :
    ℕ → List ℕ → List ℕ → List Letter → Option (List ℕ) → Option (List ℕ) → Option (List ℕ) → Option (List ℕ) → Type 0
LettersEnd status user secret letters left left' out out' =
    SessionEnds (λ bytes. pop_replies bytes user secret letters) (λ bytes. has_quit bytes user secret) left left' out out' status greeting

-- a session of this user over these letters that goes on: the greeting and the replies to the bytes taken so far were put, and
-- no QUIT among them was accepted
abbrev pub IsSessionUpToDate :
    List ℕ → List ℕ → List Letter → Option (List ℕ) → Option (List ℕ) → Option (List ℕ) → Option (List ℕ) → Type 0
IsSessionUpToDate user secret letters left left' out out' =
    OpenEnd (λ bytes. pop_replies bytes user secret letters) (λ bytes. has_quit bytes user secret) left left' out out'
