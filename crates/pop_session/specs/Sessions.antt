-- What a session replies to all of its bytes.
use Rattle.std.specs.Prelude.{ℕ, ◌≡◌, ◌≤◌, ◌-◌, ◌⊎◌, List, [], ◌∷◌, ◌++◌, length, take, Bool, true, false}
use Rattle.std.specs.Prelude.{if◌then◌else◌, Result, OnErr, IfErr}
use Rattle.std.specs.List.{All}
use Rattle.tap_edges.specs.Edges.{HasCause}
use Rattle.tap_edges.specs.Puts.{TookSome}
use Rattle.tap_edges.specs.declared.edges.PutFailed.{PutFailed}
use Rattle.tap_edges.specs.declared.edges.Sink.{Ghosts}
use Rattle.pop_session.specs.declared.letter.Letter.{Letter}
use Rattle.pop_session.specs.declared.outcome.Phase.{Phase}
use Rattle.pop_session.specs.declared.outcome.Phase.TheVariants.{Authorization, Named, Transaction, Ended}
use Rattle.pop_session.specs.declared.outcome.Outcome.{Outcome}
use Rattle.pop_session.specs.Requests.{requests, outcome_of}
use Rattle.pop_session.specs.Replies.{greeting, pop_reply_bytes}

-- has an accepted QUIT ended the session?
abbrev pub is_ended : Phase → Bool
is_ended Ended = true
is_ended Authorization = false
is_ended (Named right) = false
is_ended Transaction = false

-- the replies, in order, to some requests, up to an accepted QUIT
abbrev pub replies_to : List ℕ → List ℕ → List Letter → Phase → List (List ℕ) → List ℕ
replies_to user secret letters phase [] = []
replies_to user secret letters phase (request ∷ requests) =
    if is_ended phase then []
    else pop_reply_bytes letters (outcome_of user secret phase request).reply
    ++ replies_to user secret letters (outcome_of user secret phase request).phase requests

-- the phase after some requests
abbrev pub phase_after : List ℕ → List ℕ → Phase → List (List ℕ) → Phase
phase_after user secret phase [] = phase
phase_after user secret phase (request ∷ requests) =
    if is_ended phase then phase else phase_after user secret (outcome_of user secret phase request).phase requests

-- the greeting, and the replies to the requests of these bytes, up to an accepted QUIT
abbrev pub pop_replies : List ℕ → List ℕ → List ℕ → List Letter → List ℕ
pop_replies bytes user secret letters = greeting ++ replies_to user secret letters Authorization (requests bytes)

-- is an accepted QUIT among the requests of these bytes?
abbrev pub has_quit : List ℕ → List ℕ → List ℕ → Bool
has_quit bytes user secret = is_ended (phase_after user secret Authorization (requests bytes))

-- a session: its user, secret and letters, the bytes of the open request or a front of them that is too long, its phase,
-- whether it has greeted, and whether a put has failed
pub record PopSessionState : Type 0 where
  pub user : List ℕ
  pub secret : List ℕ
  pub letters : List Letter
  pub front : List ℕ
  pub phase : Phase
  pub greeted : Bool
  pub failed : Bool

-- a session before its greeting
abbrev pub new_session : List ℕ → List ℕ → List Letter → PopSessionState
new_session user secret letters =
    record { user = user; secret = secret; letters = letters; front = []; phase = Authorization; greeted = false; failed = false }

-- a session after its greeting
abbrev pub greeted : PopSessionState → PopSessionState
greeted s =
    record { user = s.user; secret = s.secret; letters = s.letters; front = s.front; phase = s.phase; greeted = true; failed = s.failed }

-- the replies to the bytes that follow
abbrev pub replies_from : PopSessionState → List ℕ → List ℕ
replies_from s rest = replies_to s.user s.secret s.letters s.phase (requests (s.front ++ rest))

-- is an accepted QUIT among the requests so far and those of the bytes that follow?
abbrev pub quits_from : PopSessionState → List ℕ → Bool
quits_from s rest = is_ended (phase_after s.user s.secret s.phase (requests (s.front ++ rest)))

-- however the bytes go on after these, a new session answers the rest of them as the old one would
pub record AnswersRest (old new : PopSessionState) (bytes : List ℕ) : Type 0 where
  -- the replies to all of them are those to these, and the new session's to the rest
  pub next : (rest : List ℕ) → replies_from old (bytes ++ rest) ≡ replies_from old bytes ++ replies_from new rest
  -- a QUIT is accepted among all of them if and only if the new session accepts one
  pub quits : (rest : List ℕ) → quits_from old (bytes ++ rest) ≡ quits_from new rest

-- may the session take bytes? It has greeted, and neither ended nor failed
pub record CanTakeBytes (s : PopSessionState) : Type 0 where
  pub greeted : s.greeted ≡ true
  pub not_ended : is_ended s.phase ≡ false
  pub not_failed : s.failed ≡ false

-- how a call fails that appends bytes to the first `start` bytes of a reply
pub record FailsToPut {T K : Type 0} (g : Ghosts K) (start : ℕ) (bytes : List ℕ) (old new : K)
    (session : PopSessionState) (result : Result T PutFailed) : Type 0 where
  -- a front of the bytes was put
  pub err : IfErr result (λ failed. TookSome start (g.out old) (g.out new) bytes failed)
  -- it fails only if the sink's count of faults rose; otherwise the count is unchanged
  pub cause : HasCause (g.faults old) (g.faults new) result
  -- the session has failed then
  pub failed : OnErr result (session.failed ≡ true)

-- is nothing more looked at? The piece is at its end, or the session is
abbrev pub IsOver : PopSessionState → List ℕ → Type 0
IsOver s rest = (length rest ≡ 0) ⊎ (is_ended s.phase ≡ true)

-- the open request with some more bytes; of one that is too long a front is enough
abbrev pub request_grown : List ℕ → List ℕ → List ℕ
request_grown front bytes = front ++ take (513 - length front) bytes

-- a letter as long as a message may be, whose size has at most seven digits
abbrev pub IsWithinLimit : Letter → Type 0
IsWithinLimit letter = length letter.text ≤ 1048576

-- the text of each letter has at most 1,048,576 bytes
abbrev pub AreShort : List Letter → Type 0
AreShort letters = All IsWithinLimit letters

-- a session that holds more bytes of its open request
abbrev pub held : PopSessionState → List ℕ → PopSessionState
held s bytes =
    record {
      user = s.user;
      secret = s.secret;
      letters = s.letters;
      front = request_grown s.front bytes;
      phase = s.phase;
      greeted = s.greeted;
      failed = s.failed;
    }

-- the outcome of the open request, if an LF ends it here
abbrev pub open_outcome : PopSessionState → Outcome
open_outcome s = outcome_of s.user s.secret s.phase s.front

-- the reply to the open request
abbrev pub open_reply : PopSessionState → List ℕ
open_reply s = pop_reply_bytes s.letters (open_outcome s).reply

-- a session after the reply to its open request
abbrev pub answered : PopSessionState → PopSessionState
answered s =
    record {
      user = s.user;
      secret = s.secret;
      letters = s.letters;
      front = [];
      phase = (open_outcome s).phase;
      greeted = s.greeted;
      failed = s.failed;
    }

-- the line has room for a row: no more than `+OK ` is before it
abbrev pub HasRowRoom : ℕ → Type 0
HasRowRoom used = used ≤ 4
