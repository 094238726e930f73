-- Laws of sessions.
use Rattle.std.specs.Prelude.{ℕ, ◌≡◌, List, ◌++◌}
use Rattle.pop_session.specs.declared.letter.Letter.{Letter}
use Rattle.pop_session.specs.Sessions.{pop_replies}

-- the replies to some bytes are the first of those to all bytes that go on from them
abbrev pub RepliesGrow : Type 0
RepliesGrow =
    (a b user secret : List ℕ) (letters : List Letter)
    → (more : List ℕ) × (pop_replies (a ++ b) user secret letters ≡ pop_replies a user secret letters ++ more)
