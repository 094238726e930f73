use Rattle.std.proofs.Common.{length}
use Rattle.pop_session.specs.Sessions.{CanTakeBytes}
use Rattle.session_tests.proofs.letter_tests.give.Given as goal

-- the session may take bytes
abbrev pub invariant-pieces : goal.invariant-pieces
invariant-pieces l = CanTakeBytes l.session

abbrev pub decreases-pieces : goal.decreases-pieces
decreases-pieces l = length l.rest
