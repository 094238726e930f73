-- That replies are prompt: what is out whenever the source is asked for more.
use Rattle.std.specs.Prelude.{ℕ, List, Option, Some, None}
use Rattle.peer_edges.specs.Asks.{AskedOnlyWhen}
use Rattle.pop_session.specs.declared.letter.Letter.{Letter}
use Rattle.pop_session.specs.Ends.{IsSessionUpToDate}

-- the box was found, and the session over its letters goes on: the greeting and the replies to the bytes taken so far were put
abbrev pub IsBoxUpToDate : Option (List Letter) → List ℕ → List ℕ
    → Option (List ℕ) → Option (List ℕ) → Option (List ℕ) → Option (List ℕ) → Type 0
IsBoxUpToDate None user secret left left' out out' = ⊥
IsBoxUpToDate (Some letters) user secret left left' out out' = IsSessionUpToDate user secret letters left left' out out'

-- whenever a POP3 session asked for more, exactly the greeting and the replies to the complete requests were out, and no QUIT
-- among these was accepted
abbrev pub AskedUpToDate : Option (List Letter) → List ℕ → List ℕ → Option (List ℕ) → Option (List ℕ)
    → (Option (List ℕ) → Option (List ℕ) → Type 0) → (Option (List ℕ) → Option (List ℕ) → Type 0) → Type 0
AskedUpToDate found user secret left out asked asked' = AskedOnlyWhen (λ l o. IsBoxUpToDate found user secret left l out o) asked asked'
