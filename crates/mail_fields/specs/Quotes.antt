-- The commas that cut a list of addresses.
use Rattle.std.specs.Prelude.{ℕ, zero, suc, List, [], ◌∷◌, ◌++◌, Bool, true, not, ◌==◌, ◌&&◌, if◌then◌else◌}
use Rattle.std.specs.List.{count_by, onto_first}

-- is the number even?
abbrev pub is_even : ℕ → Bool
is_even zero = true
is_even (suc n) = not (is_even n)

-- how many double quotes are among the bytes
abbrev pub quote_count : List ℕ → ℕ
quote_count bytes = count_by (λ b. b == 34) bytes

-- the parts of the bytes after `before` in a value: a comma cuts if and only if the number of quotes before it is even
abbrev pub parts_after : List ℕ → List ℕ → List (List ℕ)
parts_after before [] = [] ∷ []
parts_after before (b ∷ bytes) =
    if b == 44 && is_even (quote_count before) then [] ∷ parts_after (before ++ b ∷ []) bytes
    else onto_first b (parts_after (before ++ b ∷ []) bytes)
