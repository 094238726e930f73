-- Names of users, queries, kinds and classes.
use Rattle.std.specs.Prelude.{ℕ, List, length, Bool, ◌||◌, ◌&&◌, ◌==◌, nat_le, slice_index}
use Rattle.std.specs.List.{list_all}

-- a lower-case ASCII letter
abbrev pub is_lower : ℕ → Bool
is_lower b = nat_le 97 b && nat_le b 122

-- a byte of a name: a lower-case letter, a digit, `_`, `-` or `.`
abbrev pub is_name_byte : ℕ → Bool
is_name_byte b = is_lower b || (nat_le 48 b && nat_le b 57) || (b == 95) || (b == 45) || (b == 46)

-- a name: 1 to 32 bytes, the first a lower-case ASCII letter, then lower-case ASCII letters, ASCII digits, `_`, `-` and `.`
abbrev pub is_name : List ℕ → Bool
is_name text = nat_le (length text) 32 && is_lower (slice_index text 0) && list_all is_name_byte text
