-- The header and the body of a message, by its lines (RFC 5322 2.1 and 2.2).
use Rattle.std.specs.Prelude.{ℕ, List, [], ◌∷◌, ◌++◌, Bool, true, false, ◌||◌, ◌&&◌, not, nat_le, nat_lt, nat_eq, ◌==◌, ◌-◌}
use Rattle.std.specs.Prelude.{length, take, drop, if◌then◌else◌, codes, Option, Some, None}
use Rattle.std.specs.List.{prefix_len, suffix_len, take_while, starts_with, concat}
use Rattle.std.specs.Str.{str_eq_ignore_ascii_case}
use Rattle.std.specs.Str.Lines.{lines}
use Rattle.tap_base.specs.Bytes.{is_blank}
use Rattle.tap_base.specs.LineWords.{after_blanks}

-- a field of a header: its name, and what follows its colon, with the lines that continue it appended unchanged (RFC 5322 2.2.3)
pub record HeaderField : Type 0 where
  pub name : List ℕ
  pub unfolded : List ℕ

-- the bytes without the blanks at their end
abbrev pub without_blank_end : List ℕ → List ℕ
without_blank_end bytes = take (length bytes - suffix_len is_blank bytes) bytes

-- the bytes without the blanks at both ends
abbrev pub trimmed : List ℕ → List ℕ
trimmed bytes = without_blank_end (after_blanks bytes)

-- the lines, without a first one that begins with `From `
abbrev pub without_from_line : List (List ℕ) → List (List ℕ)
without_from_line [] = []
without_from_line (line ∷ lines) = if starts_with nat_eq line (codes "From ") then lines else line ∷ lines

-- a byte of a field's name: a visible ASCII character that isn't the colon (RFC 5322 2.2)
abbrev pub is_field_name_byte : ℕ → Bool
is_field_name_byte b = nat_le 33 b && nat_le b 126 && not (b == 58)

-- how many bytes at the line's start are of a field's name
abbrev pub name_length : List ℕ → ℕ
name_length line = prefix_len is_field_name_byte line

-- the line after its name and the blanks that follow it
abbrev pub after_name : List ℕ → List ℕ
after_name line = after_blanks (drop (name_length line) line)

-- does the text begin with a colon?
abbrev pub begins_with_colon : List ℕ → Bool
begins_with_colon [] = false
begins_with_colon (b ∷ bytes) = b == 58

-- a line that begins a field: a name, any blanks, a colon
abbrev pub begins_field : List ℕ → Bool
begins_field line = nat_lt 0 (name_length line) && begins_with_colon (after_name line)

-- a line that continues a field begins with a blank (RFC 5322 2.2.3)
abbrev pub continues_field : List ℕ → Bool
continues_field [] = false
continues_field (b ∷ bytes) = is_blank b

-- the field that begins at a line, with the lines that continue it
abbrev pub header_field_at : List ℕ → List (List ℕ) → HeaderField
header_field_at line lines = record {
  name = take (name_length line) line;
  unfolded = drop 1 (after_name line) ++ concat (take_while continues_field lines);
}

-- the fields of a header: each begins at its line and takes the lines that continue it; any other line ends the header
abbrev pub fields_from : List (List ℕ) → List HeaderField
fields_from [] = []
fields_from (line ∷ lines) =
    if begins_field line then header_field_at line lines ∷ fields_from lines
    else (if continues_field line then fields_from lines else [])

-- the lines after the header, with the one that ended it
abbrev pub after_header : List (List ℕ) → List (List ℕ)
after_header [] = []
after_header (line ∷ lines) =
    if begins_field line || continues_field line then after_header lines else line ∷ lines

-- the lines without a first one that is empty
abbrev pub without_empty_start : List (List ℕ) → List (List ℕ)
without_empty_start [] = []
without_empty_start (line ∷ lines) = if length line == 0 then lines else line ∷ lines

-- the lines of a message, without the first if that begins with `From `
abbrev pub message_lines : List ℕ → List (List ℕ)
message_lines text = without_from_line (lines text)

-- does the first line continue a field that isn't there? Then there is no header
abbrev pub lacks_header : List (List ℕ) → Bool
lacks_header [] = true
lacks_header (line ∷ lines) = continues_field line

-- the fields of a message's header: those up to the first line that neither begins nor continues one; none if the first line
-- begins with a blank
abbrev pub header_of : List (List ℕ) → List HeaderField
header_of lines = if lacks_header lines then [] else fields_from lines

-- the lines of a message's body: from the line that ends the header on, without that line if it is empty; all lines if the first
-- begins with a blank
abbrev pub body_of : List (List ℕ) → List (List ℕ)
body_of lines = if lacks_header lines then lines else without_empty_start (after_header lines)

-- the values of all fields of this name, compared without case, without blanks at their ends
abbrev pub values_of : List ℕ → List HeaderField → List (List ℕ)
values_of name [] = []
values_of name (field ∷ fields) =
    if str_eq_ignore_ascii_case field.name name then trimmed field.unfolded ∷ values_of name fields
    else values_of name fields

-- the first of some values
abbrev pub first_of : List (List ℕ) → Option (List ℕ)
first_of [] = None
first_of (value ∷ values) = Some value
