-- The bytes of a field's value.
use Rattle.std.specs.Prelude.{ℕ, List, [], Option, Some, None}
use Rattle.mail_fields.specs.declared.field_ref.FieldValue.{FieldValue}
use Rattle.mail_fields.specs.declared.field_ref.FieldValue.TheVariants.{Lying, Joined}

-- what follows a field's colon, whether it lies in the text or was joined
abbrev pub value_bytes : FieldValue → List ℕ
value_bytes (Lying bytes) = bytes.now
value_bytes (Joined text) = text

-- the bytes of a value that may be missing
abbrev pub bytes_or_none : Option (List ℕ) → List ℕ
bytes_or_none None = []
bytes_or_none (Some bytes) = bytes
