-- The fields of a message.
use Rattle.std.specs.Prelude.{ℕ, List, [], ◌++◌, length, codes, Option}
use Rattle.std.specs.List.{flat_map}
use Rattle.std.specs.Option.{option_and_then, option_to_list}
use Rattle.tap_base.specs.Words.{words, with_new}
use Rattle.tap_rows.specs.declared.fields.Fields.{Fields}
use Rattle.tap_rows.specs.Headers.{HeaderField, message_lines, header_of, body_of, values_of, first_of}
use Rattle.tap_rows.specs.Entries.{listed, referred, identified}
use Rattle.tap_rows.specs.Dates.{date_of}
use Rattle.tap_rows.specs.declared.rows.Doc.{Doc}

-- the value of the first field of this name
abbrev pub value_of : List ℕ → List HeaderField → Option (List ℕ)
value_of name header = first_of (values_of name header)

-- the first entry of a field's value, if there is one
abbrev pub entry_of : (List ℕ → List (List ℕ)) → Option (List ℕ) → Option (List ℕ)
entry_of entries value = option_and_then (λ v. first_of (entries v)) value

-- the distinct entries of some fields' values, in order of first appearance
abbrev pub distinct_entries : (List ℕ → List (List ℕ)) → List (List ℕ) → List (List ℕ)
distinct_entries entries values = with_new [] (flat_map entries values)

-- the distinct words, in order of first appearance: the subject's, then those of the body's lines
abbrev pub message_words : Option (List ℕ) → List (List ℕ) → List (List ℕ)
message_words subject body = with_new [] (flat_map words (option_to_list subject ++ body))

-- the fields of a header and a body of a text of this size in bytes
abbrev pub fields_in : List HeaderField → List (List ℕ) → ℕ → Fields
fields_in header body size = record {
  date = option_and_then date_of (value_of (codes "Date") header);
  from = entry_of listed (value_of (codes "From") header);
  subject = value_of (codes "Subject") header;
  msgid = entry_of identified (value_of (codes "Message-ID") header);
  inreplyto = entry_of identified (value_of (codes "In-Reply-To") header);
  to = distinct_entries listed (values_of (codes "To") header);
  cc = distinct_entries listed (values_of (codes "Cc") header);
  newsgroups = distinct_entries listed (values_of (codes "Newsgroups") header);
  references = distinct_entries referred (values_of (codes "References") header);
  words = message_words (value_of (codes "Subject") header) body;
  size = size;
}

-- the fields of a document that queries speak of, except its number and its arrival
abbrev pub fields_of : List ℕ → Fields
fields_of text = fields_in (header_of (message_lines text)) (body_of (message_lines text)) (length text)

-- the fields of a document's text
unfoldable pub fields : Doc → Fields
fields doc = fields_of doc.text
