-- The bytes of each reply.
use Rattle.std.specs.Prelude.{ℕ, List, ◌++◌, length, Option, Some, None, codes}
use Rattle.std.specs.Fmt.{decimal}
use Rattle.pop_session.specs.declared.letter.Letter.{Letter}
use Rattle.pop_session.specs.declared.reply.Listing.{Listing}
use Rattle.pop_session.specs.declared.reply.Listing.TheVariants.{Sizes, Ids}
use Rattle.pop_session.specs.declared.reply.PopRefusal.{PopRefusal}
use Rattle.pop_session.specs.declared.reply.PopRefusal.TheVariants.{Long, Unknown, State, Form, Denied, Kept, NoMessage}
use Rattle.pop_session.specs.declared.reply.PopReply.{PopReply}
use Rattle.pop_session.specs.declared.reply.PopReply.TheVariants.{Accepted, Refused, Totals, Rows, Row, Text}
use Rattle.pop_session.specs.Letters.{crlf_line, size_of, total_size, sent_lines, letter_at, row_text, rows_from}

-- the first line of a session
abbrev pub greeting : List ℕ
greeting = crlf_line (codes "+OK tapestry")

-- the text of a refusal
abbrev pub pop_refusal_text : PopRefusal → List ℕ
pop_refusal_text Long = codes "-ERR long"
pop_refusal_text Unknown = codes "-ERR unknown"
pop_refusal_text State = codes "-ERR state"
pop_refusal_text Form = codes "-ERR form"
pop_refusal_text Denied = codes "-ERR denied"
pop_refusal_text Kept = codes "-ERR kept"
pop_refusal_text NoMessage = codes "-ERR message"

-- the line before the rows of all letters
abbrev pub rows_head : Listing → ℕ → List ℕ
rows_head Sizes count = codes "+OK " ++ decimal count
rows_head Ids count = codes "+OK"

-- the reply that is the row of a letter
abbrev pub row_reply : Listing → ℕ → Option Letter → List ℕ
row_reply listing n None = crlf_line (pop_refusal_text NoMessage)
row_reply listing n (Some letter) = crlf_line (codes "+OK " ++ row_text listing n letter)

-- the reply that is the text of a letter: its size, its lines, and a line of one dot
abbrev pub text_reply : Option Letter → List ℕ
text_reply None = crlf_line (pop_refusal_text NoMessage)
text_reply (Some letter) = crlf_line (codes "+OK " ++ decimal (size_of letter.text)) ++ (sent_lines letter.text ++ crlf_line (codes "."))

-- the bytes of a reply
abbrev pub pop_reply_bytes : List Letter → PopReply → List ℕ
pop_reply_bytes letters Accepted = crlf_line (codes "+OK")
pop_reply_bytes letters (Refused refusal) = crlf_line (pop_refusal_text refusal)
pop_reply_bytes letters Totals = crlf_line (codes "+OK " ++ decimal (length letters) ++ codes " " ++ decimal (total_size letters))
pop_reply_bytes letters (Rows listing) =
    crlf_line (rows_head listing (length letters)) ++ (rows_from listing 1 letters ++ crlf_line (codes "."))
pop_reply_bytes letters (Row listing n) = row_reply listing n (letter_at letters n)
pop_reply_bytes letters (Text n) = text_reply (letter_at letters n)
