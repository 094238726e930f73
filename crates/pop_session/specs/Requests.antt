-- The requests of a session, and what each does.
use Rattle.std.specs.Prelude.{ℕ, ◌+◌, ◌==◌, ◌&&◌, List, length, drop, Bool, true, false, Option, Some, None, nat_le, codes, if◌then◌else◌}
use Rattle.std.specs.List.{position_or_len}
use Rattle.std.specs.Str.{bytes_eq, str_eq_ignore_ascii_case}
use Rattle.std.specs.Str.Lines.{strip_carriage_return}
use Rattle.tap_base.specs.Bytes.{is_blank}
use Rattle.tap_base.specs.LineWords.{word, has_words, after_blanks}
use Rattle.tap_base.specs.Numbers.{number_of}
use Rattle.mail_lines.specs.Lines.{parts, without_end}
use Rattle.pop_session.specs.declared.keyword.Keyword.{Keyword}
use Rattle.pop_session.specs.declared.keyword.Keyword.TheVariants.{User, Pass, Quit, Stat, List as ListOf, Uidl, Retr, Dele, Noop, Rset}
use Rattle.pop_session.specs.declared.reply.Listing.{Listing}
use Rattle.pop_session.specs.declared.reply.Listing.TheVariants.{Sizes, Ids}
use Rattle.pop_session.specs.declared.reply.PopRefusal.{PopRefusal}
use Rattle.pop_session.specs.declared.reply.PopRefusal.TheVariants.{Long, Unknown, State, Form, Denied, Kept}
use Rattle.pop_session.specs.declared.reply.PopReply.{PopReply}
use Rattle.pop_session.specs.declared.reply.PopReply.TheVariants.{Accepted, Refused, Totals, Rows, Row, Text}
use Rattle.pop_session.specs.declared.outcome.Phase.{Phase}
use Rattle.pop_session.specs.declared.outcome.Phase.TheVariants.{Authorization, Named, Transaction, Ended}
use Rattle.pop_session.specs.declared.outcome.Outcome.{Outcome}

-- the requests of some bytes: the parts that an LF ends
abbrev pub requests : List ℕ → List (List ℕ)
requests bytes = without_end (parts bytes)

-- the keyword that a word is, in any case
abbrev pub keyword_of : List ℕ → Option Keyword
keyword_of word =
    if str_eq_ignore_ascii_case word (codes "USER") then Some User else
    if str_eq_ignore_ascii_case word (codes "PASS") then Some Pass else
    if str_eq_ignore_ascii_case word (codes "QUIT") then Some Quit else
    if str_eq_ignore_ascii_case word (codes "STAT") then Some Stat else
    if str_eq_ignore_ascii_case word (codes "LIST") then Some ListOf else
    if str_eq_ignore_ascii_case word (codes "UIDL") then Some Uidl else
    if str_eq_ignore_ascii_case word (codes "RETR") then Some Retr else
    if str_eq_ignore_ascii_case word (codes "DELE") then Some Dele else
    if str_eq_ignore_ascii_case word (codes "NOOP") then Some Noop else
    if str_eq_ignore_ascii_case word (codes "RSET") then Some Rset else None

-- is a keyword allowed in a phase?
abbrev pub is_allowed : Keyword → Phase → Bool
is_allowed Quit phase = true
is_allowed User Authorization = true
is_allowed User (Named right) = true
is_allowed User Transaction = false
is_allowed User Ended = false
is_allowed Pass Authorization = false
is_allowed Pass (Named right) = true
is_allowed Pass Transaction = false
is_allowed Pass Ended = false
is_allowed keyword Authorization = false
is_allowed keyword (Named right) = false
is_allowed keyword Transaction = true
is_allowed keyword Ended = false

-- the phase after a request that isn't an accepted USER, PASS or QUIT: no name is given
abbrev pub unnamed : Phase → Phase
unnamed Authorization = Authorization
unnamed (Named right) = Authorization
unnamed Transaction = Transaction
unnamed Ended = Ended

-- a reply that ends no phase
abbrev pub replied : Phase → PopReply → Outcome
replied phase reply = record { reply = reply; phase = unnamed phase }

-- a request that is refused
abbrev pub refused_request : Phase → PopRefusal → Outcome
refused_request phase refusal = replied phase (Refused refusal)

-- the bytes after the one blank that follows the keyword
abbrev pub after_keyword : List ℕ → List ℕ
after_keyword text = drop (position_or_len is_blank (after_blanks text) + 1) (after_blanks text)

-- the number that the argument of a request is: 1 to 10 digits
abbrev pub letter_number : List ℕ → Option ℕ
letter_number text = if has_words 2 text then number_of 10 9999999999 (word 1 text) else None

-- a request that has no argument
abbrev pub bare : List ℕ → Phase → Outcome → Outcome
bare text phase outcome = if has_words 1 text then outcome else refused_request phase Form

-- a request that names a letter
abbrev pub lettered : Phase → Option ℕ → (ℕ → PopReply) → Outcome
lettered phase None reply = refused_request phase Form
lettered phase (Some n) reply = replied phase (reply n)

-- a request for the row of one letter or of all
abbrev pub list_outcome : List ℕ → Phase → Listing → Outcome
list_outcome text phase listing = if has_words 1 text then replied phase (Rows listing)
    else lettered phase (letter_number text) (Row listing)

-- has the phase the right name?
abbrev pub is_right : Phase → Bool
is_right (Named right) = right
is_right Authorization = false
is_right Transaction = false
is_right Ended = false

-- the outcome of USER: with one word it opens PASS
abbrev pub user_outcome : List ℕ → Phase → List ℕ → Outcome
user_outcome user phase text =
    if has_words 2 text then record { reply = Accepted; phase = Named (bytes_eq (word 1 text) user) } else refused_request phase Form

-- the outcome of PASS: with the right name and the secret it opens TRANSACTION
abbrev pub pass_outcome : List ℕ → Phase → List ℕ → Outcome
pass_outcome secret phase text =
    if length (after_keyword text) == 0 then refused_request phase Form
    else if is_right phase && bytes_eq (after_keyword text) secret then record { reply = Accepted; phase = Transaction }
    else refused_request phase Denied

-- the outcome of a request whose keyword is allowed
abbrev pub allowed_outcome : List ℕ → List ℕ → Phase → Keyword → List ℕ → Outcome
allowed_outcome user secret phase User text = user_outcome user phase text
allowed_outcome user secret phase Pass text = pass_outcome secret phase text
allowed_outcome user secret phase Quit text = bare text phase (record { reply = Accepted; phase = Ended })
allowed_outcome user secret phase Stat text = bare text phase (replied phase Totals)
allowed_outcome user secret phase ListOf text = list_outcome text phase Sizes
allowed_outcome user secret phase Uidl text = list_outcome text phase Ids
allowed_outcome user secret phase Retr text = lettered phase (letter_number text) Text
allowed_outcome user secret phase Dele text = lettered phase (letter_number text) (λ n. Refused Kept)
allowed_outcome user secret phase Noop text = bare text phase (replied phase Accepted)
allowed_outcome user secret phase Rset text = bare text phase (replied phase Accepted)

-- the outcome of a request by its keyword
abbrev pub keyword_outcome : List ℕ → List ℕ → Phase → Option Keyword → List ℕ → Outcome
keyword_outcome user secret phase None text = refused_request phase Unknown
keyword_outcome user secret phase (Some keyword) text =
    if is_allowed keyword phase then allowed_outcome user secret phase keyword text else refused_request phase State

-- the outcome of a request's text
abbrev pub text_outcome : List ℕ → List ℕ → Phase → List ℕ → Outcome
text_outcome user secret phase text = keyword_outcome user secret phase (keyword_of (word 0 text)) text

-- the reply to a request, and the phase after it: the first check that applies refuses it
abbrev pub outcome_of : List ℕ → List ℕ → Phase → List ℕ → Outcome
outcome_of user secret phase request =
    if nat_le (length request) 512 then text_outcome user secret phase (strip_carriage_return request) else refused_request phase Long
