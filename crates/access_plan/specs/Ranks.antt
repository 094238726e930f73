-- Which access is preferred as the one by which a step of a path comes next.
use Rattle.std.specs.Prelude.{ℕ, Option, Some, None, nat_lt, if◌then◌else◌}
use Rattle.tql_core.specs.declared.atom.NumField.{NumField}
use Rattle.tql_core.specs.declared.atom.NumField.TheVariants.{Id, Size, DocOf, Value}
use Rattle.tql_core.specs.declared.atom.TextField.{TextField}
use Rattle.tql_core.specs.declared.atom.TextField.TheVariants.{From, Subject, MsgId, InReplyTo, Author, NoteKind, NoteText}
use Rattle.tql_core.specs.declared.atom.ListField.{ListField}
use Rattle.tql_core.specs.declared.atom.ListField.TheVariants.{To, Cc, Newsgroups, References, Words}
use Rattle.access_plan.specs.declared.access.Access.{Access}
use Rattle.access_plan.specs.declared.access.Access.TheVariants.{ByNumber, ByText, ByEntry, ByEach, Whole}

-- of a document its number, then its size; of a note its document, then its value
abbrev pub number_rank : NumField → ℕ
number_rank Id = 0
number_rank DocOf = 0
number_rank Value = 3
number_rank Size = 8

-- of a document its message id, its parent, its subject, its sender; of a note its author, its text, its kind
abbrev pub text_rank : TextField → ℕ
text_rank MsgId = 1
text_rank InReplyTo = 2
text_rank Subject = 5
text_rank From = 6
text_rank Author = 1
text_rank NoteText = 2
text_rank NoteKind = 4

-- a reference, an addressee or a newsgroup, a word
abbrev pub list_rank : ListField → ℕ
list_rank References = 4
list_rank To = 7
list_rank Cc = 7
list_rank Newsgroups = 7
list_rank Words = 9

-- the less the rank, the fewer rows an access mostly reaches; what a known row lists comes before what lists it
abbrev pub access_rank : Access → ℕ
access_rank (ByNumber f e) = number_rank f
access_rank (ByText f e) = text_rank f
access_rank (ByEach w l f) = 3
access_rank (ByEntry l e) = list_rank l
access_rank (Whole t) = 10

-- of two accesses that of the lesser rank, of equal ones the first
abbrev pub preferred : Access → Access → Access
preferred best access = if nat_lt (access_rank access) (access_rank best) then access else best

-- the same of accesses that may be absent
abbrev pub better : Option Access → Option Access → Option Access
better best None = best
better None (Some access) = Some access
better (Some best) (Some access) = Some (preferred best access)
