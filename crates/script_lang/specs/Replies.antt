-- The bytes of each reply.
use Rattle.std.specs.Prelude.{ℕ, ℤ, ◌≤◌, List, [], ◌∷◌, ◌++◌, length, Bool, true, false}
use Rattle.std.specs.Prelude.{Option, Some, None, codes}
use Rattle.std.specs.List.{flat_map, All}
use Rattle.std.specs.Fmt.{decimal, signed_decimal}
use Rattle.tap_base.specs.declared.numbers.DocNum.{DocNum}
use Rattle.tap_rows.specs.declared.results.Hit.{Hit}
use Rattle.tap_rows.specs.declared.results.Entry.{Entry}
use Rattle.tap_rows.specs.declared.results.Listed.{Listed}
use Rattle.tap_rows.specs.declared.score.Score.{Score}
use Rattle.tql_lex.specs.declared.fault.LexFault.{LexFault}
use Rattle.tql_lex.specs.declared.fault.LexFault.TheVariants.{BadByte, OpenString, BigNumber, TooLong, Memory as LexMemory}
use Rattle.tql_parse.specs.declared.fault.ParseFault.{ParseFault}
use Rattle.tql_parse.specs.declared.fault.ParseFault.TheVariants.{Unexpected, Ended, Deep, Memory as ParseMemory}
use Rattle.tql_types.specs.declared.fault.TypeFault.{TypeFault}
use Rattle.tql_types.specs.declared.fault.TypeFault.TheVariants.{NoVar, NoField, Clash, Shadow, BadTime, BigSpan, ManyVars, ManyNodes}
use Rattle.tql_types.specs.declared.fault.TypeFault.TheVariants.{Memory as TypeMemory}
use Rattle.script_lang.specs.declared.refusal.LimitName.{LimitName}
use Rattle.script_lang.specs.declared.refusal.LimitName.TheVariants.{Line, Message, Block, Note, Documents, Notes, Queries, AllQueries}
use Rattle.script_lang.specs.declared.refusal.LimitName.TheVariants.{Users, Filters, Runs}
use Rattle.script_lang.specs.declared.refusal.LimitName.TheVariants.{Picks, Store}
use Rattle.script_lang.specs.declared.refusal.Refusal.{Refusal}
use Rattle.script_lang.specs.declared.refusal.Refusal.TheVariants.{Unknown, Form, Cut, BadMoment, Backwards, NoMoment, NoUser, BadName}
use Rattle.script_lang.specs.declared.refusal.Refusal.TheVariants.{Taken}
use Rattle.script_lang.specs.declared.refusal.Refusal.TheVariants.{NoQuery, NoDoc, Lex, Parse, Types, NotOver, Limit, Rule, ManyRules}
use Rattle.script_lang.specs.declared.refusal.Refusal.TheVariants.{Memory, NoRun}
use Rattle.script_lang.specs.declared.reply.Reply.{Reply}
use Rattle.script_lang.specs.declared.reply.Reply.TheVariants.{At, AsUser, OneDoc, Docs, OneNote, Defined, Ran, BoxOf, ListOf, Filter}
use Rattle.script_lang.specs.declared.reply.Reply.TheVariants.{Explain, Asked, Wake}
use Rattle.script_lang.specs.declared.reply.Reply.TheVariants.{ScoresOf, DigestOf, Found as FoundRows, No}
use Rattle.script_lang.specs.declared.lookup.Found.{Found}
use Rattle.script_lang.specs.declared.lookup.Found.TheVariants.{DocText, DocNotes, UserQueries, Counts}

-- a line: a text and an LF
abbrev pub line : List ℕ → List ℕ
line text = text ++ 10 ∷ []

-- the front of an accepted command's first line: how many lines follow, and the command's word
abbrev pub head : ℕ → List ℕ → List ℕ
head n name = codes "ok " ++ decimal n ++ codes " " ++ name ++ codes " "

-- the line of a document that a run delivers
abbrev pub hit_line : Hit → List ℕ
hit_line hit = line (codes "doc " ++ decimal hit.doc.0 ++ codes " first " ++ signed_decimal hit.first)

-- a document of a box, with its first second and its run
abbrev pub entry_text : Entry → List ℕ
entry_text entry =
    codes "doc " ++ decimal entry.doc.0 ++ codes " first " ++ signed_decimal entry.first ++ codes " run " ++ decimal entry.run

-- the line of a document of a box
abbrev pub entry_line : Entry → List ℕ
entry_line entry = line (entry_text entry)

-- the line of a document of a list, with its priority and its class
abbrev pub listed_line : Listed → List ℕ
listed_line row = line (entry_text row.entry ++ codes " priority " ++ decimal row.priority ++ codes " class " ++ row.class)

-- the line of a document that a condition gives
abbrev pub doc_line : DocNum → List ℕ
doc_line doc = line (codes "doc " ++ decimal doc.0)

-- the line of the votes on a document
abbrev pub score_line : Score → List ℕ
score_line row =
    line (codes "doc " ++ decimal row.doc.0 ++ codes " voters " ++ decimal row.voters ++ codes " sum " ++ signed_decimal row.sum)

-- the words of a limit
abbrev pub limit_words : LimitName → List ℕ
limit_words Line = codes "no 16 line"
limit_words Message = codes "no 16 message"
limit_words Block = codes "no 16 block"
limit_words Note = codes "no 16 note"
limit_words Documents = codes "no 16 documents"
limit_words Notes = codes "no 16 notes"
limit_words Queries = codes "no 16 queries"
limit_words AllQueries = codes "no 16 allqueries"
limit_words Users = codes "no 16 users"
limit_words Filters = codes "no 16 filters"
limit_words Runs = codes "no 16 runs"
limit_words Picks = codes "no 16 picks"
limit_words Store = codes "no 16 store"

-- the text of a fault of tokens; out of memory has one text wherever it comes
abbrev pub lex_text : LexFault → List ℕ
lex_text (BadByte place) = codes "no 12 byte " ++ decimal place
lex_text (OpenString place) = codes "no 12 string " ++ decimal place
lex_text (BigNumber place) = codes "no 12 number " ++ decimal place
lex_text (TooLong len) = codes "no 12 long " ++ decimal len
lex_text LexMemory = codes "no 18"

-- the text of a fault of syntax
abbrev pub parse_text : ParseFault → List ℕ
parse_text (Unexpected place) = codes "no 13 token " ++ decimal place
parse_text Ended = codes "no 13 ended"
parse_text (Deep place) = codes "no 13 deep " ++ decimal place
parse_text ParseMemory = codes "no 18"

-- the text of a fault of types
abbrev pub type_text : TypeFault → List ℕ
type_text (NoVar place) = codes "no 14 variable " ++ decimal place
type_text (NoField place) = codes "no 14 field " ++ decimal place
type_text (Clash place) = codes "no 14 clash " ++ decimal place
type_text (Shadow place) = codes "no 14 shadow " ++ decimal place
type_text (BadTime place) = codes "no 14 time " ++ decimal place
type_text (BigSpan place) = codes "no 14 span " ++ decimal place
type_text (ManyVars place) = codes "no 14 variables " ++ decimal place
type_text ManyNodes = codes "no 14 nodes"
type_text TypeMemory = codes "no 18"

-- the text of a refusal
abbrev pub refusal_text : Refusal → List ℕ
refusal_text Unknown = codes "no 1"
refusal_text Form = codes "no 2"
refusal_text Cut = codes "no 3"
refusal_text BadMoment = codes "no 4"
refusal_text (Backwards last) = codes "no 5 " ++ signed_decimal last
refusal_text NoMoment = codes "no 6"
refusal_text NoUser = codes "no 7"
refusal_text BadName = codes "no 8"
refusal_text Taken = codes "no 9"
refusal_text NoQuery = codes "no 10"
refusal_text NoDoc = codes "no 11"
refusal_text (Lex fault) = lex_text fault
refusal_text (Parse fault) = parse_text fault
refusal_text (Types fault) = type_text fault
refusal_text (NotOver now) = codes "no 15 " ++ signed_decimal now
refusal_text (Limit name) = limit_words name
refusal_text (Rule number place) = codes "no 17 " ++ decimal number ++ codes " " ++ decimal place
refusal_text ManyRules = codes "no 17 many"
refusal_text Memory = codes "no 18"
refusal_text (NoRun runs) = codes "no 19 " ++ decimal runs

-- the moment at which a run is next worthwhile
abbrev pub moment_text : Option ℤ → List ℕ
moment_text None = codes "never"
moment_text (Some moment) = signed_decimal moment

-- the first line of a look-up with that many further lines
abbrev pub found_text : ℕ → Found → List ℕ
found_text n (DocText doc arrival) = head n (codes "show") ++ decimal doc ++ codes " at " ++ signed_decimal arrival
found_text n (DocNotes doc) = head n (codes "notes") ++ decimal doc
found_text n UserQueries = codes "ok " ++ decimal n ++ codes " queries"
found_text n (Counts docs notes moment) =
    head n (codes "counts") ++ codes "documents " ++ decimal docs ++ codes " notes " ++ decimal notes ++ codes " moment "
    ++ signed_decimal moment

-- the text of a reply's first line
abbrev pub first_text : Reply → List ℕ
first_text (At moment) = head 0 (codes "at") ++ signed_decimal moment
first_text (AsUser name) = head 0 (codes "as") ++ name
first_text (OneDoc doc) = head 0 (codes "doc") ++ decimal doc.0
first_text (Docs count first) = head 0 (codes "docs") ++ decimal count ++ codes " " ++ decimal first
first_text (OneNote note) = head 0 (codes "note") ++ decimal note.0
first_text (Defined name) = head 0 (codes "query") ++ name
first_text (Ran ordinal moment hits) = head (length hits) (codes "run") ++ decimal ordinal ++ codes " before " ++ signed_decimal moment
first_text (BoxOf name entries) = head (length entries) (codes "box") ++ name
first_text (ListOf name rows) = head (length rows) (codes "list") ++ name
first_text (Filter rules) = head 0 (codes "filter") ++ decimal rules
first_text (Explain name lines) = head (length lines) (codes "explain") ++ name
first_text (Asked moment docs) = head (length docs) (codes "ask") ++ signed_decimal moment
first_text (Wake name moment) = head 0 (codes "wake") ++ name ++ codes " " ++ moment_text moment
first_text (ScoresOf kind rows) = head (length rows) (codes "scores") ++ kind
first_text (DigestOf name ordinal lines) = head (length lines) (codes "digest") ++ name ++ codes " " ++ decimal ordinal
first_text (FoundRows found lines) = found_text (length lines) found
first_text (No refusal) = refusal_text refusal

-- the lines that follow the first
abbrev pub rest_lines : Reply → List ℕ
rest_lines (Ran ordinal moment hits) = flat_map hit_line hits
rest_lines (BoxOf name entries) = flat_map entry_line entries
rest_lines (ListOf name rows) = flat_map listed_line rows
rest_lines (Explain name lines) = flat_map line lines
rest_lines (Asked moment docs) = flat_map doc_line docs
rest_lines (ScoresOf kind rows) = flat_map score_line rows
rest_lines (DigestOf name ordinal lines) = flat_map line lines
rest_lines (FoundRows found lines) = flat_map line lines
rest_lines (At moment) = []
rest_lines (AsUser name) = []
rest_lines (OneDoc doc) = []
rest_lines (Docs count first) = []
rest_lines (OneNote note) = []
rest_lines (Defined name) = []
rest_lines (Filter rules) = []
rest_lines (Wake name moment) = []
rest_lines (No refusal) = []

-- does the reply begin `ok`?
abbrev pub is_accepted : Reply → Bool
is_accepted (No refusal) = false
is_accepted reply = true

-- the bytes of a reply
abbrev pub reply_bytes : Reply → List ℕ
reply_bytes reply = line (first_text reply) ++ rest_lines reply

-- a name has at most 32 bytes
abbrev pub IsShort : List ℕ → Type 0
IsShort name = length name ≤ 32

-- each name in the reply is short
abbrev pub HasShortNames : Reply → Type 0
HasShortNames (AsUser name) = IsShort name
HasShortNames (Defined name) = IsShort name
HasShortNames (BoxOf name entries) = IsShort name
HasShortNames (ListOf name rows) = IsShort name × All (λ row. IsShort row.class) rows
HasShortNames (Explain name lines) = IsShort name
HasShortNames (Wake name moment) = IsShort name
HasShortNames (ScoresOf kind rows) = IsShort kind
HasShortNames (DigestOf name ordinal lines) = IsShort name
HasShortNames (At moment) = Unit {0}
HasShortNames (OneDoc doc) = Unit {0}
HasShortNames (Docs count first) = Unit {0}
HasShortNames (OneNote note) = Unit {0}
HasShortNames (Ran ordinal moment hits) = Unit {0}
HasShortNames (Filter rules) = Unit {0}
HasShortNames (Asked moment docs) = Unit {0}
HasShortNames (FoundRows found lines) = Unit {0}
HasShortNames (No refusal) = Unit {0}

-- a word that begins a reply's first line has at most 10 bytes
abbrev pub IsShortWord : List ℕ → Type 0
IsShortWord name = length name ≤ 10
