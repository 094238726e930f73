-- The lines that show a window query.
use Rattle.std.specs.Prelude.{ℕ, ◌-◌, ℤ, pos, negsuc, suc, zero, List, [], ◌∷◌, ◌++◌, map, codes, nat_lt, ◌==◌, if◌then◌else◌}
use Rattle.std.specs.List.{flat_map}
use Rattle.std.specs.Fmt.{decimal, signed_decimal}
use Rattle.tql_tree.specs.Canonical.{text_of_bytes, text_of_table, text_of_op, parenthesized}
use Rattle.tql_core.specs.declared.term.Var.{Var}
use Rattle.tql_core.specs.declared.term.Base.{Base}
use Rattle.tql_core.specs.declared.term.Base.TheVariants.{Arrival, Date, Fixed, ArrivalDay, DateDay}
use Rattle.tql_core.specs.declared.term.Term.{Term}
use Rattle.tql_core.specs.declared.atom.NumField.{NumField}
use Rattle.tql_core.specs.declared.atom.NumField.TheVariants.{Id, Size, DocOf, Value}
use Rattle.tql_core.specs.declared.atom.TextField.{TextField}
use Rattle.tql_core.specs.declared.atom.TextField.TheVariants.{From, Subject, MsgId, InReplyTo, Author, NoteKind, NoteText}
use Rattle.tql_core.specs.declared.atom.ListField.{ListField}
use Rattle.tql_core.specs.declared.atom.ListField.TheVariants.{To, Cc, Newsgroups, References, Words}
use Rattle.tql_core.specs.declared.atom.NumExpr.{NumExpr}
use Rattle.tql_core.specs.declared.atom.NumExpr.TheVariants.{Literal, Field}
use Rattle.tql_core.specs.declared.atom.TextExpr.{TextExpr}
use Rattle.tql_core.specs.declared.atom.TextExpr.TheVariants as X
use Rattle.tql_core.specs.declared.atom.Atom.{Atom}
use Rattle.tql_core.specs.declared.atom.Atom.TheVariants.{Numbers, Texts, Times, Has}
use Rattle.tql_core.specs.Condition.{Condition, Always, Never, Plain, NowAtLeast, NowBefore, All, Either, Not, Exists}
use Rattle.time_marks.specs.declared.mark.Step.{Step}
use Rattle.time_marks.specs.Probes.{Probe}

-- the items one after another, with a text between two
abbrev pub joined : {A : Type 0} → List ℕ → (A → List ℕ) → List A → List ℕ
joined between text [] = []
joined between text (x ∷ xs) = text x ++ flat_map (λ y. between ++ text y) xs

-- m, v and the number of a variable, or p and the number of the variable that it copies
abbrev pub var_text : Var → List ℕ
var_text v = if v.0 == 0 then codes "m" else (if nat_lt v.0 8 then codes "v" ++ decimal v.0 else codes "p" ++ decimal (v.0 - 8))

-- a number of seconds that is added; none if it is 0
abbrev pub plus_text : ℤ → List ℕ
plus_text (pos zero) = []
plus_text (pos (suc n)) = codes " + " ++ decimal (suc n)
plus_text (negsuc n) = codes " - " ++ decimal (suc n)

abbrev pub arrival_text : Var → ℤ → List ℕ
arrival_text v n = var_text v ++ codes ".ts" ++ plus_text n

abbrev pub date_text : Var → ℤ → List ℕ
date_text v n = var_text v ++ codes ".date" ++ plus_text n

abbrev pub time_text : Base → ℤ → List ℕ
time_text (Arrival v) plus = arrival_text v plus
time_text (Date v) plus = date_text v plus
time_text Fixed plus = codes "TIME " ++ signed_decimal plus
time_text (ArrivalDay v n) plus = codes "DAY(" ++ arrival_text v n ++ codes ")"
time_text (DateDay v n) plus = codes "DAY(" ++ date_text v n ++ codes ")"

abbrev pub term_text : Term → List ℕ
term_text e = time_text e.base e.plus

abbrev pub num_field_text : NumField → List ℕ
num_field_text Id = codes "id"
num_field_text Size = codes "size"
num_field_text DocOf = codes "doc"
num_field_text Value = codes "value"

abbrev pub text_field_text : TextField → List ℕ
text_field_text From = codes "from"
text_field_text Subject = codes "subject"
text_field_text MsgId = codes "msgid"
text_field_text InReplyTo = codes "inreplyto"
text_field_text Author = codes "author"
text_field_text NoteKind = codes "kind"
text_field_text NoteText = codes "text"

abbrev pub list_field_text : ListField → List ℕ
list_field_text To = codes "to"
list_field_text Cc = codes "cc"
list_field_text Newsgroups = codes "newsgroups"
list_field_text References = codes "references"
list_field_text Words = codes "words"

abbrev pub number_text : NumExpr → List ℕ
number_text (Literal n) = signed_decimal n
number_text (Field v f) = var_text v ++ codes "." ++ num_field_text f

abbrev pub text_text : TextExpr → List ℕ
text_text (X.Literal t) = text_of_bytes t
text_text (X.Field v f) = var_text v ++ codes "." ++ text_field_text f

abbrev pub atom_text : Atom → List ℕ
atom_text (Numbers x op y) = number_text x ++ codes " " ++ text_of_op op ++ codes " " ++ number_text y
atom_text (Texts x op y) = text_text x ++ codes " " ++ text_of_op op ++ codes " " ++ text_text y
atom_text (Times x op y) = term_text x ++ codes " " ++ text_of_op op ++ codes " " ++ term_text y
atom_text (Has v f y) = var_text v ++ codes "." ++ list_field_text f ++ codes " HAS " ++ text_text y

-- the strength of the operator: 0 for OR, 1 for AND, 2 for a unit
abbrev pub condition_strength : Condition → ℕ
condition_strength (Either l r) = 0
condition_strength (All l r) = 1
condition_strength _ = 2

-- a condition in the syntax of a query
abbrev pub body_text : Condition → List ℕ
body_text Always = codes "TRUE"
body_text Never = codes "FALSE"
body_text (Plain a) = atom_text a
body_text (NowAtLeast e) = codes "NOW >= " ++ term_text e
body_text (NowBefore e) = codes "NOW < " ++ term_text e
body_text (All l r) = parenthesized (nat_lt (condition_strength l) 1) (body_text l) ++ codes " AND "
    ++ parenthesized (nat_lt (condition_strength r) 2) (body_text r)
body_text (Either l r) = body_text l ++ codes " OR " ++ parenthesized (nat_lt (condition_strength r) 1) (body_text r)
body_text (Not x) = codes "NOT " ++ parenthesized (nat_lt (condition_strength x) 2) (body_text x)
body_text (Exists v t x) = codes "EXISTS (" ++ var_text v ++ codes ": " ++ text_of_table t ++ codes " WHERE " ++ body_text x ++ codes ")"

-- the guards of a step in brackets, if it has any
abbrev pub guards_text : List Atom → List ℕ
guards_text [] = []
guards_text (a ∷ guards) = codes " [" ++ joined (codes " AND ") atom_text (a ∷ guards) ++ codes "]"

abbrev pub step_text : Step → List ℕ
step_text step = var_text step.var ++ codes ": " ++ text_of_table step.table ++ guards_text step.guards

-- the line of a probe
abbrev pub probe_line : Probe → List ℕ
probe_line p =
    codes "OVER " ++ joined (codes ", ") step_text p.path ++ codes " AT " ++ term_text p.at ++ codes " WHERE " ++ body_text p.body

-- the lines of `explain`, one for each probe
abbrev pub explain_lines : List Probe → List (List ℕ)
explain_lines X = map probe_line X
