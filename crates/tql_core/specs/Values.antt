-- The values of expressions and the truth of atoms, for some variables bound to rows.
use Rattle.std.specs.Prelude.{ℕ, ℤ, pos, ◌+ℤ◌, neg_ℤ, Option, Some, None, Bool, false, not, List, [], ◌∷◌, int_le}
use Rattle.std.specs.Prelude.{int_lt, nat_eq, if◌then◌else◌}
use Rattle.std.specs.declared.cmp.Ordering.{Ordering}
use Rattle.std.specs.List.{list_any}
use Rattle.std.specs.Int.{int_rem_euclid}
use Rattle.std.specs.Ordering.{int_eq, nat_cmp, is_eq, is_lt, is_gt}
use Rattle.std.specs.Cmp.Lexicographic.{slice_cmp}
use Rattle.tap_base.specs.declared.numbers.Op.{Op}
use Rattle.tap_base.specs.declared.numbers.Op.TheVariants.{Eq, Ne, Lt, Le, Gt, Ge}
use Rattle.tql_core.specs.declared.term.Var.{Var}
use Rattle.tql_core.specs.declared.term.Base.{Base}
use Rattle.tql_core.specs.declared.term.Base.TheVariants.{Arrival, Date, Fixed, ArrivalDay, DateDay}
use Rattle.tql_core.specs.declared.term.Term.{Term}
use Rattle.tql_core.specs.declared.atom.NumField.{NumField}
use Rattle.tql_core.specs.declared.atom.NumField.TheVariants.{Id, Size, DocOf, Value}
use Rattle.tql_core.specs.declared.atom.NumExpr.{NumExpr}
use Rattle.tql_core.specs.declared.atom.NumExpr.TheVariants.{Literal, Field}
use Rattle.tql_core.specs.declared.atom.Atom.{Atom}
use Rattle.tql_core.specs.declared.atom.Atom.TheVariants.{Numbers, Texts, Times, Has}
use Rattle.tql_core.specs.declared.atom.TextField.{TextField}
use Rattle.tql_core.specs.declared.atom.TextField.TheVariants.{From, Subject, MsgId, InReplyTo, Author, NoteKind, NoteText}
use Rattle.tql_core.specs.declared.atom.ListField.{ListField}
use Rattle.tql_core.specs.declared.atom.ListField.TheVariants.{To, Cc, Newsgroups, References, Words}
use Rattle.tql_core.specs.declared.atom.TextExpr.{TextExpr}
use Rattle.tql_core.specs.declared.atom.TextExpr.TheVariants as X
use Rattle.tql_core.specs.Row.{Row, OfDoc, OfNote, arrival, date}
use Rattle.tap_rows.specs.Fields.{fields}

-- a variable and its row
pub record Bound : Type 0 where
  pub var : ℕ
  pub row : Row

-- the bound variables, the last one first
abbrev pub Env : Type 0
Env = List Bound

-- one more variable
abbrev pub bind : Var → Row → Env → Env
bind v r env = record { var = v.0; row = r } ∷ env

-- the row of a variable, if it is bound
abbrev pub lookup : ℕ → Env → Option Row
lookup k [] = None
lookup k (b ∷ env) = if nat_eq k b.var then Some b.row else lookup k env

-- what a row that may be absent has
abbrev pub on_row : {A : Type 0} → Option Row → (Row → Option A) → Option A
on_row None f = None
on_row (Some r) f = f r

-- the least multiple of a day's 86,400 seconds that is at least x
abbrev pub round_up_to_day : ℤ → ℤ
round_up_to_day x = x +ℤ int_rem_euclid (neg_ℤ x) (pos 86400)

-- the start of the day of a second that may be absent, and that many seconds more
abbrev pub day_of : ℤ → Option ℤ → Option ℤ
day_of n None = None
day_of n (Some x) = Some (round_up_to_day (x +ℤ n))

-- what a time is counted from
abbrev pub base_value : Base → Env → Option ℤ
base_value (Arrival v) env = on_row (lookup v.0 env) (λ r. Some (arrival r))
base_value (Date v) env = on_row (lookup v.0 env) date
base_value Fixed env = Some (pos 0)
base_value (ArrivalDay v n) env = on_row (lookup v.0 env) (λ r. Some (round_up_to_day (arrival r +ℤ n)))
base_value (DateDay v n) env = on_row (lookup v.0 env) (λ r. day_of n (date r))

-- a second that may be absent, and that many seconds more
abbrev pub plus_to : Option ℤ → ℤ → Option ℤ
plus_to None n = None
plus_to (Some x) n = Some (x +ℤ n)

-- a time's second, absent if its base is
abbrev pub value : Term → Env → Option ℤ
value e env = plus_to (base_value e.base env) e.plus

-- a number of a row, if its table has this field
abbrev pub field : NumField → Row → Option ℤ
field Id (OfDoc doc) = Some (pos doc.num.0)
field Id (OfNote note) = Some (pos note.num.0)
field Size (OfDoc doc) = Some (pos (fields doc).size)
field Size (OfNote note) = None
field DocOf (OfDoc doc) = None
field DocOf (OfNote note) = Some (pos note.doc.0)
field Value (OfDoc doc) = None
field Value (OfNote note) = Some note.value

-- the number that an expression has
abbrev pub number : NumExpr → Env → Option ℤ
number (Literal n) env = Some n
number (Field v f) env = on_row (lookup v.0 env) (field f)

-- a text of a row, if its table has this field and the row has it
abbrev pub text_field : TextField → Row → Option (List ℕ)
text_field From (OfDoc doc) = (fields doc).from
text_field Subject (OfDoc doc) = (fields doc).subject
text_field MsgId (OfDoc doc) = (fields doc).msgid
text_field InReplyTo (OfDoc doc) = (fields doc).inreplyto
text_field Author (OfNote note) = Some note.author
text_field NoteKind (OfNote note) = Some note.kind
text_field NoteText (OfNote note) = Some note.text
text_field _ _ = None

-- the text that an expression has
abbrev pub text : TextExpr → Env → Option (List ℕ)
text (X.Literal t) env = Some t
text (X.Field v f) env = on_row (lookup v.0 env) (text_field f)

-- a list of a row, if its table has this field
abbrev pub list_field : ListField → Row → Option (List (List ℕ))
list_field To (OfDoc doc) = Some (fields doc).to
list_field Cc (OfDoc doc) = Some (fields doc).cc
list_field Newsgroups (OfDoc doc) = Some (fields doc).newsgroups
list_field References (OfDoc doc) = Some (fields doc).references
list_field Words (OfDoc doc) = Some (fields doc).words
list_field _ (OfNote note) = None

-- does a comparison hold of two values in this order?
abbrev pub answers : Op → Ordering → Bool
answers Eq o = is_eq o
answers Ne o = not (is_eq o)
answers Lt o = is_lt o
answers Le o = not (is_gt o)
answers Gt o = is_gt o
answers Ge o = not (is_lt o)

-- texts by bytes, a proper prefix first
abbrev pub text_cmp : List ℕ → List ℕ → Ordering
text_cmp = slice_cmp nat_cmp

-- does a comparison of two numbers hold?
abbrev pub compare : Op → ℤ → ℤ → Bool
compare Eq x y = int_eq x y
compare Ne x y = not (int_eq x y)
compare Lt x y = int_lt x y
compare Le x y = int_le x y
compare Gt x y = int_lt y x
compare Ge x y = int_le y x

-- a comparison of numbers, false if a side is absent
abbrev pub both : Op → Option ℤ → Option ℤ → Bool
both op None y = false
both op (Some x) None = false
both op (Some x) (Some y) = compare op x y

-- a comparison of texts, false if a side is absent
abbrev pub both_texts : Op → Option (List ℕ) → Option (List ℕ) → Bool
both_texts op None y = false
both_texts op (Some x) None = false
both_texts op (Some x) (Some y) = answers op (text_cmp x y)

-- does the list have the text? False if a side is absent
abbrev pub has : Option (List (List ℕ)) → Option (List ℕ) → Bool
has None y = false
has (Some xs) None = false
has (Some xs) (Some y) = list_any (λ x. is_eq (text_cmp x y)) xs

-- the truth of an atom; false if a side is absent
abbrev pub true_atom : Atom → Env → Bool
true_atom (Numbers x op y) env = both op (number x env) (number y env)
true_atom (Texts x op y) env = both_texts op (text x env) (text y env)
true_atom (Times x op y) env = both op (value x env) (value y env)
true_atom (Has v f y) env = has (on_row (lookup v.0 env) (list_field f)) (text y env)
