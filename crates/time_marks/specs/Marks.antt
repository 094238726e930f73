-- The seconds at which a condition can change: its marks, and its body at a mark.
use Rattle.std.specs.Prelude.{ℕ, zero, suc, ℤ, pos, ◌+◌, Bool, true, false, not, List, [], ◌∷◌, ◌++◌, map, int_lt}
use Rattle.tql_tree.specs.declared.table.Table.{Table}
use Rattle.tql_tree.specs.declared.table.Table.TheVariants.{Docs}
use Rattle.tql_core.specs.declared.term.Var.{Var}
use Rattle.tql_core.specs.declared.term.Base.{Base}
use Rattle.tql_core.specs.declared.term.Base.TheVariants.{Arrival, Date, Fixed, ArrivalDay, DateDay}
use Rattle.tql_core.specs.declared.term.Term.{Term}
use Rattle.tap_base.specs.declared.numbers.Op.TheVariants.{Lt, Le, Ge}
use Rattle.tql_core.specs.declared.atom.NumExpr.{NumExpr}
use Rattle.tql_core.specs.declared.atom.NumExpr.TheVariants.{Literal, Field}
use Rattle.tql_core.specs.declared.atom.Atom.{Atom}
use Rattle.tql_core.specs.declared.atom.Atom.TheVariants.{Numbers, Texts, Times, Has}
use Rattle.tql_core.specs.declared.atom.TextExpr.{TextExpr}
use Rattle.tql_core.specs.declared.atom.TextExpr.TheVariants as X
use Rattle.time_marks.specs.declared.mark.Step.{Step}
use Rattle.time_marks.specs.declared.mark.Mark.{Mark}
use Rattle.tql_core.specs.Condition.{Condition, Always, Never, Plain, NowAtLeast, NowBefore, All, Either, Not, Exists}

-- the number of a variable's path copy; m is its own copy
abbrev pub copied : ℕ → ℕ
copied zero = 0
copied (suc k) = suc k + 8

-- a variable's path copy
abbrev pub copy : Var → Var
copy v = record { 0 = copied v.0 }

-- a base with the copy of its variable
abbrev pub copy_base : Base → Base
copy_base (Arrival v) = Arrival (copy v)
copy_base (Date v) = Date (copy v)
copy_base Fixed = Fixed
copy_base (ArrivalDay v n) = ArrivalDay (copy v) n
copy_base (DateDay v n) = DateDay (copy v) n

-- a term with the copy of its variable
abbrev pub copy_term : Term → Term
copy_term e = record { base = copy_base e.base; plus = e.plus }

-- a number with the copy of its variable
abbrev pub copy_number : NumExpr → NumExpr
copy_number (Literal n) = Literal n
copy_number (Field v f) = Field (copy v) f

-- a text with the copy of its variable
abbrev pub copy_text : TextExpr → TextExpr
copy_text (X.Literal t) = X.Literal t
copy_text (X.Field v f) = X.Field (copy v) f

-- an atom with the copies of its variables
abbrev pub copy_atom : Atom → Atom
copy_atom (Numbers x op y) = Numbers (copy_number x) op (copy_number y)
copy_atom (Texts x op y) = Texts (copy_text x) op (copy_text y)
copy_atom (Times x op y) = Times (copy_term x) op (copy_term y)
copy_atom (Has v f y) = Has (copy v) f (copy_text y)

-- the conjuncts of a condition that are atoms without now: they hold whenever it does
abbrev pub guards_of : Condition → List Atom
guards_of (Plain a) = a ∷ []
guards_of (All l r) = guards_of l ++ guards_of r
guards_of _ = []

-- the arrival of a variable's row
abbrev pub arrival_term : Var → Term
arrival_term v = record { base = Arrival v; plus = pos 0 }

-- the step of a variable bound in a condition
abbrev pub step_of : Var → Table → Condition → Step
step_of v t x = record { var = copy v; table = t; guards = map copy_atom (guards_of x) }

-- the mark, with one more step before its path
abbrev pub under_step : Step → Mark → Mark
under_step step mark = record { path = step ∷ mark.path; at = mark.at }

-- the mark, with more steps before its path
abbrev pub below : List Step → Mark → Mark
below path mark = record { path = path ++ mark.path; at = mark.at }

-- the term as a mark with no path, if the flag is set
abbrev pub mark_if : Bool → Term → List Mark
mark_if true e = record { path = []; at = e } ∷ []
mark_if false e = []

-- the terms at which a condition can become true (sign plus) or false (sign minus), each with the path of rows that it speaks of
abbrev pub marks : Condition → Bool → List Mark
marks Always up = []
marks Never up = []
marks (Plain a) up = []
marks (NowAtLeast e) up = mark_if up (copy_term e)
marks (NowBefore e) up = mark_if (not up) (copy_term e)
marks (All l r) up = marks l up ++ marks r up
marks (Either l r) up = marks l up ++ marks r up
marks (Not x) up = marks x (not up)
marks (Exists v t x) up = map (under_step (step_of v t x)) (mark_if up (arrival_term (copy v)) ++ marks x up)

-- m, the document that is asked about
abbrev pub document_var : Var
document_var = record { 0 = 0 }

-- the seconds at which a document can begin to be given
abbrev pub rising : Condition → List Mark
rising c = map (under_step (step_of document_var Docs c)) (mark_if true (arrival_term document_var) ++ marks c true)

-- a fixed second
abbrev pub fixed_term : ℤ → Term
fixed_term a = record { base = Fixed; plus = a }

-- the marks below the first step: the rising ones, and the start if it is above 0
abbrev pub marks_from : Condition → ℤ → List Mark
marks_from c a = (mark_if true (arrival_term document_var) ++ marks c true) ++ mark_if (int_lt (pos 0) a) (fixed_term a)

-- the seconds from a on at which a document can begin to be given
abbrev pub rising_from : Condition → ℤ → List Mark
rising_from c a = map (under_step (step_of document_var Docs c)) (marks_from c a)

-- the condition with a term in the place of now; each EXISTS also asks that its row has come by then, so it is asked over all
-- rows
abbrev pub body : Condition → Term → Condition
body Always at = Always
body Never at = Never
body (Plain a) at = Plain a
body (NowAtLeast e) at = Plain (Times at Ge e)
body (NowBefore e) at = Plain (Times at Lt e)
body (All l r) at = All (body l at) (body r at)
body (Either l r) at = Either (body l at) (body r at)
body (Not x) at = Not (body x at)
body (Exists v t x) at = Exists v t (All (Plain (Times (arrival_term v) Le at)) (body x at))
