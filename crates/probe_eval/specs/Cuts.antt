-- Guards that cut a posting list: comparisons of the arrival or the number of its documents with what doesn't name their variable.
use Rattle.std.specs.Prelude.{Bool, true, false, not, ◌&&◌, ◌||◌, Option, Some, None, List}
use Rattle.std.specs.List.{list_all}
use Rattle.tap_base.specs.declared.numbers.Op.{Op}
use Rattle.tap_base.specs.declared.numbers.Op.TheVariants.{Eq, Ne, Lt, Le, Gt, Ge}
use Rattle.tap_rows.specs.declared.rows.Doc.{Doc}
use Rattle.tql_core.specs.declared.term.Var.{Var}
use Rattle.tql_core.specs.declared.term.Term.{Term}
use Rattle.tql_core.specs.declared.atom.NumField.TheVariants.{Id}
use Rattle.tql_core.specs.declared.atom.NumExpr.{NumExpr}
use Rattle.tql_core.specs.declared.atom.NumExpr.TheVariants.{Field}
use Rattle.tql_core.specs.declared.atom.Atom.{Atom}
use Rattle.tql_core.specs.declared.atom.Atom.TheVariants.{Numbers, Times}
use Rattle.tql_core.specs.contracts.term.TermPartialEq.TheImpl as term
use Rattle.tql_core.specs.contracts.atom.NumExprPartialEq.TheImpl as num_expr
use Rattle.tql_core.specs.Row.{Row}
use Rattle.tql_core.specs.Values.{Env, bind, true_atom}
use Rattle.time_marks.specs.Marks.{arrival_term}
use Rattle.row_index.specs.declared.cut.Limit.{Limit}
use Rattle.row_index.specs.declared.cut.Limit.TheVariants.{Below, UpTo, From, Above}
use Rattle.row_index.specs.Cuts.{keeps}
use Rattle.access_plan.specs.Accesses.{is_other}
use Rattle.probe_eval.specs.declared.cuts.CutTest.{CutTest}
use Rattle.probe_eval.specs.declared.cuts.CutTest.TheVariants as K
use Rattle.probe_eval.specs.Open.{base_known, number_known}

-- which numbers stand on the left of a comparison that is true, if those are all on one side of the right one
abbrev pub cut_limit : Op → Option Limit
cut_limit Eq = None
cut_limit Ne = None
cut_limit Lt = Some Below
cut_limit Le = Some UpTo
cut_limit Gt = Some Above
cut_limit Ge = Some From

-- is there such a side?
abbrev pub is_half : Op → Bool
is_half Eq = false
is_half Ne = false
is_half _ = true

-- is the guard such a comparison?
abbrev pub is_half_guard : Atom → Bool
is_half_guard (Times x op y) = is_half op
is_half_guard (Numbers x op y) = is_half op
is_half_guard _ = false

-- the comparison of the same with its sides exchanged
abbrev pub turned_op : Op → Op
turned_op Lt = Gt
turned_op Le = Ge
turned_op Gt = Lt
turned_op Ge = Le
turned_op op = op

module _ (v : Var) where
  -- is the time the arrival of the variable's row?
  abbrev pub is_own_time : Term → Bool
  is_own_time e = term.ghosts.eq e (arrival_term v)

  -- is the number that of the variable's row?
  abbrev pub is_own_number : NumExpr → Bool
  is_own_number e = num_expr.ghosts.eq e (Field v Id)

  -- does the guard cut a list? One of its sides is the arrival or number of the variable's row, and the other doesn't name it
  abbrev pub is_cut : Atom → Bool
  is_cut (Times x op y) =
      is_half op && ((is_own_time x && base_known (is_other v) y.base) || (is_own_time y && base_known (is_other v) x.base))
  is_cut (Numbers x op y) =
      is_half op && ((is_own_number x && number_known (is_other v) y) || (is_own_number y && number_known (is_other v) x))
  is_cut _ = false

  -- is the guard true with the row, if it cuts a list?
  abbrev pub passes_cut : Env → Atom → Row → Bool
  passes_cut env a row = not (is_cut a) || true_atom a (bind v row env)

  -- is each guard?
  abbrev pub passes_cuts : Env → List Atom → Row → Bool
  passes_cuts env guards row = list_all (λ a. passes_cut env a row) guards

-- does the document pass the test?
abbrev pub passes_test : CutTest → Doc → Bool
passes_test K.All doc = true
passes_test (K.By cut) doc = keeps cut doc
passes_test K.None doc = false
