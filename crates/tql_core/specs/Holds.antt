-- The truth of a condition at a second.
use Rattle.std.specs.Prelude.{ℤ, Some, Bool, true, false, not, ◌&&◌, ◌||◌, [], ◌∷◌}
use Rattle.std.specs.List.{list_any}
use Rattle.tap_base.specs.declared.numbers.Op.TheVariants.{Le, Gt}
use Rattle.tap_rows.specs.declared.rows.Doc.{Doc}
use Rattle.tap_rows.specs.declared.tables.Tables.{Tables}
use Rattle.tap_rows.specs.Results.{Truth, visible}
use Rattle.tql_core.specs.Condition.{Condition, Always, Never, Plain, NowAtLeast, NowBefore, All, Either, Not, Exists}
use Rattle.tql_core.specs.Row.{OfDoc, rows_of}
use Rattle.tql_core.specs.Values.{Env, bind, value, both, true_atom}

-- the truth of a condition over tables, for variables that have rows, with s as now
abbrev pub truth : Tables → ℤ → Condition → Env → Bool
truth tables s Always env = true
truth tables s Never env = false
truth tables s (Plain a) env = true_atom a env
truth tables s (NowAtLeast e) env = both Le (value e env) (Some s)
truth tables s (NowBefore e) env = both Gt (value e env) (Some s)
truth tables s (All l r) env = truth tables s l env && truth tables s r env
truth tables s (Either l r) env = truth tables s l env || truth tables s r env
truth tables s (Not x) env = not (truth tables s x env)
truth tables s (Exists v t x) env = list_any (λ row. truth tables s x (bind v row env)) (rows_of t tables)

-- the truth at the second s: over the rows that are visible then
abbrev pub holds : Condition → Env → Tables → ℤ → Bool
holds c env tables s = truth (visible tables s) s c env

-- the variable m bound to a document
abbrev pub asked_of : Doc → Env
asked_of doc = record { var = 0; row = OfDoc doc } ∷ []

-- a condition as the truth of a document at a second: the `m` of the query is the document
abbrev pub truth_of : Condition → Truth
truth_of c tables doc s = holds c (asked_of doc) tables s
