-- A condition looks at documents and notes alone.
use Rattle.std.proofs.Common.{◌≡◌, ap, refl, ℤ, Bool, List, [], ◌∷◌}
use Rattle.std.specs.Prelude.{not, map}
use Rattle.std.specs.List.{list_any}
use Rattle.tap_rows.specs.declared.tables.Tables.{Tables}
use Rattle.tap_rows.specs.Results.{visible}
use Rattle.tap_rows.specs.Kept.{IsOfTheSecond}
use Rattle.tql_tree.specs.declared.table.Table.{Table}
use Rattle.tql_tree.specs.declared.table.Table.TheVariants.{Docs, Notes}
use Rattle.tql_core.specs.Condition.{Condition, Always, Never, Plain, NowAtLeast, NowBefore, All, Either, Not, Exists}
use Rattle.tql_core.specs.Row.{Row, OfDoc, OfNote, rows_of}
use Rattle.tql_core.specs.Values.{Env, bind}
use Rattle.tql_core.specs.Holds.{truth, truth_of, asked_of}

any-same : (p q : Row → Bool) (rows : List Row) → ((row : Row) → p row ≡ q row) → list_any p rows ≡ list_any q rows
any-same p q [] same = refl
any-same p q (row ∷ rows) same = rw (same row, any-same p q rows same) refl

module _ (later tables : Tables) (docs : later.docs ≡ tables.docs) (notes : later.notes ≡ tables.notes) where
  rows-same : (table : Table) → rows_of table later ≡ rows_of table tables
  rows-same Docs = ap (map OfDoc) docs
  rows-same Notes = ap (map OfNote) notes

  pub truth-same : (s : ℤ) (c : Condition) (env : Env) → truth later s c env ≡ truth tables s c env
  truth-same s Always env = refl
  truth-same s Never env = refl
  truth-same s (Plain a) env = refl
  truth-same s (NowAtLeast e) env = refl
  truth-same s (NowBefore e) env = refl
  truth-same s (All l r) env = rw (truth-same s l env, truth-same s r env) refl
  truth-same s (Either l r) env = rw (truth-same s l env, truth-same s r env) refl
  truth-same s (Not x) env = ap not (truth-same s x env)
  truth-same s (Exists v t x) env =
      rw (rows-same t) (any-same (λ row. truth later s x (bind v row env)) (λ row. truth tables s x (bind v row env)) (rows_of t tables)
      (λ row. truth-same s x (bind v row env)))

pub of-the-second : (c : Condition) → IsOfTheSecond (truth_of c)
of-the-second c tables later doc s docs notes = truth-same (visible later s) (visible tables s) docs notes s c (asked_of doc)
