-- What a condition gives, in the words of the rows.
use Rattle.std.specs.Prelude.{ℕ, ℤ, Bool, Option, List}
use Rattle.std.specs.Int.{int_gap}
use Rattle.tap_rows.specs.declared.rows.Doc.{Doc}
use Rattle.tap_rows.specs.declared.tables.Tables.{Tables}
use Rattle.tap_rows.specs.declared.results.Hit.{Hit}
use Rattle.tap_rows.specs.Results.{is_given, snapshot, first_second, hits_by, fresh_in, union_until}
use Rattle.tql_core.specs.Condition.{Condition}
use Rattle.tql_core.specs.Holds.{truth_of}

abbrev pub given : Condition → Tables → Doc → ℤ → Bool
given c T d s = is_given (truth_of c) T d s

abbrev pub gives : Condition → Tables → ℤ → List Doc
gives c T s = snapshot (truth_of c) T s

abbrev pub count_between : ℤ → ℤ → ℕ
count_between a t = int_gap a t

abbrev pub first : Condition → Tables → Doc → ℤ → ℤ → Option ℤ
first c T d a t = first_second (truth_of c) T d a t

abbrev pub hits : (Doc → Option ℤ) → List Doc → List Hit
hits second docs = hits_by second docs

abbrev pub fresh : Condition → Tables → ℤ → ℤ → ℤ → List Hit
fresh c T a tau t = fresh_in (truth_of c) T a tau t

abbrev pub union : Condition → Tables → ℤ → ℤ → List Hit
union c T a t = union_until (truth_of c) T a t
