-- How values of their types are taken from rows.
use Rattle.std.proofs.Common.{Bool, true, false, nat_lt, ◌≡◌, ◌≢◌, ◌∙◌, ◌↔◌, inl, inr, ℕ, ◌<◌, ◌≤◌, suc, List, [], ◌∷◌, length, slice_get}
use Rattle.std.proofs.Common.{Option, Some, None, Result, Ok, Err, IfErr, refl, sym, ap, arith, ltb-false, ltb-true, ◌++◌, map}
use Rattle.std.proofs.Common.{append_assoc}
use Rattle.std.proofs.lemmas.Result.{IfErr-weaker}
use Rattle.sqlite_value.specs.declared.value.Value.{Value}
use Rattle.sqlite_value.specs.declared.value.Value.TheVariants.{Null, Int, Real, Text, Blob}
use Rattle.sqlite_value.specs.Order.{Row, column}
use Rattle.sqlite.specs.declared.error.Error.{Error}
use Rattle.sqlite.specs.declared.error.ErrorCode.TheVariants.{OutOfMemory}
use Rattle.sqlite.specs.declared.error.Error.TheVariants.{SqliteFailure, InvalidColumnIndex, InvalidColumnType}
use Rattle.sqlite.specs.declared.types.Type.{«Type» as SqlType}
use Rattle.sqlite.specs.declared.types.Type.TheVariants as kind
use Rattle.sqlite.specs.Reading.{IsReadError}
use Rattle.sqlite.specs.Values.{IsInt, type_of}
use Rattle.keeper_sql.specs.Failing.{Lacks, FailsToTake, FailsToTakeRow, FailsToTakeRows, FailsToRead, IsOneOf}
use Rattle.sqlite.specs.State.{State, Shown}

pub is_integer : (v : Value) → type_of v ≡ kind.Integer → IsInt v
is_integer Null is = let e = is in cc
is_integer (Int n) is = (n, refl)
is_integer (Real x) is = let e = is in cc
is_integer (Text t) is = let e = is in cc
is_integer (Blob b) is = let e = is in cc

pub is_blob : (v : Value) → type_of v ≡ kind.Blob → (b : List ℕ) × (v ≡ Blob b)
is_blob Null is = let e = is in cc
is_blob (Int n) is = let e = is in cc
is_blob (Real x) is = let e = is in cc
is_blob (Text t) is = let e = is in cc
is_blob (Blob b) is = (b, refl)

module _ (type : SqlType) (row : Row) (at : ℕ) where
  -- the value is there, or the error says that it isn't
  within : (b : Bool) → nat_lt at (length row) ≡ b → (e : Error) → e ≢ SqliteFailure OutOfMemory
      → (length row ≤ at → e ≡ InvalidColumnIndex at)
      → (e ≢ SqliteFailure OutOfMemory → at < length row → type_of (column row at) ≢ type)
      → (e ≢ SqliteFailure OutOfMemory → at < length row → e ≡ InvalidColumnType at (type_of (column row at))) → Lacks type row at e
  within true is e other index type_is named =
      let there : at < length row = ltb-true at (length row) is in
      inr (there, type_is other there, named other there)
  within false is e other index type_is named = let short : length row ≤ at = ltb-false at (length row) is in inl (short, index short)

  lacks_by : (e : Error) → (length row ≤ at → e ≡ InvalidColumnIndex at)
      → (e ≢ SqliteFailure OutOfMemory → at < length row → type_of (column row at) ≢ type)
      → (e ≢ SqliteFailure OutOfMemory → at < length row → e ≡ InvalidColumnType at (type_of (column row at)))
      → IsReadError at (column row at) e → FailsToTake type row at e
  lacks_by e index type_is named (inr (inr (inr (inr is)))) = inl is
  lacks_by e index type_is named (inl is) = inr (within _ refl e (λ no. let x = sym is ∙ no in cc) index type_is named)
  lacks_by e index type_is named (inr (inl is)) = inr (within _ refl e (λ no. let x = sym is ∙ no in cc) index type_is named)
  lacks_by e index type_is named (inr (inr (inl is))) = inr (within _ refl e (λ no. let x = sym is ∙ no in cc) index type_is named)
  lacks_by e index type_is named (inr (inr (inr (inl is)))) = inr (within _ refl e (λ no. let x = sym is ∙ no in cc) index type_is named)

  -- how a value of this type isn't taken
  pub fails_to_take : {T : Type 0} (IsSuch : Value → Type 0) (r : Result T Error) → ((v : Value) → type_of v ≡ type → IsSuch v)
      → ((r ≡ Err (InvalidColumnIndex at)) ↔ (length row ≤ at))
      → IfErr r (λ e. e ≢ SqliteFailure OutOfMemory → at < length row → ¬ IsSuch (column row at))
      → IfErr r (λ e. e ≢ SqliteFailure OutOfMemory → at < length row → e ≡ InvalidColumnType at (type_of (column row at)))
      → IfErr r (IsReadError at (column row at)) → IfErr r (FailsToTake type row at)
  fails_to_take IsSuch (Ok x) such index type_is named read = tt
  fails_to_take IsSuch (Err e) such index type_is named read =
      lacks_by e (λ short. let same = index.1 short in cc) (λ other there is. type_is other there (such (column row at) is)) named read

pub taken_of : (types : List SqlType) (type : SqlType) (row : Row) (at : ℕ) (e : Error) → slice_get types at ≡ Some type
    → FailsToTake type row at e → FailsToTakeRow types row e
taken_of types type row at e is (inl h) = inl h
taken_of types type row at e is (inr h) = inr (at, type, is, h)

-- ---- one of the rows

pub one_here : (row : Row) (rest all : List Row) → ((r : Row) → IsOneOf (row ∷ rest) r → IsOneOf all r) → IsOneOf all row
one_here row rest all h = h row (0, omega arith, refl)

pub one_later : (row : Row) (rest all : List Row) → ((r : Row) → IsOneOf (row ∷ rest) r → IsOneOf all r) → (r : Row) → IsOneOf rest r
    → IsOneOf all r
one_later row rest all h r is = let low = is.1 in h r (suc is.0, omega (arith, low), is.2)

pub one_first : (row : Row) (all : List Row) → Some row ≡ slice_get all 0 → IsOneOf all row
one_first row [] is = absurd (let e : ◌≡◌ {A = Option Row} (Some row) None = is in cc)
one_first row (r ∷ rows) is = let same : row ≡ r = cc in (0, omega arith, same)

pub taken_rows : (types : List SqlType) (row : Row) (all : List Row) (e : Error) → IsOneOf all row → FailsToTakeRow types row e
    → FailsToTakeRows types all e
taken_rows types row all e one (inl h) = inl h
taken_rows types row all e one (inr h) = inr (row, one, h)

-- one more of the rows was read
pub read_one : {X : Type 0} (f : Row → X) (was rows more : List X) (row : Row) (all left rest : List Row)
    → was ++ map f all ≡ rows ++ map f left → left ≡ row ∷ rest
    → more ≡ rows ++ f row ∷ [] → was ++ map f all ≡ more ++ map f rest
read_one f was rows more row all left rest h items pushed =
    h ∙ ap (λ l. rows ++ map f l) items ∙ sym (append_assoc rows (f row ∷ []) (map f rest)) ∙ ap (λ l. l ++ map f rest) (sym pushed)

-- the rows that a query shows
pub shown_fails : {T : Type 0} (sql : List ℕ) (types : List SqlType) (old new : State) (rows : List Row) (r : Result T Error)
    → Shown sql [] old new rows
    → IfErr r (FailsToTakeRows types rows) → IfErr r (FailsToRead sql types old new)
shown_fails sql types old new rows r shown =
    IfErr-weaker r (FailsToTakeRows types rows) (FailsToRead sql types old new) (λ e h. inr (rows, shown, h))
