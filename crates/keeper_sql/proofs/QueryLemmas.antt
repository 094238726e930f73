-- What a query in a transaction leaves.
use Rattle.std.proofs.Common.{◌≡◌, ◌⊎◌, inl, inr, ℕ, List, [], ◌∷◌, map, Option, Some, None, Result, Ok, Err, OnOk, OnErr, refl, ap}
use Rattle.sqlite_value.specs.Order.{Row}
use Rattle.sqlite_schema.specs.declared.command.Returning.{Returning}
use Rattle.sqlite_resolve.specs.declared.compiled.Compiled.{Compiled}
use Rattle.sqlite.specs.declared.error.Error.{Error}
use Rattle.sqlite.specs.State.{State, IsUnchanged, IsRolledBack, IsNotRun, FailsToQuery, FailsToShow, IsTooLate, Shown}
use Rattle.keeper_sql.specs.RowsAsValues.{version_shown, version_in, show_version}
use Rattle.keeper_sql.specs.Store.{Undone}
use Rattle.keeper_sql.proofs.AnySchema.{Asks, understood_none}

pub unchanged_undone : (old new : State) → IsUnchanged old new → Undone old new
unchanged_undone old new h = record { was_open = λ _. h.0.was_open; committed = λ _. h.0.committed_is }

back_undone : (old new : State) → IsRolledBack old new → Undone old new
back_undone old new h = record { was_open = h.was_open; committed = λ now. (h.undone now).1 }

not_run_undone : (old new : State) (sql : List ℕ) (params : Row) (e : Error) → IsNotRun old new sql params e → Undone old new
unfolding IsNotRun
not_run_undone old new sql params e (inl h) = unchanged_undone old new h.1
not_run_undone old new sql params e (inr h) = back_undone old new h.3

show_undone : (old new : State) (sql : List ℕ) (c : Compiled) (params : Row) (e : Error) (what : Option Returning)
    → FailsToShow old new sql c params e what → Undone old new
show_undone old new sql c params e None h = unchanged_undone old new h.3
show_undone old new sql c params e (Some what) (inl h) = unchanged_undone old new h.1
show_undone old new sql c params e (Some what) (inr h) = back_undone old new h.3

fails_undone : (old new : State) (sql : List ℕ) (params : Row) (e : Error) → FailsToQuery sql params old new e → Undone old new
unfolding FailsToQuery
fails_undone old new sql params e (inl h) = not_run_undone old new sql params e h
fails_undone old new sql params e (inr h) = show_undone old new sql h.0 _ e h.0.returning h.2

pub query_undone : (old new : State) (sql : List ℕ) (params : Row) (e : Error)
    → FailsToQuery sql params old new e ⊎ IsTooLate sql params old new e → Undone old new
query_undone old new sql params e (inl h) = fails_undone old new sql params e h
query_undone old new sql params e (inr h) = unchanged_undone old new h.5

-- a query changes nothing
pub shown_rests : (sql : List ℕ) (old new : State) (rows : List Row) → Asks sql → Shown sql [] old new rows → IsUnchanged old new
unfolding Shown
shown_rests sql old new rows asks h = let bare = understood_none old.now.schema sql h.0 asks h.1.is in (rw bare at h.2).3

pub always_ok : {T E P : Type 0} (r : Result T E) → P → OnOk r P
always_ok (Ok x) p = p
always_ok (Err e) p = tt

pub always_err : {T E P : Type 0} (r : Result T E) → P → OnErr r P
always_err (Ok x) p = tt
always_err (Err e) p = p

pub map_twice : {X Y : Type 0} (read : Row → Y) (f : X → Row) (xs : List X) → map read (map f xs) ≡ map (λ x. read (f x)) xs
map_twice read f [] = refl
map_twice read f (x ∷ xs) = ap (λ l. read (f x) ∷ l) (map_twice read f xs)

pub version_as_shown : (rows : List Row) → version_shown (map show_version rows) ≡ version_in rows
version_as_shown [] = refl
version_as_shown (r ∷ rows) = refl
