-- What a text that was refused leaves.
use Rattle.std.proofs.Common.{◌≡◌, inl, inr, ℕ, List, [], Result, Ok, Err, refl, sym, ◌∙◌}
use Rattle.std.specs.Prelude.{IfOk, IfErr, codes}
use Rattle.sqlite_value.specs.Order.{Row}
use Rattle.sqlite_trees.specs.declared.error.StoreError.{StoreError}
use Rattle.sqlite_trees.specs.declared.error.StoreError.TheVariants.{OutOfMemory, Io, Corrupt, Full, Broken, Unstorable}
use Rattle.sqlite_tied.specs.Compute.{everything}
use Rattle.sqlite_schema.specs.declared.schema.Schema.{Schema}
use Rattle.sqlite_resolve.specs.declared.compiled.Compiled.{Compiled}
use Rattle.sqlite_resolve.specs.declared.error.CompileError.{CompileError}
use Rattle.sqlite.specs.Listing.{understood}
use Rattle.sqlite.specs.Outline.{Outline}
use Rattle.sqlite.specs.Steps.{Outlines}
use Rattle.sqlite.specs.declared.error.Error.{Error}
use Rattle.sqlite.specs.declared.error.Error.TheVariants.{SqlInputError}
use Rattle.sqlite.specs.State.{State, IsUnchanged, IsNotRun, store_error}
use Rattle.keeper_sql.specs.Calls.{IsRefused}
use Rattle.keeper_sql.specs.Failing.{FailsAtTest}

no_failure : (cause : StoreError) (fault : CompileError) → SqlInputError fault ≡ store_error cause → ⊥
no_failure OutOfMemory fault e = let x = e in cc
no_failure Io fault e = let x = e in cc
no_failure Corrupt fault e = let x = e in cc
no_failure Full fault e = let x = e in cc
no_failure Broken fault e = let x = e in cc
no_failure Unstorable fault e = let x = e in cc

not_run_rests : (old new : State) (sql : List ℕ) (params : Row) (e : Error) (fault : CompileError) → e ≡ SqlInputError fault
    → IsNotRun old new sql params e → IsUnchanged old new
unfolding IsNotRun
not_run_rests old new sql params e fault is (inl h) = h.1
not_run_rests old new sql params e fault is (inr h) = absurd (no_failure h.0 fault (sym is ∙ h.1))

-- it changes nothing
pub refused_rests : {T : Type 0} (answer : Result T Error) (old new : State) (sql : List ℕ) (params : Row) → IsRefused answer
    → IfErr answer (λ e. (params : Row) → IsNotRun old new sql params e) → IsUnchanged old new
refused_rests (Ok x) old new sql params refused h = absurd refused
refused_rests (Err e) old new sql params refused h = not_run_rests old new sql params e refused.0 refused.1 (h params)

-- the text of the test is refused, whatever tables there are
pub test_refused : (schema : Schema) (c : Compiled) → understood schema (codes "DROP") ≡ Ok c → ⊥
unfolding understood everything
test_refused schema c e = let e' = e in cc

no_outline : (r : Result Compiled CompileError) (s : Outline) → ((c : Compiled) → r ≡ Ok c → ⊥) → Outlines r s → ⊥
no_outline (Ok c) s never h = never c refl
no_outline (Err e) s never h = h

not_run_fails : (old new : State) (sql : List ℕ) (params : Row) (e : Error) → ((c : Compiled) → understood old.now.schema sql ≡ Ok c → ⊥)
    → ((fault : CompileError) → e ≡ SqlInputError fault → ⊥) → IsNotRun old new sql params e → FailsAtTest old new
unfolding IsNotRun
not_run_fails old new sql params e none never (inl h) = elim h.0 [
  | inl x ↦ absurd (never x.0 x.2)
  | inr x ↦ absurd (none x.0 x.1)
]
not_run_fails old new sql params e none never (inr h) = (e, h)

-- a text that is no statement, and was not refused, failed
pub not_refused_fails : (answer : Result Outline Error) (old new : State) (sql : List ℕ)
    → ((c : Compiled) → understood old.now.schema sql ≡ Ok c → ⊥)
    → (IsRefused answer → ⊥) → IfOk answer (Outlines (understood old.now.schema sql))
    → IfErr answer (λ e. (params : Row) → IsNotRun old new sql params e) → FailsAtTest old new
not_refused_fails (Ok s) old new sql none never shape err = absurd (no_outline (understood old.now.schema sql) s none shape)
not_refused_fails (Err e) old new sql none never shape err = not_run_fails old new sql [] e none (λ fault is. never (fault, is)) (err [])
