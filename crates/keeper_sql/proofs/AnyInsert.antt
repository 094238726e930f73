-- The statement that writes the version is an insert under each schema, and leaves the schema as it is.
use Rattle.std.proofs.Common.{◌≡◌, ℕ, List, false, Option, Some, None, Ok, Err, inl, inr, ap, subst}
use Rattle.std.proofs.lemmas.Bool.{cases_Bool}
use Rattle.std.specs.Prelude.{IfOk, slice_get}
use Rattle.std.proofs.lemmas.Result.{IfOk-weaker}
use Rattle.sqlite_ast.specs.declared.Conflict.TheVariants as conflict
use Rattle.sqlite_ast.specs.declared.Rows.{Rows}
use Rattle.sqlite_ast.specs.declared.Statement.{Statement}
use Rattle.sqlite_ast.specs.declared.Statement.TheVariants as written
use Rattle.sqlite_ast.specs.declared.Upsert.{Upsert}
use Rattle.sqlite_syntax.specs.declared.statement.Parsed.{Parsed}
use Rattle.sqlite_value.specs.Order.{Row}
use Rattle.sqlite_schema.specs.declared.schema.Schema.{Schema}
use Rattle.sqlite_schema.specs.declared.schema.Table.{Table}
use Rattle.sqlite_schema.specs.declared.command.Command.{Command}
use Rattle.sqlite_schema.specs.declared.command.Command.TheVariants.{InsertOr}
use Rattle.sqlite_schema.specs.declared.command.Conflict.{Conflict}
use Rattle.sqlite_schema.specs.declared.command.Source.{Source}
use Rattle.sqlite_schema.specs.declared.command.Returning.{Returning}
use Rattle.sqlite_resolve.specs.declared.compiled.Compiled.{Compiled}
use Rattle.sqlite_resolve.specs.Lowering.{Checked, and_then}
use Rattle.sqlite_resolve.specs.Body.{table_at}
use Rattle.sqlite_resolve.specs.Given.{upserts}
use Rattle.sqlite_resolve.specs.Compile.{first, meaning, command, returning, insert_or, target, new_rows}
use Rattle.sqlite_resolve.specs.Scope.{Name}
use Rattle.sqlite_tied.specs.Compute.{everything}
use Rattle.sqlite.specs.Clock.{timed}
use Rattle.sqlite.specs.Effect.{Database}
use Rattle.sqlite.specs.declared.run.Mode.{Mode}
use Rattle.sqlite.specs.Does.{Tally, AtPlace, OnRows}
use Rattle.sqlite.specs.Rows.{Part, Task}
use Rattle.sqlite_trees.specs.Tree.{Trees}
use Rattle.sqlite.specs.Listing.{understood}
use Rattle.sqlite.specs.State.{State, Runs, RunsCommand, shows_rows, mode_of, ExecutesIn, Executes}
use Rattle.keeper_sql.specs.Schema.{replace_meta}
use Rattle.keeper_sql.proofs.AnySchema.{Means, understood_means}
use Rattle.keeper_sql.proofs.Casts.{same_value, went}

-- the statement is INSERT OR REPLACE
abbrev IsReplace : Statement → Type 0
IsReplace (written.Insert conflict.Replace name columns rows clauses shown) = Unit {0}
IsReplace _ = ⊥

-- the command is such an insert
abbrev IsInsert : Command → Type 0
IsInsert (InsertOr at how from clauses) = Unit {0}
IsInsert _ = ⊥

abbrev MeansInsert : Command × Option Returning → Type 0
MeansInsert found = IsInsert found.0

ok_then : {A : Type 0} (r : Checked A) (f : A → Checked Command) → ((x : A) → IfOk (f x) IsInsert) → IfOk (and_then r f) IsInsert
ok_then (Ok x) f h = h x
ok_then (Err e) f h = tt

inserts_or : (schema : Schema) (base : ℕ) (way : Conflict) (name : Name) (columns : List Name) (rows : Rows) (clauses : List Upsert)
    → IfOk (insert_or schema base way name columns rows clauses) IsInsert
unfolding insert_or
inserts_or schema base way name columns rows clauses =
    let last =
    λ (at : ℕ) (table : Table) (s : Source). and_then (upserts schema at table base clauses) (λ found. Ok (InsertOr at way s found)) in
    let given = λ (at : ℕ) (table : Table). and_then (new_rows schema table base columns rows) (last at table) in
    let on = λ (at : ℕ). and_then (table_at schema at) (given at) in
    ok_then (target schema name) on (λ at.
    ok_then (table_at schema at) (given at) (λ table.
    ok_then (new_rows schema table base columns rows) (last at table) (λ s.
    ok_then (upserts schema at table base clauses) (λ found. Ok (InsertOr at way s found)) (λ found. tt))))

commands_insert : (schema : Schema) (formats : List Name) (base : ℕ) (s : Statement) → IsReplace s
    → IfOk (command schema formats base s) IsInsert
unfolding command
commands_insert schema formats base (written.Insert conflict.Replace name columns rows clauses shown) is =
    inserts_or schema base _ name columns rows clauses
commands_insert schema formats base _ is = absurd is

both : (shown : Checked (Option Returning)) (c : Checked Command) (found : Command × Option Returning) → IfOk c IsInsert
    → and_then shown (λ s. and_then c (λ x. Ok (x, s))) ≡ Ok found
    → MeansInsert found
both (Ok s) (Ok x) found is h = let e : ◌≡◌ {A = Command × Option Returning} (x, s) found = cc in subst MeansInsert e is
both (Ok s) (Err e) found is h = absurd (let x = h in cc)
both (Err e) c found is h = absurd (let x = h in cc)

means_insert : (p : Parsed) → IsReplace p.statement → Means MeansInsert p
unfolding meaning
means_insert p is schema base found h = both (returning schema base p.statement) (command schema p.formats base p.statement) found
    (commands_insert schema p.formats base p.statement is) h

is_replace : IfOk (first replace_meta) (λ p. IsReplace p.statement)
unfolding everything
is_replace = tt

always_inserts : (schema : Schema) (c : Compiled) → understood schema replace_meta ≡ Ok c → IsInsert c.command
always_inserts schema c h =
    understood_means MeansInsert schema replace_meta c (IfOk-weaker (first replace_meta) _ _ means_insert is_replace) h

at_place : (o : Option Table) (P : Table → Part (Tally × Database)) (out : Tally × Database) (schema : Schema)
    → ((table : Table) → P table (Ok out) → out.1.schema ≡ schema)
    → AtPlace P o (Ok out) → out.1.schema ≡ schema
at_place None P out schema so h = absurd (let e = h in cc)
at_place (Some table) P out schema so h = so table h

abbrev task_on : State → Row → Table → Task
task_on old params table =
    record { limit = old.step_limit; keys = (mode_of old).keys; schema = old.now.schema; table = table; params = params }

rows_keep : (task : Task) (mode : Mode) (returning : Option Returning) (k : Command) (db : Trees) (out : Tally × Database)
    → OnRows task mode returning k db (Ok out) → out.1.schema ≡ task.schema
rows_keep task mode returning k db out done =
    let put = went done in
    let tested = went put.2 in
    let shown = went tested.2 in
    ap (λ (p : Tally × Database). p.1.schema) (same_value shown.2)

insert_keeps : (old new : State) (returning : Option Returning) (k : Command) (text : List ℕ) (params : Row) (count : ℕ) → IsInsert k
    → Runs old new returning k text params count
    → new.now.schema ≡ old.now.schema
insert_keeps old new returning (InsertOr at how from clauses) text params count is h =
    at_place (slice_get old.now.schema.tables at) _ (h.tally, new.now) old.now.schema
    (λ table done. rows_keep (task_on old params table) (mode_of old) returning (InsertOr at how from clauses)
    old.now.trees (h.tally, new.now) done) h.changed
insert_keeps old new returning _ text params count is h = absurd is

pub keeps_schema : (params : Row) (old new : State) (count : ℕ) → Executes replace_meta params old new (Ok count)
    → new.now.schema ≡ old.now.schema
unfolding ExecutesIn
keeps_schema params old new count h =
    let ran : RunsCommand old new replace_meta h.0 (timed params h.0.formats h.1.now) (Ok count) =
    elim (cases_Bool (shows_rows false h.0)) [
      | inl shows ↦ absurd (let e = (rw shows at h.2).0 in cc)
      | inr runs ↦ rw runs at h.2
    ] in
    insert_keeps old new h.0.returning h.0.command _ _ count (always_inserts old.now.schema h.0 h.1.is) ran
