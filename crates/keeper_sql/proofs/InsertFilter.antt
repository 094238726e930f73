-- What the statement that inserts a row of filters does.
use Rattle.std.proofs.Common.{◌≡◌, ℕ, ℤ, List, [], ◌∷◌, Ok, None, refl, ap, subst, ◌∙◌, arith}
use Rattle.sqlite_value.specs.declared.value.Value.TheVariants.{Null, Int, Blob}
use Rattle.sqlite_value.specs.Order.{Row}
use Rattle.sqlite_schema.specs.declared.command.Command.TheVariants.{Insert}
use Rattle.sqlite_schema.specs.declared.command.Source.TheVariants.{Values}
use Rattle.sqlite_rules.specs.declared.error.Rowids.TheVariants.{Chosen}
use Rattle.sqlite_rules.specs.Edit.{edit_of, edited}
use Rattle.sqlite_trees.specs.Tree.{Trees, put_row}
use Rattle.sqlite.specs.Does.{Tally, Does}
use Rattle.sqlite.specs.Rows.{Written}
use Rattle.sqlite.specs.Effect.{Database}
use Rattle.sqlite.specs.Listing.{understood}
use Rattle.sqlite.specs.State.{State, mode_of, Executes}
use Rattle.sqlite.proofs.Callers.{statement_of, runs_as, one_step}
use Rattle.keeper_sql.specs.Schema.{filters_at, store_schema, insert_filter}
use Rattle.keeper_sql.specs.Store.{only, Puts}
use Rattle.keeper_sql.proofs.Casts.{cast_int, cast_null, same_value, went}
use Rattle.keeper_sql.proofs.InsertTexts.{filter_terms, filter_inserted, filter_plain}

pub puts_filter : (old new : State) (x0 : ℤ) (x1 : List ℕ) (x2 : List ℕ) (x3 : ℤ) (count : ℕ) → old.now.schema ≡ store_schema
    → Executes insert_filter (Int x0 ∷ Blob x1 ∷ Blob x2 ∷ Int x3 ∷ []) old new (Ok count)
    → Puts (only 6 ((Int x0 ∷ Null ∷ Blob x1 ∷ Blob x2 ∷ Int x3 ∷ []) ∷ [])) old.now new.now
puts_filter old new x0 x1 x2 x3 count has h =
    let params : Row = Int x0 ∷ Blob x1 ∷ Blob x2 ∷ Int x3 ∷ [] in
    let db = old.now.trees in
    let command = Insert 6 (Values filter_terms 5) in
    let w = runs_as insert_filter params old new store_schema has command filter_inserted filter_plain count h in
    let text = statement_of insert_filter (understood store_schema insert_filter) in
    let done = went (subst (λ s. Does old.step_limit (mode_of old) params (record old.now { schema = s }) text None command
    (Ok (w.tally, new.now))) has w.changed) in
    let now = ap (λ (p : Tally × Database). p.1) (same_value (went (went done.2).2).2) in
    let given = went done.1 in
    let written = went (went given.2).2 in
    let counted = went written.2 in
    let trees : done.0.trees ≡ written.0 = ap (λ (it : Written). it.trees) (same_value counted.2) ∙ same_value counted.1 in
    let step = one_step store_schema _ db written.0 (edit_of db (filters_at 6) [] Chosen 0 given.0) refl written.1 in
    let edit : edited db (edit_of db (filters_at 6) [] Chosen 0 given.0)
    ≡ put_row (Int x0 ∷ Null ∷ Blob x1 ∷ Blob x2 ∷ Int x3 ∷ []) (db 6) =
    ap (λ all. edited db (edit_of db (filters_at 6) [] Chosen 0 all)) given.1.1 ∙ rw (cast_int x0, cast_null, cast_int x3) refl in
    let tree : (t : ℕ) → new.now.trees t ≡ written.0 t = λ t. ap (λ (d : Database). d.trees t) now ∙ ap (λ (all : Trees). all t) trees in
    record {
      sound = λ _. w.sound;
      schema = ap (λ (d : Database). d.schema) now;
      meta = tree 0 ∙ step.tables.0 (omega arith);
      docs = tree 1 ∙ step.tables.1.0 (omega arith);
      notes = tree 2 ∙ step.tables.1.1.0 (omega arith);
      queries = tree 3 ∙ step.tables.1.1.1.0 (omega arith);
      runs = tree 4 ∙ step.tables.1.1.1.1.0 (omega arith);
      picks = tree 5 ∙ step.tables.1.1.1.1.1.0 (omega arith);
      filters = tree 6 ∙ step.rows ∙ edit;
    }
