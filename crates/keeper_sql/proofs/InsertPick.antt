-- What the statement that inserts a row of picks does.
use Rattle.std.proofs.Common.{◌≡◌, ℕ, ℤ, [], ◌∷◌, Ok, None, refl, ap, subst, ◌∙◌, arith}
use Rattle.sqlite_value.specs.declared.value.Value.TheVariants.{Null, Int}
use Rattle.sqlite_value.specs.Order.{Row}
use Rattle.sqlite_schema.specs.declared.command.Command.TheVariants.{Insert}
use Rattle.sqlite_schema.specs.declared.command.Source.TheVariants.{Values}
use Rattle.sqlite_rules.specs.declared.error.Rowids.TheVariants.{Chosen}
use Rattle.sqlite_rules.specs.Edit.{edit_of, edited}
use Rattle.sqlite_trees.specs.Tree.{Trees, put_row}
use Rattle.sqlite.specs.Does.{Tally, Does}
use Rattle.sqlite.specs.Rows.{Written}
use Rattle.sqlite.specs.Effect.{Database}
use Rattle.sqlite.specs.Listing.{understood}
use Rattle.sqlite.specs.State.{State, mode_of, Executes}
use Rattle.sqlite.proofs.Callers.{statement_of, runs_as, one_step}
use Rattle.keeper_sql.specs.Schema.{picks_at, store_schema, insert_pick}
use Rattle.keeper_sql.specs.Store.{only, Puts}
use Rattle.keeper_sql.proofs.Casts.{cast_int, cast_null, same_value, went}
use Rattle.keeper_sql.proofs.InsertTexts.{pick_terms, pick_inserted, pick_plain}

pub puts_pick : (old new : State) (x0 : ℤ) (x1 : ℤ) (x2 : ℤ) (x3 : ℤ) (x4 : ℤ) (count : ℕ) → old.now.schema ≡ store_schema
    → Executes insert_pick (Int x0 ∷ Int x1 ∷ Int x2 ∷ Int x3 ∷ Int x4 ∷ []) old new (Ok count)
    → Puts (only 5 ((Int x0 ∷ Null ∷ Int x1 ∷ Int x2 ∷ Int x3 ∷ Int x4 ∷ []) ∷ [])) old.now new.now
puts_pick old new x0 x1 x2 x3 x4 count has h =
    let params : Row = Int x0 ∷ Int x1 ∷ Int x2 ∷ Int x3 ∷ Int x4 ∷ [] in
    let db = old.now.trees in
    let command = Insert 5 (Values pick_terms 6) in
    let w = runs_as insert_pick params old new store_schema has command pick_inserted pick_plain count h in
    let text = statement_of insert_pick (understood store_schema insert_pick) in
    let done = went (subst (λ s. Does old.step_limit (mode_of old) params (record old.now { schema = s }) text None command
    (Ok (w.tally, new.now))) has w.changed) in
    let now = ap (λ (p : Tally × Database). p.1) (same_value (went (went done.2).2).2) in
    let given = went done.1 in
    let written = went (went given.2).2 in
    let counted = went written.2 in
    let trees : done.0.trees ≡ written.0 = ap (λ (it : Written). it.trees) (same_value counted.2) ∙ same_value counted.1 in
    let step = one_step store_schema _ db written.0 (edit_of db (picks_at 5) [] Chosen 0 given.0) refl written.1 in
    let edit : edited db (edit_of db (picks_at 5) [] Chosen 0 given.0) ≡ put_row (Int x0 ∷ Null ∷ Int x1 ∷ Int x2 ∷ Int x3 ∷ Int x4 ∷ [])
    (db 5) = ap (λ all. edited db (edit_of db (picks_at 5) [] Chosen 0 all)) given.1.1
    ∙ rw (cast_int x0, cast_null, cast_int x1, cast_int x2, cast_int x3, cast_int x4) refl in
    let tree : (t : ℕ) → new.now.trees t ≡ written.0 t = λ t. ap (λ (d : Database). d.trees t) now ∙ ap (λ (all : Trees). all t) trees in
    record {
      sound = λ _. w.sound;
      schema = ap (λ (d : Database). d.schema) now;
      meta = tree 0 ∙ step.tables.0 (omega arith);
      docs = tree 1 ∙ step.tables.1.0 (omega arith);
      notes = tree 2 ∙ step.tables.1.1.0 (omega arith);
      queries = tree 3 ∙ step.tables.1.1.1.0 (omega arith);
      runs = tree 4 ∙ step.tables.1.1.1.1.0 (omega arith);
      picks = tree 5 ∙ step.rows ∙ edit;
      filters = tree 6 ∙ step.tables.1.1.1.1.1.1.0 (omega arith);
    }
