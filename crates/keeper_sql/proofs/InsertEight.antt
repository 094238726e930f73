-- What the statement that inserts eight rows of picks does.
use Rattle.std.proofs.Common.{◌≡◌, ℕ, pos, List, [], ◌∷◌, Ok, None, refl, ap, subst, ◌∙◌, arith, map}
use Rattle.std.specs.List.{flat_map}
use Rattle.tap_rows.specs.declared.rows.Pick.{Pick}
use Rattle.sqlite_value.specs.Order.{Row}
use Rattle.sqlite_schema.specs.declared.command.Command.TheVariants.{Insert}
use Rattle.sqlite_schema.specs.declared.command.Source.TheVariants.{Values}
use Rattle.sqlite_rules.specs.declared.error.Rowids.TheVariants.{Chosen}
use Rattle.sqlite_rules.specs.Edit.{edit_of, edited}
use Rattle.sqlite_trees.specs.Tree.{Trees}
use Rattle.sqlite.specs.Does.{Tally, Does}
use Rattle.sqlite.specs.Rows.{Written}
use Rattle.sqlite.specs.Effect.{Database}
use Rattle.sqlite.specs.Listing.{understood}
use Rattle.sqlite.specs.State.{State, mode_of, Executes}
use Rattle.sqlite.proofs.Callers.{statement_of, runs_as, one_step}
use Rattle.keeper_sql.specs.RowsAsValues.{given_pick, as_kept}
use Rattle.keeper_sql.specs.Schema.{picks_at, store_schema, insert_eight}
use Rattle.keeper_sql.specs.Store.{only, put_all, Puts}
use Rattle.keeper_sql.proofs.Casts.{cast_int, cast_null, same_value, went}
use Rattle.keeper_sql.proofs.InsertTexts.{eight_terms, eight_inserted, eight_plain}

pub puts_eight : (old new : State) (a b c d e f g h : Pick) (count : ℕ) → old.now.schema ≡ store_schema
    → Executes insert_eight (flat_map given_pick (a ∷ b ∷ c ∷ d ∷ e ∷ f ∷ g ∷ h ∷ [])) old new (Ok count)
    → Puts (only 5 (map (λ p. as_kept (given_pick p)) (a ∷ b ∷ c ∷ d ∷ e ∷ f ∷ g ∷ h ∷ []))) old.now new.now
puts_eight old new a b c d e f g h count has ran =
    let picks : List Pick = a ∷ b ∷ c ∷ d ∷ e ∷ f ∷ g ∷ h ∷ [] in
    let params : Row = flat_map given_pick picks in
    let db = old.now.trees in
    let command = Insert 5 (Values eight_terms 6) in
    let w = runs_as insert_eight params old new store_schema has command eight_inserted eight_plain count ran in
    let text = statement_of insert_eight (understood store_schema insert_eight) in
    let done = went (subst (λ s. Does old.step_limit (mode_of old) params (record old.now { schema = s }) text None command
    (Ok (w.tally, new.now))) has w.changed) in
    let now = ap (λ (p : Tally × Database). p.1) (same_value (went (went done.2).2).2) in
    let given = went done.1 in
    let written = went (went given.2).2 in
    let counted = went written.2 in
    let trees : done.0.trees ≡ written.0 = ap (λ (it : Written). it.trees) (same_value counted.2) ∙ same_value counted.1 in
    let step = one_step store_schema _ db written.0 (edit_of db (picks_at 5) [] Chosen 0 given.0) refl written.1 in
    let edit : edited db (edit_of db (picks_at 5) [] Chosen 0 given.0) ≡ put_all (map (λ p. as_kept (given_pick p)) picks) (db 5) =
    ap (λ all. edited db (edit_of db (picks_at 5) [] Chosen 0 all)) given.1.1 ∙ rw (
      cast_int (pos a.num),
      cast_int (pos a.query.0),
      cast_int (pos a.run),
      cast_int (pos a.doc.0),
      cast_int a.first,
      cast_int (pos b.num),
      cast_int (pos b.query.0),
      cast_int (pos b.run),
      cast_int (pos b.doc.0),
      cast_int b.first,
      cast_int (pos c.num),
      cast_int (pos c.query.0),
      cast_int (pos c.run),
      cast_int (pos c.doc.0),
      cast_int c.first,
      cast_int (pos d.num),
      cast_int (pos d.query.0),
      cast_int (pos d.run),
      cast_int (pos d.doc.0),
      cast_int d.first,
      cast_int (pos e.num),
      cast_int (pos e.query.0),
      cast_int (pos e.run),
      cast_int (pos e.doc.0),
      cast_int e.first,
      cast_int (pos f.num),
      cast_int (pos f.query.0),
      cast_int (pos f.run),
      cast_int (pos f.doc.0),
      cast_int f.first,
      cast_int (pos g.num),
      cast_int (pos g.query.0),
      cast_int (pos g.run),
      cast_int (pos g.doc.0),
      cast_int g.first,
      cast_int (pos h.num),
      cast_int (pos h.query.0),
      cast_int (pos h.run),
      cast_int (pos h.doc.0),
      cast_int h.first,
      cast_null,
    ) refl in
    let tree : (t : ℕ) → new.now.trees t ≡ written.0 t = λ t. ap (λ (d : Database). d.trees t) now ∙ ap (λ (all : Trees). all t) trees in
    record {
      sound = λ _. w.sound;
      schema = ap (λ (d : Database). d.schema) now;
      meta = tree 0 ∙ step.tables.0 (omega arith);
      docs = tree 1 ∙ step.tables.1.0 (omega arith);
      notes = tree 2 ∙ step.tables.1.1.0 (omega arith);
      queries = tree 3 ∙ step.tables.1.1.1.0 (omega arith);
      runs = tree 4 ∙ step.tables.1.1.1.1.0 (omega arith);
      picks = tree 5 ∙ step.rows ∙ edit;
      filters = tree 6 ∙ step.tables.1.1.1.1.1.1.0 (omega arith);
    }
