-- What the statements that make the tables do.
use Rattle.std.proofs.Common.{◌≡◌, ◌+◌, ◌<◌, ℕ, zero, suc, List, [], ◌∷◌, length, take, Ok, None, false, refl, sym, ap, subst, ◌∙◌, arith}
use Rattle.sqlite_trees.specs.Tree.{Trees}
use Rattle.sqlite_schema.specs.declared.schema.Table.{Table}
use Rattle.sqlite_schema.specs.declared.schema.Schema.{Schema}
use Rattle.sqlite_schema.specs.declared.command.Command.TheVariants.{CreateTable, Nothing}
use Rattle.sqlite_resolve.specs.Compile.{table_defined_by}
use Rattle.sqlite_catalog.specs.Change.{created, next_tree, KeepsRows}
use Rattle.sqlite.specs.Does.{Tally, Does, lacks_sequence}
use Rattle.sqlite.specs.Effect.{Database}
use Rattle.sqlite.specs.Listing.{understood}
use Rattle.sqlite.specs.State.{State, mode_of, Executes, ExecutesInside}
use Rattle.sqlite.proofs.Callers.{IsPlain, command_of, statement_of, runs_as}
use Rattle.keeper_sql.specs.Schema.{store_schema, store_tables, schema_prefix, create_text}
use Rattle.keeper_sql.specs.Store.{AreEmpty, IsMade, Makes}
use Rattle.keeper_sql.proofs.Casts.{same_value, went}
use Rattle.keeper_sql.proofs.CreateTexts.{makes_next, does_nothing}

pub makes_then : (a : Schema) (i : ℕ) (b : Schema) (j : ℕ) (d : Schema) (k : ℕ) (old mid new : State) → Makes a i b j old mid
    → Makes b j d k mid new → Makes a i d k old new
makes_then a i b j d k old mid new p q = record {
  was_open = λ now. p.was_open (q.was_open now);
  is_open = λ was. q.is_open (p.is_open was);
  mode = q.mode;
  committed = q.committed ∙ p.committed;
  made = λ was. q.made (p.made was);
  kept = λ has. q.kept (ap (λ (d : Database). d.schema) (p.kept has) ∙ has) ∙ p.kept has;
}

-- a table is made, whatever the text
creates : (text : List ℕ) (table : Table) (before : Schema) → command_of (understood before text) ≡ CreateTable
    → statement_of text (understood before text) ≡ text → table_defined_by text ≡ Ok table
    → IsPlain (understood before text) → lacks_sequence (created before table) ≡ false → (old new : State) (count : ℕ)
    → old.now.schema ≡ before → Executes text [] old new (Ok count)
    → (new.now.schema ≡ created before table) × (new.now.trees (next_tree before) ≡ [])
    × KeepsRows before.tables old.now.trees new.now.trees
creates text table before is whole defined plain counted old new count has h =
    let w = runs_as text [] old new before has CreateTable is plain count h in
    let all = went (subst (λ t. Does old.step_limit (mode_of old) [] old.now t None CreateTable (Ok (w.tally, new.now))) whole w.changed) in
    let first = went all.1 in
    let made = first.1 in
    let both : Ok made.table ≡ Ok table = sym made.defined ∙ defined in
    let same : made.table ≡ table = cc in
    let schema : first.0.schema ≡ created before table = made.is ∙ ap (λ s. created s made.table) has ∙ ap (created before) same in
    let plain : lacks_sequence first.0.schema ≡ false = ap lacks_sequence schema ∙ counted in
    let now : new.now ≡ first.0 = ap (λ (p : Tally × Database). p.1) (same_value all.2) ∙ same_value (rw plain at first.2) in (
      ap (λ (d : Database). d.schema) now ∙ schema,
      ap (λ (d : Database). d.trees (next_tree before)) now ∙ subst (λ s. first.0.trees (next_tree s) ≡ []) has made.empty,
      subst (λ (s : Schema). KeepsRows s.tables old.now.trees new.now.trees) has
          (subst (λ (d : Database). KeepsRows old.now.schema.tables old.now.trees d.trees) (sym now) made.others),
    )

-- these tables are in the trees from this one on
abbrev AreFrom : ℕ → List Table → Type 0
AreFrom tree [] = Unit {0}
AreFrom tree (t ∷ tables) = (t.tree ≡ tree) × AreFrom (tree + 1) tables

-- the first of the tables are still empty, and so is the next one
one_more_empty : (k tree : ℕ) (tables : List Table) (old new : Trees) → AreFrom tree tables → k < length tables
    → KeepsRows (take k tables) old new → AreEmpty k tree old → (next : ℕ) → next ≡ tree + k → new next ≡ [] → AreEmpty (suc k) tree new
one_more_empty k tree [] old new from lt kept was next is empty = absurd (omega (arith, lt))
one_more_empty zero tree (t ∷ tables) old new from lt kept was next is empty =
    let here : next ≡ tree = omega (arith, is) in
    (subst (λ n. new n ≡ []) here empty, tt)
one_more_empty (suc k) tree (t ∷ tables) old new from lt kept was next is empty =
    let same : new tree ≡ old tree = subst (λ n. new n ≡ old n) from.0 kept.0 in
    let beyond : next ≡ (tree + 1) + k = omega (arith, is) in
    (same ∙ was.0, one_more_empty k (tree + 1) tables old new from.1 (omega (arith, lt)) kept.1 was.1 next beyond empty)

makes_one : (k : ℕ) → k < 7 → (old new : State) (count : ℕ) → IsMade (schema_prefix k) k old.now
    → Executes (create_text k) [] old new (Ok count) → IsMade (schema_prefix (suc k)) (suc k) new.now
makes_one k lt old new count was h =
    let by = makes_next k lt in
    let text = by.1 in
    let next = by.2 in
    let counted : lacks_sequence (created (schema_prefix k) by.0) ≡ false = ap lacks_sequence next.1 ∙ next.2 in
    let all = creates (create_text k) by.0 (schema_prefix k) text.0 text.1 text.2 text.3 counted old new count was.schema h in
    let from : AreFrom 0 store_tables = (refl, (refl, (refl, (refl, (refl, (refl, (refl, tt))))))) in
    let place : next_tree (schema_prefix k) ≡ 0 + k = omega (arith, next.0) in
    record {
      schema = all.0 ∙ next.1;
      empty = one_more_empty k 0 store_tables old.now.trees new.now.trees from lt all.2 was.empty _ place all.1;
    }

keeps_all : (k : ℕ) → k < 7 → (old new : State) (count : ℕ) → old.now.schema ≡ store_schema
    → Executes (create_text k) [] old new (Ok count) → new.now ≡ old.now
keeps_all k lt old new count has h =
    let none = does_nothing k lt in
    (runs_as (create_text k) [] old new store_schema has Nothing none.0 none.1 count h).0.0.now_is

pub makes_table : (k : ℕ) → k < 7 → (old new : State) (sql : List ℕ) (count : ℕ) → sql ≡ create_text k
    → ExecutesInside 0 sql [] old new (Ok count) → Makes (schema_prefix k) k (schema_prefix (k + 1)) (k + 1) old new
makes_table k lt old new sql count is ran =
    let h = subst (λ text. ExecutesInside 0 text [] old new (Ok count)) is ran in
    let made : Makes (schema_prefix k) k (schema_prefix (suc k)) (suc k) old new = record {
      was_open = λ _. h.1.was_open;
      is_open = λ _. h.1.is_open;
      mode = h.1.mode;
      committed = h.1.committed_is;
      made = λ was. makes_one k lt old new count was h.0;
      kept = λ has. keeps_all k lt old new count has h.0;
    } in
    let more : suc k ≡ k + 1 = omega arith in
    subst (λ n. Makes (schema_prefix k) k (schema_prefix n) n old new) more made
