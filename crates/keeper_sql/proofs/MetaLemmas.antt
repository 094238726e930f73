-- What the statement that writes the version does.
use Rattle.std.proofs.Common.{◌≡◌, ◌⊎◌, inl, inr, ℕ, ℤ, pos, List, [], ◌∷◌, true, Some, None, Option, Ok, refl, sym, ap, subst, ◌∙◌, arith}
use Rattle.sqlite_value.specs.declared.value.Value.TheVariants.{Null, Int}
use Rattle.sqlite_value.specs.Order.{Row, value_cmp}
use Rattle.sqlite_value.proofs.OrderLemmas.{value_cmp-Int}
use Rattle.sqlite_sql.specs.Ops.{binary}
use Rattle.sqlite_sql.specs.Term.{lit}
use Rattle.sqlite_schema.specs.declared.schema.Keys.{Keys}
use Rattle.sqlite_schema.specs.declared.command.Command.TheVariants.{InsertOr}
use Rattle.sqlite_schema.specs.declared.command.Source.TheVariants.{Values}
use Rattle.sqlite_schema.specs.declared.command.Conflict.TheVariants.{Replace}
use Rattle.sqlite_rules.specs.Lists.{Has}
use Rattle.sqlite_rules.specs.declared.error.Refusal.{Refusal}
use Rattle.sqlite_rules.specs.declared.error.Rowids.TheVariants.{Chosen, Given}
use Rattle.sqlite_rules.specs.Edit.{edit_of, edited, with_rowid, without_all}
use Rattle.sqlite_rules.specs.Cast.{cast_row}
use Rattle.sqlite_rules.specs.Calls.{ids_of}
use Rattle.sqlite_rules.specs.Keys.{conflicts, AreConflicts}
use Rattle.sqlite_trees.specs.Tree.{Trees, rowid, put_row, without_rowid}
use Rattle.sqlite.specs.Does.{Tally, Does}
use Rattle.sqlite.specs.Rows.{Written, Task, InsertsOr, TriesEach, Tries, Judged, Clears, Puts, nothing, mended, count_of}
use Rattle.sqlite.specs.Effect.{Database, IsDatabase}
use Rattle.sqlite.specs.Listing.{understood}
use Rattle.sqlite.specs.State.{State, mode_of, Executes}
use Rattle.sqlite.proofs.Callers.{IsPlain, command_of, statement_of, runs_as, one_step}
use Rattle.sqlite_tied.specs.Compute.{everything}
use Rattle.keeper_sql.specs.Schema.{meta_at, store_schema, replace_meta}
use Rattle.keeper_sql.specs.Store.{IsMeta, meta_row, WritesVersion, IsAtVersion}
use Rattle.sqlite_rules.proofs.TableLemmas.{has_put}
use Rattle.keeper_sql.proofs.AnyInsert.{keeps_schema}
use Rattle.keeper_sql.proofs.Casts.{cast_int, cast_null, same_value, went}

meta_replaced : command_of (understood store_schema replace_meta)
    ≡ InsertOr 0 Replace (Values (lit (Int (pos 1)) ∷ lit Null ∷ lit (Int (pos 2)) ∷ []) 3) []
unfolding understood everything
meta_replaced = refl

meta_plain : IsPlain (understood store_schema replace_meta)
unfolding understood everything
meta_plain = (refl, refl)

abbrev source : Row
source = meta_row (pos 2)

abbrev task_of : Option ℕ → Keys → Task
task_of limit keys = record { limit = limit; keys = keys; schema = store_schema; table = meta_at 0; params = [] }

new_meta : (rows : List Row) → with_rowid Chosen rows (cast_row (meta_at 0) (mended Replace (meta_at 0) source)) ≡ source
new_meta rows = rw (cast_int (pos 1), cast_null, cast_int (pos 2)) refl

conflict_is : (version : ℤ) → conflicts None [] (meta_at 0) source (meta_row version) ≡ true
unfolding everything binary value_cmp lib.Ieee.is_nan lib.Ieee.lt
conflict_is version = refl

none_left : (ids : List ℤ) → without_all [] ids ≡ []
none_left [] = refl
none_left (id ∷ ids) = none_left ids

gone : (version : ℤ) → without_rowid (pos 1) (meta_row version ∷ []) ≡ []
gone version = rw (value_cmp-Int (pos 1) (pos 1)) refl

-- the other trees are as they were
abbrev SameTrees : Trees → Trees → Type 0
SameTrees old new = (new 1 ≡ old 1) × (new 2 ≡ old 2) × (new 3 ≡ old 3) × (new 4 ≡ old 4) × (new 5 ≡ old 5) × (new 6 ≡ old 6)

put_step : (limit : Option ℕ) (keys : Keys) (db : Trees) (one : Written) → Puts (task_of limit keys) source db (Ok one)
    → (one.trees 0 ≡ put_row source (db 0)) × SameTrees db one.trees
put_step limit keys db one h =
    let made = went h in
    let next = made.0 in
    let step = one_step store_schema keys db next (edit_of db (meta_at 0) [] Given 0 (source ∷ [])) refl made.1 in
    let edit : edited db (edit_of db (meta_at 0) [] Given 0 (source ∷ [])) ≡ put_row source (db 0) =
    rw (cast_int (pos 1), cast_null, cast_int (pos 2)) refl in
    let trees : one.trees ≡ next = ap (λ (w : Written). w.trees) (same_value made.2) in
    let at : (t : ℕ) → one.trees t ≡ next t = λ t. ap (λ (all : Trees). all t) trees in (
      at 0 ∙ step.rows ∙ edit,
      (
        at 1 ∙ step.tables.1.0 (omega arith),
        at 2 ∙ step.tables.1.1.0 (omega arith),
        at 3
            ∙ step.tables.1.1.1.0 (omega arith),
        at 4 ∙ step.tables.1.1.1.1.0 (omega arith),
        at 5 ∙ step.tables.1.1.1.1.1.0 (omega arith),
        at 6
            ∙ step.tables.1.1.1.1.1.1.0 (omega arith),
      ),
    )

then_same : (a b d : Trees) → SameTrees a b → SameTrees b d → SameTrees a d
then_same a b d p q = (q.0 ∙ p.0, q.1 ∙ p.1, q.2 ∙ p.2, q.3 ∙ p.3, q.4 ∙ p.4, q.5 ∙ p.5)

-- the version's row, where there was one or none
abbrev IsWritten : Trees → Trees → Type 0
IsWritten old new = (new 0 ≡ source ∷ []) × SameTrees old new

put_empty : (limit : Option ℕ) (keys : Keys) (db : Trees) (one : Written) → db 0 ≡ [] → Puts (task_of limit keys) source db (Ok one)
    → IsWritten db one.trees
put_empty limit keys db one none h = let all = put_step limit keys db one h in (all.0 ∙ ap (put_row source) none, all.1)

-- the old row goes, whatever else was found to conflict
cleared : (limit : Option ℕ) (keys : Keys) (db : Trees) (version : ℤ) (one : Written) (x : Row) (more : List Row)
    → db 0 ≡ meta_row version ∷ [] → x ≡ Int (pos 1) ∷ []
    → Clears (task_of limit keys) Replace source db (x ∷ more) (Ok one) → IsWritten db one.trees
cleared limit keys db version one x more row is h =
    let went_on = went h in
    let mid = went_on.0 in
    let edit = edit_of db (meta_at 0) (ids_of (x ∷ more)) Given 0 [] in
    let step = one_step store_schema keys db mid edit refl went_on.1 in
    let left : without_all (db 0) (ids_of (x ∷ more)) ≡ [] =
    rw (row, is) (ap (λ rows. without_all rows (ids_of more)) (gone version) ∙ none_left (ids_of more)) in
    let same : SameTrees db mid = (
      step.tables.1.0 (omega arith),
      step.tables.1.1.0 (omega arith),
      step.tables.1.1.1.0 (omega arith),
      step.tables.1.1.1.1.0 (omega arith),
      step.tables.1.1.1.1.1.0 (omega arith),
      step.tables.1.1.1.1.1.1.0 (omega arith),
    ) in
    let put = put_empty limit keys mid one (step.rows ∙ left) went_on.2 in
    (put.0, then_same db mid one.trees same put.1)

found_rows : (limit : Option ℕ) (keys : Keys) (db : Trees) (one : Written) (found : List Row) → IsMeta (db 0)
    → AreConflicts None [] (meta_at 0) (db 0) source found
    → Clears (task_of limit keys) Replace source db found (Ok one) → IsWritten db one.trees
found_rows limit keys db one [] (inl none) same h = put_empty limit keys db one none h
found_rows limit keys db one [] (inr (version, row)) same h =
    let here : Has (db 0) (meta_row version) = subst (λ rows. Has rows (meta_row version)) (sym row) (inl refl) in
    absurd (same.complete _ here (conflict_is version))
found_rows limit keys db one (x ∷ more) (inl none) same h =
    let met = same.sound x (inl refl) in
    absurd (subst (λ rows. Has rows met.0) none met.1)
found_rows limit keys db one (x ∷ more) (inr (version, row)) same h =
    let met = same.sound x (inl refl) in
    let only : (met.0 ≡ meta_row version) ⊎ ⊥ = subst (λ rows. Has rows met.0) row met.1 in
    let here : met.0 ≡ meta_row version = elim only [ inl e ↦ e | inr never ↦ absurd never ] in
    cleared limit keys db version one x more row (met.3 ∙ ap (λ (r : Row). rowid r ∷ []) here) h

judged : (limit : Option ℕ) (keys : Keys) (db : Trees) (one : Written) (verdict : Option Refusal) → IsMeta (db 0)
    → Judged (task_of limit keys) Replace [] source db verdict (Ok one) → IsWritten db one.trees
judged limit keys db one None meta h = found_rows limit keys db one h.0 meta h.1 h.2
judged limit keys db one (Some why) meta h = absurd cc

-- what was written is the row that was judged last
abbrev IsJudgedLast : Option ℕ → Keys → Trees → Written → Type 0
IsJudgedLast limit keys db w = (one : Written) × (verdict : Option Refusal)
    × Judged (task_of limit keys) Replace [] source db verdict (Ok one) × (w.trees ≡ one.trees)

judged_last : (limit : Option ℕ) (keys : Keys) (db : Trees) (w : Written)
    → InsertsOr (task_of limit keys) Replace [] (Values (lit (Int (pos 1)) ∷ lit Null ∷ lit (Int (pos 2)) ∷ []) 3) db (Ok w)
    → IsJudgedLast limit keys db w
judged_last limit keys db w h =
    let task = task_of limit keys in
    let given = went h in
    let counter = went given.2 in
    let tried = went counter.2 in
    let last = went tried.2 in
    let each = went (subst (λ rows. TriesEach task Replace [] rows (count_of counter.0) (nothing db) (Ok tried.0)) given.1.1 tried.1) in
    let one = each.0 in
    let done : tried.0.0.trees ≡ one.trees = ap (λ (p : Written × ℤ). p.0.trees) (same_value each.2) in
    let all : w.trees ≡ tried.0.0.trees = ap (λ (it : Written). it.trees) (same_value last.2) ∙ same_value last.1 in
    let tries : Tries task Replace [] source db (Ok one) = subst (λ new. Tries task Replace [] new db (Ok one)) (new_meta (db 0)) each.1 in
    elim tries [
      | inl refused ↦ absurd (let e = refused.1 in cc)
      | inr went_on ↦ (one, went_on.0, went_on.2, all ∙ done)
    ]

written : (limit : Option ℕ) (keys : Keys) (db : Trees) (w : Written) → IsMeta (db 0) → IsJudgedLast limit keys db w → IsWritten db w.trees
written limit keys db w meta last = subst (IsWritten db) (sym last.3) (judged limit keys db last.0 last.1 meta last.2)

-- ---- whatever the table held, it has the row then

-- the row was put there
abbrev IsPut : Trees → Type 0
IsPut db = (rows : List Row) × (db 0 ≡ put_row source rows)

put_anyhow : (limit : Option ℕ) (keys : Keys) (db : Trees) (one : Written) (found : List Row)
    → Clears (task_of limit keys) Replace source db found (Ok one) → IsPut one.trees
put_anyhow limit keys db one [] h = (db 0, (put_step limit keys db one h).0)
put_anyhow limit keys db one (x ∷ more) h = let on = went h in (on.0 0, (put_step limit keys on.0 one on.2).0)

judged_anyhow : (limit : Option ℕ) (keys : Keys) (db : Trees) (one : Written) (verdict : Option Refusal)
    → Judged (task_of limit keys) Replace [] source db verdict (Ok one) → IsPut one.trees
judged_anyhow limit keys db one None h = put_anyhow limit keys db one h.0 h.2
judged_anyhow limit keys db one (Some why) h = absurd cc

put_meta : (rows : List Row) → Has rows source → IsMeta rows → rows ≡ source ∷ []
put_meta rows has (inl none) = absurd (subst (λ r. Has r source) none has)
put_meta rows has (inr (version, row)) =
    let only : (source ≡ meta_row version) ⊎ ⊥ = subst (λ r. Has r source) row has in
    elim only [ inl e ↦ row ∙ ap (λ (r : Row). r ∷ []) (sym e) | inr never ↦ absurd never ]

-- ---- the statement

-- it wrote such a row, and nothing else
pub record Wrote (old new : State) : Type 0 where
  pub sound : IsDatabase new.now
  pub rows : Written
  pub last : IsJudgedLast old.step_limit (mode_of old).keys old.now.trees rows
  pub now : new.now ≡ record { schema = store_schema; trees = rows.trees }

wrote : (old new : State) (count : ℕ) → old.now.schema ≡ store_schema → Executes replace_meta [] old new (Ok count) → Wrote old new
wrote old new count has h =
    let command = InsertOr 0 Replace (Values (lit (Int (pos 1)) ∷ lit Null ∷ lit (Int (pos 2)) ∷ []) 3) [] in
    let w = runs_as replace_meta [] old new store_schema has command meta_replaced meta_plain count h in
    let text = statement_of replace_meta (understood store_schema replace_meta) in
    let done =
    went (subst (λ s. Does old.step_limit (mode_of old) [] (record old.now { schema = s }) text None command (Ok (w.tally, new.now)))
    has w.changed) in
    record {
      sound = w.sound;
      rows = done.0;
      last = judged_last old.step_limit (mode_of old).keys old.now.trees done.0 done.1;
      now = ap (λ (p : Tally × Database). p.1) (same_value (went (went done.2).2).2);
    }

pub writes_version : (old new : State) (count : ℕ) → old.now.schema ≡ store_schema → IsMeta (old.now.trees 0)
    → Executes replace_meta [] old new (Ok count) → WritesVersion (pos 2) old.now new.now
writes_version old new count has meta h =
    let w = wrote old new count has h in
    let put = written old.step_limit (mode_of old).keys old.now.trees w.rows meta w.last in
    let at : (t : ℕ) → new.now.trees t ≡ w.rows.trees t = λ t. ap (λ (d : Database). d.trees t) w.now in
    record {
      sound = λ _. w.sound;
      schema = ap (λ (d : Database). d.schema) w.now;
      meta = at 0 ∙ put.0;
      docs = at 1 ∙ put.1.0;
      notes = at 2 ∙ put.1.1;
      queries = at 3 ∙ put.1.2;
      runs = at 4 ∙ put.1.3;
      picks = at 5 ∙ put.1.4;
      filters = at 6 ∙ put.1.5;
    }

-- a store that has its tables and one row at most for its version is of version 2 then
pub at_version : (old new : State) (count : ℕ) → Executes replace_meta [] old new (Ok count) → IsAtVersion new.now (pos 2)
at_version old new count h has meta =
    let w = wrote old new count (sym (keeps_schema [] old new count h) ∙ has) h in
    let put = judged_anyhow old.step_limit (mode_of old).keys old.now.trees w.last.0 w.last.1 w.last.2 in
    let row : new.now.trees 0 ≡ put_row source put.0 = ap (λ (d : Database). d.trees 0) w.now ∙ ap (λ (t : Trees). t 0) w.last.3 ∙ put.1 in
    put_meta (new.now.trees 0) (subst (λ rows. Has rows source) (sym row) (has_put source put.0)) meta
