-- How the version of a store is settled.
use Rattle.std.proofs.Common.{◌≡◌, inl, inr, ℕ, ℤ, pos, List, [], ◌∷◌, Option, Some, None, true, refl, sym, ap, subst, ◌∙◌}
use Rattle.sqlite_value.specs.declared.value.Value.TheVariants.{Null, Int}
use Rattle.sqlite_value.specs.Order.{Row}
use Rattle.sqlite.specs.Effect.{Database, IsDatabase}
use Rattle.sqlite.specs.State.{State, IsUnchanged}
use Rattle.keeper_sql.specs.Schema.{store_schema}
use Rattle.keeper_sql.specs.RowsAsValues.{version_in}
use Rattle.keeper_sql.specs.Store.{IsMeta, meta_row, Raises, Settles, AreKeyed, Undone, IsAtVersion}

pub meta_keyed : (rows : List Row) → IsMeta rows → AreKeyed rows
meta_keyed rows (inl none) = ([], none, tt)
meta_keyed rows (inr (version, row)) = ((pos 1, Null ∷ Int version ∷ []) ∷ [], row, (tt, tt))

row_of : (rows : List Row) (v : ℤ) → IsMeta rows → Some v ≡ version_in rows → rows ≡ meta_row v ∷ []
row_of rows v (inl none) is = absurd (let e = is ∙ ap version_in none in cc)
row_of rows v (inr (w, row)) is =
    let same : Some v ≡ Some w = is ∙ ap version_in row in
    let e : w ≡ v = cc in
    row ∙ ap (λ x. meta_row x ∷ []) e

pub settle_same : (v : ℤ) (old new : State) → old.in_transaction ≡ true → old.now.schema ≡ store_schema → IsMeta (old.now.trees 0)
    → IsUnchanged old new → Some v ≡ version_in (old.now.trees 0) → Settles v old new
settle_same v old new inside has meta same read =
    let row = row_of (old.now.trees 0) v meta read in
    let now = same.0.now_is in
    let at : (t : ℕ) → new.now.trees t ≡ old.now.trees t = λ t. ap (λ (d : Database). d.trees t) now in
    record {
      was_open = λ _. same.0.was_open;
      is_open = λ _. same.0.is_open;
      mode = same.0.mode ∙ inside;
      committed = same.0.committed_is;
      writes = record {
        sound = λ was. subst IsDatabase (sym now) was;
        schema = ap (λ (d : Database). d.schema) now ∙ has;
        meta = at 0
            ∙ row;
        docs = at 1;
        notes = at 2;
        queries = at 3;
        runs = at 4;
        picks = at 5;
        filters = at 6;
      };
      was = λ w is. let e : Some v ≡ Some w = read ∙ ap version_in is in let same' : w ≡ v = cc in inl same';
      fresh = λ none. absurd (let e : ◌≡◌ {A = Option ℤ} (Some v) None = read ∙ ap version_in none in cc);
    }

pub settle_raised : (version : Option ℤ) (old mid new : State) → old.now.schema ≡ store_schema → IsMeta (old.now.trees 0)
    → IsUnchanged old mid → version ≡ version_in (old.now.trees 0) → ((v : ℤ) → version ≡ Some v → v ≡ pos 1) → Raises mid new
    → Settles (pos 2) old new
settle_raised version old mid new has meta same read one raised =
    let now = same.0.now_is in
    let at : (t : ℕ) → mid.now.trees t ≡ old.now.trees t = λ t. ap (λ (d : Database). d.trees t) now in
    let wrote = raised.writes (ap (λ (d : Database). d.schema) now ∙ has) (subst IsMeta (sym (at 0)) meta) in
    record {
      was_open = λ _. same.0.was_open;
      is_open = λ _. raised.is_open same.0.is_open;
      mode = raised.mode;
      committed = raised.committed ∙ same.0.committed_is;
      writes = record {
        sound = λ was. wrote.sound (subst IsDatabase (sym now) was);
        schema = wrote.schema;
        meta = wrote.meta;
        docs = wrote.docs ∙ at 1;
        notes = wrote.notes ∙ at 2;
        queries = wrote.queries ∙ at 3;
        runs = wrote.runs ∙ at 4;
        picks = wrote.picks ∙ at 5;
        filters = wrote.filters ∙ at 6;
      };
      was = λ w is. inr (one w (read ∙ ap version_in is), refl);
      fresh = λ none. refl;
    }

-- the version that was read, if nothing was changed
pub read_at : (v : ℤ) (old new : State) → IsUnchanged old new
    → (old.now.schema ≡ store_schema → AreKeyed (old.now.trees 0) → Some v ≡ version_in (old.now.trees 0)) → IsAtVersion new.now v
read_at v old new same read =
    subst (λ (d : Database). IsAtVersion d v) (sym same.0.now_is) (λ has meta.
    row_of (old.now.trees 0) v meta (read has (meta_keyed (old.now.trees 0) meta)))

pub undone_after : (old mid new : State) → IsUnchanged old mid → Undone mid new → Undone old new
undone_after old mid new same h = record { was_open = λ _. same.0.was_open; committed = λ now. h.committed now ∙ same.0.committed_is }
