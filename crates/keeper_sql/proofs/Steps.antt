-- How the steps of a transaction follow one another.
use Rattle.std.proofs.Common.{◌≡◌, ℕ, List, [], ◌∷◌, ◌++◌, Bool, true, false, Ok, refl, sym, ap, ◌∙◌, ◌==◌, if◌then◌else◌}
use Rattle.sqlite_value.specs.Order.{Row}
use Rattle.sqlite_trees.specs.Tree.{put_row}
use Rattle.sqlite.specs.Effect.{Database}
use Rattle.sqlite.specs.State.{State, Executes, ExecutesInside}
use Rattle.keeper_sql.specs.Schema.{store_schema}
use Rattle.keeper_sql.specs.RowsAsValues.{only}
use Rattle.keeper_sql.specs.Store.{put_all, Puts, RowsWritten, Undone}

pub went_by : (rows : ℕ → List Row) (old new : State) (sql : List ℕ) (params : Row) (count : ℕ)
    → ExecutesInside 0 sql params old new (Ok count)
    → (old.now.schema ≡ store_schema → Executes sql params old new (Ok count) → Puts rows old.now new.now) → RowsWritten rows old new
went_by rows old new sql params count h puts =
    record {
      was_open = λ _. h.1.was_open;
      is_open = λ _. h.1.is_open;
      mode = h.1.mode;
      committed = h.1.committed_is;
      puts = λ has. puts has h.0;
    }

pub put_all_both : (xs ys tree : List Row) → put_all (xs ++ ys) tree ≡ put_all ys (put_all xs tree)
put_all_both [] ys tree = refl
put_all_both (x ∷ xs) ys tree = put_all_both xs ys (put_row x tree)

one_tree : (a b both : List Row) (old mid new : List Row) → both ≡ a ++ b → mid ≡ put_all a old → new ≡ put_all b mid
    → new ≡ put_all both old
one_tree a b both old mid new is first second = second ∙ ap (put_all b) first ∙ sym (put_all_both a b old)
    ∙ ap (λ rows. put_all rows old) (sym is)

pub puts_then : (a b both : ℕ → List Row) (old mid new : Database) → ((t : ℕ) → both t ≡ a t ++ b t) → Puts a old mid → Puts b mid new
    → Puts both old new
puts_then a b both old mid new is p q = record {
  sound = λ was. q.sound (p.sound was);
  schema = q.schema;
  meta = one_tree (a 0) (b 0) (both 0) _ _ _ (is 0) p.meta q.meta;
  docs = one_tree (a 1) (b 1) (both 1) _ _ _ (is 1) p.docs q.docs;
  notes = one_tree (a 2) (b 2) (both 2) _ _ _ (is 2) p.notes q.notes;
  queries = one_tree (a 3) (b 3) (both 3) _ _ _ (is 3) p.queries q.queries;
  runs = one_tree (a 4) (b 4) (both 4) _ _ _ (is 4) p.runs q.runs;
  picks = one_tree (a 5) (b 5) (both 5) _ _ _ (is 5) p.picks q.picks;
  filters = one_tree (a 6) (b 6) (both 6) _ _ _ (is 6) p.filters q.filters;
}

pub went_then : (a b both : ℕ → List Row) (old mid new : State) → ((t : ℕ) → both t ≡ a t ++ b t) → RowsWritten a old mid
    → RowsWritten b mid new → RowsWritten both old new
went_then a b both old mid new is p q = record {
  was_open = λ now. p.was_open (q.was_open now);
  is_open = λ was. q.is_open (p.is_open was);
  mode = q.mode;
  committed = q.committed ∙ p.committed;
  puts = λ has. puts_then a b both old.now mid.now new.now is (p.puts has) (q.puts (p.puts has).schema);
}

pub went_undone : (a : ℕ → List Row) (old mid new : State) → RowsWritten a old mid → Undone mid new → Undone old new
went_undone a old mid new p q = record { was_open = λ now. p.was_open (q.was_open now); committed = λ now. q.committed now ∙ p.committed }

either : (b : Bool) (xs ys zs : List Row) → zs ≡ xs ++ ys → (if b then zs else []) ≡ (if b then xs else []) ++ (if b then ys else [])
either true xs ys zs is = is
either false xs ys zs is = refl

pub only_both : (k : ℕ) (xs ys zs : List Row) → zs ≡ xs ++ ys → (t : ℕ) → only k zs t ≡ only k xs t ++ only k ys t
only_both k xs ys zs is t = either (t == k) xs ys zs is

none : (b : Bool) → ◌≡◌ {A = List Row} (if b then [] else []) []
none true = refl
none false = refl

pub only_none : (k : ℕ) (t : ℕ) → only k [] t ≡ []
only_none k t = none (t == k)

pub puts_none : (rows : ℕ → List Row) (db : Database) → ((t : ℕ) → rows t ≡ []) → db.schema ≡ store_schema → Puts rows db db
puts_none rows db none has =
    let same : (t : ℕ) → db.trees t ≡ put_all (rows t) (db.trees t) = λ t. ap (λ rows. put_all rows (db.trees t)) (sym (none t)) in
    record {
      sound = λ was. was;
      schema = has;
      meta = same 0;
      docs = same 1;
      notes = same 2;
      queries = same 3;
      runs = same 4;
      picks = same 5;
      filters = same 6;
    }

pub went_none : (rows : ℕ → List Row) (s : State) → ((t : ℕ) → rows t ≡ []) → s.in_transaction ≡ true → RowsWritten rows s s
went_none rows s none inside =
    record { was_open = λ now. now; is_open = λ was. was; mode = inside; committed = refl; puts = λ has. puts_none rows s.now none has }
