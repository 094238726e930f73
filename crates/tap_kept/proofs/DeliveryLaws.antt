-- Runs and picks are added to their queries one after another.
use Rattle.std.proofs.Common.{◌≡◌, ◌∙◌, sym, ap, subst, refl, arith, ℕ, zero, suc, ◌+◌, ◌-◌, ◌≤◌, ◌<◌, Bool, true, false, List, [], ◌∷◌}
use Rattle.std.proofs.Common.{◌++◌, length, map, take, append_assoc, inl, inr}
use Rattle.std.specs.Prelude.{◌==◌, slice_index_or, slice_set}
use Rattle.std.specs.List.{list_any}
use Rattle.std.proofs.Math.Seq.{take-suc}
use Rattle.std.proofs.lemmas.List.{length-append, map-append}
use Rattle.std.proofs.lemmas.List.Elements.{filter-append}
use Rattle.std.proofs.lemmas.Bool.{eqb-true, eq-eqb, ne_eqb}
use Rattle.tap_rows.specs.declared.rows.QueryRow.{QueryRow}
use Rattle.tap_rows.specs.declared.rows.RunRow.{RunRow}
use Rattle.tap_rows.specs.declared.rows.Pick.{Pick}
use Rattle.tap_rows.specs.declared.results.Entry.{Entry}
use Rattle.tap_rows.specs.Results.{run_moments, last_or}
use Rattle.little_box.specs.Boxes.{is_in}
use Rattle.tap_rows.specs.Deliveries.{run_ordinal, picked, picks_of}
use Rattle.tap_rows.specs.Kept.{Each, In, HasRun, RunsFrom, QueriesFrom}
use Rattle.tap_rows.proofs.LaterLaws.{filter-none}
use Rattle.tap_rows.proofs.PlaceLaws.{ordinal-new, ordinal-stays, moments-new, moments-other}
use Rattle.tap_rows.proofs.RunLaws.{last-more}
use Rattle.tap_model.specs.Queries.{start_of}
use Rattle.tap_kept.specs.declared.cached_query.CachedQuery.{CachedQuery}
use Rattle.tap_kept.specs.Keeping.{cached_query, never_run, after_run}
use Rattle.tap_kept.specs.Starting.{rows_in, runs_alone, ordinal_in, with_entry, IsRowNumber}
use Rattle.tap_kept.proofs.PlaceLaws.{placed, placed-set, runs-few, same-cached}
use Rattle.tap_kept.proofs.NewLaws.{picked-in}
use Rattle.tap_rows.specs.WellFormed.{picks_same}

unequal : (a b : ℕ) → (a == b) ≡ false → a ≡ b → ⊥
unequal a b e = grind arith

-- the query of a number
record There (rows : List QueryRow) (num : ℕ) : Type 0 where
  pub q : QueryRow
  pub has : In q rows
  pub at : q.num.0 ≡ num

there : (k num : ℕ) (rows : List QueryRow) → QueriesFrom k rows → k ≤ num → num < k + length rows → There rows num
there k num [] from low high = absurd (omega (arith, low, high))
there k num (row ∷ rows) from low high =
    go (k == num) refl (λ above. there (suc k) num rows from.1 above (within k num (length rows) high)) where
      later : There rows num → There (row ∷ rows) num
      later rest = record { q = rest.q; has = inr rest.has; at = rest.at }

      above : (k num : ℕ) → k ≤ num → (k ≡ num → ⊥) → suc k ≤ num
      above k num low differs = omega (arith, low, differs)

      within : (k num n : ℕ) → num < k + suc n → num < suc k + n
      within k num n high = omega (arith, high)

      go : (b : Bool) → (k == num) ≡ b → (suc k ≤ num → There rows num) → There (row ∷ rows) num
      go true e rest = record { q = row; has = inl refl; at = from.0 ∙ eqb-true k num e }
      go false e rest = later (rest (above k num low (unequal k num e)))

one-there : (num : ℕ) (rows : List QueryRow) → QueriesFrom 1 rows → IsRowNumber num (length rows) → There rows num
one-there num rows from one = there 1 num rows from one.low (omega (arith, one.high))

-- the query of a number in memory
pub kept-there : (f : QueryRow → CachedQuery) (num : ℕ) (rows : List QueryRow) (q : QueryRow) (d : CachedQuery) → QueriesFrom 1 rows
    → In q rows → q.num.0 ≡ num → 1 ≤ num → slice_index_or (map f rows) (num - 1) d ≡ f q
kept-there f num rows q d from has at low = placed f 1 (num - 1) rows q d from has (omega (arith, at, low))

-- that many runs as there were before
pub runs-before : (rows : List QueryRow) (before : List RunRow) (num : ℕ) (queries : List CachedQuery) (d : CachedQuery)
    → QueriesFrom 1 rows → IsRowNumber num (length rows) → queries ≡ map (cached_query (runs_alone before [])) rows
    → (slice_index_or queries (num - 1) d).runs ≡ length (run_moments num before)
runs-before rows before num queries d from one is =
    let t = one-there num rows from one in
    ap (λ qs. (slice_index_or qs (num - 1) d).runs) is
    ∙ ap (λ kept. kept.runs) (kept-there (cached_query (runs_alone before [])) num rows t.q d from t.has t.at one.low)
    ∙ ap (λ n. length (run_moments n before)) t.at

pub few-before : (rows : List QueryRow) (before : List RunRow) (num i : ℕ) (queries : List CachedQuery) (d : CachedQuery)
    → QueriesFrom 1 rows → IsRowNumber num (length rows) → queries ≡ map (cached_query (runs_alone before [])) rows → length before ≡ i
    → (slice_index_or queries (num - 1) d).runs ≤ i
few-before rows before num i queries d from one is len =
    let few = runs-few num before in
    let same = runs-before rows before num queries d from one is in
    omega (arith, few, same, len)

abbrev entry-of : Pick → ℕ → Entry
entry-of pick run = record { doc = pick.doc; first = pick.first; run = run }

own-run : (before : List RunRow) (run : RunRow) (q : QueryRow) → run.query.0 ≡ q.num.0
    → cached_query (runs_alone (before ++ run ∷ []) []) q ≡ after_run run.moment [] (cached_query (runs_alone before []) q)
own-run before run q of =
    let moments = moments-new q.num.0 before run of in
    same-cached q (last_or (start_of q) (run_moments q.num.0 (before ++ run ∷ [])))
    run.moment (length (run_moments q.num.0 (before ++ run ∷ []))) (length (run_moments q.num.0 before) + 1) [] []
    (ap (last_or (start_of q)) moments ∙ last-more (start_of q) run.moment (run_moments q.num.0 before))
    (ap length moments ∙ length-append (run_moments q.num.0 before) (run.moment ∷ []))
    refl

other-run : (before : List RunRow) (run : RunRow) (other : QueryRow) → (run.query.0 ≡ other.num.0 → ⊥)
    → cached_query (runs_alone (before ++ run ∷ []) []) other ≡ cached_query (runs_alone before []) other
other-run before run other differs =
    let moments = moments-other other.num.0 before run differs in
    same-cached other (last_or (start_of other) (run_moments other.num.0 (before ++ run ∷ [])))
    (last_or (start_of other) (run_moments other.num.0 before)) (length (run_moments other.num.0 (before ++ run ∷ [])))
    (length (run_moments other.num.0 before)) [] [] (ap (last_or (start_of other)) moments) (ap length moments) refl

-- a run is added to its query
pub run-joins : (rows : List QueryRow) (before : List RunRow) (run : RunRow) (queries new : List CachedQuery) → QueriesFrom 1 rows
    → IsRowNumber run.query.0 (length rows) → queries ≡ map (cached_query (runs_alone before [])) rows
    → ((d : CachedQuery) → new ≡ slice_set queries (run.query.0 - 1) (after_run run.moment [] (slice_index_or queries (run.query.0 - 1) d)))
    → new ≡ map (cached_query (runs_alone (before ++ run ∷ []) [])) rows
run-joins rows before run queries new from one is set =
    let t = one-there run.query.0 rows from one in
    let f : QueryRow → CachedQuery = cached_query (runs_alone before []) in
    let g : QueryRow → CachedQuery = cached_query (runs_alone (before ++ run ∷ []) []) in
    let d : CachedQuery = f t.q in
    let kept : slice_index_or (map f rows) (run.query.0 - 1) d ≡ f t.q = kept-there f run.query.0 rows t.q d from t.has t.at one.low in
    let at : t.q.num.0 ≡ 1 + (run.query.0 - 1) = omega (arith, t.at, one.low) in
    set d
    ∙ ap (λ qs. slice_set qs (run.query.0 - 1) (after_run run.moment [] (slice_index_or qs (run.query.0 - 1) d))) is
    ∙ ap (λ k. slice_set (map f rows) (run.query.0 - 1) (after_run run.moment [] k)) kept
    ∙ ap (slice_set (map f rows) (run.query.0 - 1)) (sym (own-run before run t.q (sym t.at)))
    ∙ placed-set f g 1 (run.query.0 - 1) rows t.q from t.has at (λ other differs. other-run before run other (λ e. differs (t.at ∙ e)))

own-pick : (runs : List RunRow) (before : List Pick) (pick : Pick) (q : QueryRow) (run : ℕ) → pick.query.0 ≡ q.num.0
    → run ≡ run_ordinal pick.run pick.query.0 runs
    → cached_query (runs_alone runs (before ++ pick ∷ [])) q ≡ with_entry (entry-of pick run) (cached_query (runs_alone runs before) q)
own-pick runs before pick q run of is =
    let yes' = eq-eqb pick.query.0 q.num.0 of in
    let one : picks_of q.num.0 (pick ∷ []) ≡ pick ∷ [] = rw yes' refl in
    same-cached q (last_or (start_of q) (run_moments q.num.0 runs)) (last_or (start_of q) (run_moments q.num.0 runs))
    (length (run_moments q.num.0 runs)) (length (run_moments q.num.0 runs)) (map (picked runs) (picks_of q.num.0 (before ++ pick ∷ [])))
    (map (picked runs) (picks_of q.num.0 before) ++ entry-of pick run ∷ []) refl refl
    (ap (map (picked runs))
    (filter-append (λ pick. pick.query.0 == q.num.0) before (pick ∷ []) ∙ ap (λ more. picks_of q.num.0 before ++ more) one)
    ∙ map-append (picked runs) (picks_of q.num.0 before) (pick ∷ [])
    ∙ ap (λ n. map (picked runs) (picks_of q.num.0 before) ++ entry-of pick n ∷ []) (sym is))

other-pick : (runs : List RunRow) (before : List Pick) (pick : Pick) (other : QueryRow) → (pick.query.0 ≡ other.num.0 → ⊥)
    → cached_query (runs_alone runs (before ++ pick ∷ [])) other ≡ cached_query (runs_alone runs before) other
other-pick runs before pick other differs =
    same-cached other (last_or (start_of other) (run_moments other.num.0 runs)) (last_or (start_of other) (run_moments other.num.0 runs))
    (length (run_moments other.num.0 runs)) (length (run_moments other.num.0 runs))
    (map (picked runs) (picks_of other.num.0 (before ++ pick ∷ []))) (map (picked runs) (picks_of other.num.0 before)) refl refl
    (ap (map (picked runs))
    (filter-none (λ pick. pick.query.0 == other.num.0) before (pick ∷ []) (ne_eqb pick.query.0 other.num.0 differs, tt)))

-- the ordinal that was noted for a run
has-bounds : (k num query : ℕ) (runs : List RunRow) → RunsFrom k runs → HasRun num query runs → (k ≤ num) × (num < k + length runs)
has-bounds k num query [] from has = absurd has
has-bounds k num query (run ∷ runs) from (inl e) = (omega (arith, from.0, e.0), omega (arith, from.0, e.0))
has-bounds k num query (run ∷ runs) from (inr h) =
    let rest = has-bounds (suc k) num query runs from.1 h in
    (omega (arith, rest.0), omega (arith, rest.1))

ordinal-at : (all : List RunRow) (k num query i : ℕ) (runs : List RunRow) → RunsFrom k runs → HasRun num query runs → num ≡ k + i
    → slice_index_or (map (ordinal_in all) runs) i 0 ≡ run_ordinal num query all
ordinal-at all k num query i [] from has at = absurd has
ordinal-at all k num query zero (run ∷ runs) from (inl e) at = ap (λ n. run_ordinal n run.query.0 all) e.0
    ∙ ap (λ n. run_ordinal num n all) e.1
ordinal-at all k num query (suc i) (run ∷ runs) from (inl e) at = absurd (omega (arith, from.0, e.0, at))
ordinal-at all k num query zero (run ∷ runs) from (inr h) at =
    absurd (let bounds = has-bounds (suc k) num query runs from.1 h in omega (arith, bounds.0, at))
ordinal-at all k num query (suc i) (run ∷ runs) from (inr h) at = ordinal-at all (suc k) num query i runs from.1 h (omega (arith, at))

pub has-owned : (num query n : ℕ) (runs : List RunRow) → Each (λ run. IsRowNumber run.query.0 n) runs → HasRun num query runs
    → IsRowNumber query n
has-owned num query n [] each has = absurd has
has-owned num query n (run ∷ runs) each (inl e) = subst (λ q. IsRowNumber q n) e.1 each.0
has-owned num query n (run ∷ runs) each (inr h) = has-owned num query n runs each.1 h

pub run-within : (num query : ℕ) (runs : List RunRow) → RunsFrom 1 runs → HasRun num query runs → IsRowNumber num (length runs)
run-within num query runs from has =
    let bounds = has-bounds 1 num query runs from has in
    record { low = bounds.0; high = omega (arith, bounds.1) }

-- a pick is added to its query
pub pick-joins : (rows : List QueryRow) (runs : List RunRow) (before : List Pick) (pick : Pick) (queries new : List CachedQuery)
    (ordinals : List ℕ) → QueriesFrom 1 rows → RunsFrom 1 runs → IsRowNumber pick.query.0 (length rows) → HasRun pick.run pick.query.0 runs
    → queries ≡ map (cached_query (runs_alone runs before)) rows → ordinals ≡ map (ordinal_in runs) runs
    → ((d : CachedQuery) → new ≡ slice_set queries (pick.query.0 - 1) (with_entry (record {
      doc = pick.doc;
      first = pick.first;
      run = slice_index_or ordinals (pick.run - 1) 0;
    }) (slice_index_or queries (pick.query.0 - 1) d)))
    → new ≡ map (cached_query (runs_alone runs (before ++ pick ∷ []))) rows
pick-joins rows runs before pick queries new ordinals from numbered one has is noted set =
    let t = one-there pick.query.0 rows from one in
    let f : QueryRow → CachedQuery = cached_query (runs_alone runs before) in
    let g : QueryRow → CachedQuery = cached_query (runs_alone runs (before ++ pick ∷ [])) in
    let d : CachedQuery = f t.q in
    let entry = entry-of pick (slice_index_or ordinals (pick.run - 1) 0) in
    let low = has-bounds 1 pick.run pick.query.0 runs numbered has in
    let place : pick.run ≡ 1 + (pick.run - 1) = omega (arith, low.0) in
    let ordinal : slice_index_or ordinals (pick.run - 1) 0 ≡ run_ordinal pick.run pick.query.0 runs =
    ap (λ l. slice_index_or l (pick.run - 1) 0) noted ∙ ordinal-at runs 1 pick.run pick.query.0 (pick.run - 1) runs numbered has place in
    let kept : slice_index_or (map f rows) (pick.query.0 - 1) d ≡ f t.q = kept-there f pick.query.0 rows t.q d from t.has t.at one.low in
    let at : t.q.num.0 ≡ 1 + (pick.query.0 - 1) = omega (arith, t.at, one.low) in
    set d
    ∙ ap (λ qs. slice_set qs (pick.query.0 - 1) (with_entry entry (slice_index_or qs (pick.query.0 - 1) d))) is
    ∙ ap (λ k. slice_set (map f rows) (pick.query.0 - 1) (with_entry entry k)) kept
    ∙ ap (slice_set (map f rows) (pick.query.0 - 1))
    (sym (own-pick runs before pick t.q (slice_index_or ordinals (pick.run - 1) 0) (sym t.at) ordinal))
    ∙ placed-set f g 1 (pick.query.0 - 1) rows t.q from t.has at (λ other differs. other-pick runs before pick other (λ e.
    differs (t.at ∙ e)))

-- its document isn't among what its query has delivered
pub pick-unseen :
    (rows : List QueryRow) (runs : List RunRow) (before : List Pick) (pick : Pick) (queries : List CachedQuery) (d : CachedQuery)
    → QueriesFrom 1 rows → IsRowNumber pick.query.0 (length rows) → queries ≡ map (cached_query (runs_alone runs before)) rows
    → list_any (picks_same pick) before ≡ false → is_in pick.doc.0 (slice_index_or queries (pick.query.0 - 1) d).entries ≡ false
pick-unseen rows runs before pick queries d from one is once =
    let t = one-there pick.query.0 rows from one in
    let kept : slice_index_or queries (pick.query.0 - 1) d ≡ cached_query (runs_alone runs before) t.q =
    ap (λ l. slice_index_or l (pick.query.0 - 1) d) is
    ∙ kept-there (cached_query (runs_alone runs before)) pick.query.0 rows t.q d from t.has t.at one.low in
    ap (λ (k : CachedQuery). is_in pick.doc.0 k.entries) kept ∙ ap (λ n. is_in pick.doc.0 (map (picked runs) (picks_of n before))) t.at
    ∙ picked-in runs pick before ∙ once

-- runs that are there have their ordinals, whatever follows
run-in : (pre rest : List RunRow) (run : RunRow) → HasRun run.num run.query.0 (pre ++ run ∷ rest)
run-in [] rest run = inl (refl, refl)
run-in (x ∷ pre) rest run = inr (run-in pre rest run)

all-have : (pre runs : List RunRow) → Each (λ run. HasRun run.num run.query.0 (pre ++ runs)) runs
all-have pre [] = tt
all-have pre (run ∷ runs) = (
  run-in pre runs run,
  subst (λ all. Each (λ run. HasRun run.num run.query.0 all) runs) (append_assoc pre (run ∷ []) runs) (all-have (pre ++ run ∷ []) runs),
)

ordinals-stay : (before : List RunRow) (new : RunRow) (runs : List RunRow) → Each (λ run. HasRun run.num run.query.0 before) runs
    → map (ordinal_in before) runs ≡ map (ordinal_in (before ++ new ∷ [])) runs
ordinals-stay before new [] each = refl
ordinals-stay before new (run ∷ runs) each =
    ap (λ n. n ∷ map (ordinal_in before) runs) (sym (ordinal-stays run.num run.query.0 before new each.0))
    ∙ ap (λ l. ordinal_in (before ++ new ∷ []) run ∷ l) (ordinals-stay before new runs each.1)

pub ordinal-noted : (before : List RunRow) (run : RunRow) (ordinals new : List ℕ) (ordinal : ℕ) → RunsFrom 1 before
    → run.num ≡ length before + 1 → ordinals ≡ map (ordinal_in before) before → ordinal ≡ length (run_moments run.query.0 before) + 1
    → new ≡ ordinals ++ ordinal ∷ []
    → new ≡ map (ordinal_in (before ++ run ∷ [])) (before ++ run ∷ [])
ordinal-noted before run ordinals new ordinal from num is of made =
    made ∙ ap (λ l. l ++ ordinal ∷ []) (is ∙ ordinals-stay before run before (all-have [] before))
    ∙ ap (λ n. map (ordinal_in (before ++ run ∷ [])) before ++ n ∷ []) (of ∙ sym (ordinal-new run.query.0 before run from num refl))
    ∙ sym (map-append (ordinal_in (before ++ run ∷ [])) before (run ∷ []))

-- the runs before a place, and the one there
pub runs-split : (k i : ℕ) (runs : List RunRow) (d : RunRow) → RunsFrom k runs → i < length runs
    → RunsFrom k (take i runs) × ((slice_index_or runs i d).num ≡ k + i)
runs-split k i [] d from lt = absurd (omega (arith, lt))
runs-split k zero (x ∷ runs) d from lt = (tt, omega (arith, from.0))
runs-split k (suc i) (x ∷ runs) d from lt =
    let rest = runs-split (suc k) i runs d from.1 (omega (arith, lt)) in
    ((from.0, rest.0), omega (arith, rest.1))

pub each-at : {A : Type 0} (P : A → Type 0) (i : ℕ) (xs : List A) (d : A) → Each P xs → i < length xs → P (slice_index_or xs i d)
each-at P i [] d each lt = absurd (omega (arith, lt))
each-at P zero (x ∷ xs) d each lt = each.0
each-at P (suc i) (x ∷ xs) d each lt = each-at P i xs d each.1 (omega (arith, lt))

pub length-before : {A : Type 0} (i : ℕ) (xs : List A) → i < length xs → length (take i xs) ≡ i
length-before i [] lt = absurd (omega (arith, lt))
length-before zero (x ∷ xs) lt = refl
length-before (suc i) (x ∷ xs) lt = ap suc (length-before i xs (omega (arith, lt)))

-- one more at a place
pub before-on : {A : Type 0} (i : ℕ) (xs : List A) (d : A) → i < length xs → take (i + 1) xs ≡ take i xs ++ slice_index_or xs i d ∷ []
before-on i xs d lt = ap (λ n. take n xs) (one-more i) ∙ take-suc xs i d lt where
  one-more : (n : ℕ) → n + 1 ≡ suc n
  one-more n = omega arith

-- queries that were never run
pub never-run : (rows : List QueryRow) → rows_in (map never_run rows) ≡ rows
never-run [] = refl
never-run (row ∷ rows) = ap (λ l. row ∷ l) (never-run rows)

-- the run at a place of some runs of these queries is added to its query
pub record RunAt (rows : List QueryRow) (runs : List RunRow) (i : ℕ) (d : RunRow) : Type 0 where
  pub from : RunsFrom 1 (take i runs)
  pub num : (slice_index_or runs i d).num ≡ i + 1
  pub one : IsRowNumber (slice_index_or runs i d).query.0 (length rows)
  pub len : length (take i runs) ≡ i

pub run-at : (rows : List QueryRow) (runs : List RunRow) (i n : ℕ) (d : RunRow) → RunsFrom 1 runs
    → Each (λ run. IsRowNumber run.query.0 n) runs → length rows ≡ n → i < length runs → RunAt rows runs i d
run-at rows runs i n d from owned len lt =
    let parts = runs-split 1 i runs d from lt in
    record {
      from = parts.0;
      num = omega (arith, parts.1);
      one = subst (λ n. IsRowNumber (slice_index_or runs i d).query.0 n) (sym len)
          (each-at (λ run. IsRowNumber run.query.0 n) i runs d owned lt);
      len = length-before i runs lt;
    }
