-- What a new query, a run and a filter change of what a user sees.
use Rattle.std.proofs.Common.{◌≡◌, ◌∙◌, sym, ap, refl, subst, arith, ℕ, suc, ◌+◌, ◌≤◌, ◌<◌, ℤ, List, [], ◌∷◌, ◌++◌, length, map, Bool, true}
use Rattle.std.proofs.Common.{false, Some, if◌then◌else◌}
use Rattle.std.specs.Prelude.{◌&&◌, filter, find}
use Rattle.std.specs.Str.{bytes_eq}
use Rattle.std.proofs.lemmas.List.{map-append}
use Rattle.std.proofs.lemmas.List.Elements.{filter-append}
use Rattle.tap_rows.specs.declared.tables.Tables.{Tables}
use Rattle.tap_rows.specs.declared.rows.QueryRow.{QueryRow}
use Rattle.tap_rows.specs.declared.rows.RunRow.{RunRow}
use Rattle.tap_rows.specs.declared.rows.FilterRow.{FilterRow}
use Rattle.tap_rows.specs.Results.{runs_of, run_moments}
use Rattle.tap_rows.specs.Kept.{Each, QueriesFrom, IsKept}
use Rattle.tap_rows.proofs.LaterLaws.{filter-none, each-map}
use Rattle.tap_rows.proofs.PlaceLaws.{moments-new, moments-other, query-bounds, runs-none}
use Rattle.tap_model.specs.Queries.{query_truth, start_of}
use Rattle.tap_rows.specs.WellFormed.{is_query_of}
use Rattle.tap_rows.proofs.Tests.{bytes_same}
use Rattle.tap_model.specs.Filters.{last_filter}
use Rattle.std.proofs.lemmas.List.{reverse-append}
use Rattle.tap_model.proofs.AnswerLaws.{find-in}
use Rattle.tap_model.proofs.ViewLaws.{Core, core_of, cores}

some-row : (x y : QueryRow) → Some x ≡ Some y → x ≡ y
some-row x y e = cc

-- another user's query is none of the user's
pub cores-other : (user : List ℕ) (runs : List RunRow) (qs : List QueryRow) (q : QueryRow) → bytes_eq q.owner user ≡ false
    → cores user runs (qs ++ q ∷ []) ≡ cores user runs qs
cores-other user runs qs q other = ap (map (core_of runs)) (filter-none (λ query. bytes_eq query.owner user) qs (q ∷ []) (other, tt))

less : (n : ℕ) (runs : List RunRow) → Each (λ run. run.query.0 ≤ n) runs → Each (λ run. run.query.0 < n + 1) runs
less n runs each = each-map (λ run. run.query.0 ≤ n) (λ run. run.query.0 < n + 1) runs (λ run le. omega (arith, le)) each

-- a query of the user has no run yet
pub cores-new : (user : List ℕ) (t : Tables) (q : QueryRow) → IsKept query_truth start_of t → q.num.0 ≡ length t.queries + 1
    → bytes_eq q.owner user ≡ true
    → cores user t.runs (t.queries ++ q ∷ [])
    ≡ cores user t.runs t.queries ++ record { name = q.name; source = q.source; arrival = q.arrival; runs = [] } ∷ []
cores-new user t q kept is own =
    let none : runs_of q.num.0 t.runs ≡ [] =
    runs-none q.num.0 t.runs (subst (λ n. Each (λ run. run.query.0 < n) t.runs) (sym is) (less (length t.queries) t.runs kept.owned)) in
    let moments : run_moments q.num.0 t.runs ≡ [] = ap (map (λ run. run.moment)) none in
    let one : filter (λ query. bytes_eq query.owner user) (q ∷ []) ≡ q ∷ [] = ap (λ b. if b then q ∷ [] else []) own in
    ap (map (core_of t.runs)) (filter-append (λ query. bytes_eq query.owner user) t.queries (q ∷ [])
    ∙ ap (λ qs. filter (λ query. bytes_eq query.owner user) t.queries ++ qs) one)
    ∙ map-append (core_of t.runs) (filter (λ query. bytes_eq query.owner user) t.queries) (q ∷ [])
    ∙ ap (λ ms. cores user t.runs t.queries ++ record { name = q.name; source = q.source; arrival = q.arrival; runs = ms } ∷ []) moments

-- one core and the rest of them
join : (name source : List ℕ) (arrival : ℤ) (ms ms' : List ℤ) (cs cs' : List Core) → ms ≡ ms' → cs ≡ cs'
    → record { name = name; source = source; arrival = arrival; runs = ms } ∷ cs
    ≡ record { name = name; source = source; arrival = arrival; runs = ms' } ∷ cs'
join name source arrival ms ms' cs cs' m c = rw (m, c) refl

-- a run of a query with a lower number
cores-above : (user : List ℕ) (runs : List RunRow) (run : RunRow) (k : ℕ) (qs : List QueryRow) → QueriesFrom k qs → run.query.0 < k
    → cores user (runs ++ run ∷ []) qs ≡ cores user runs qs
cores-above user runs run k [] from lt = refl
cores-above user runs run k (q ∷ qs) from lt =
    go (bytes_eq q.owner user) (cores-above user runs run (suc k) qs from.1 (omega (arith, lt))) where
      same : run_moments q.num.0 (runs ++ run ∷ []) ≡ run_moments q.num.0 runs
      same = moments-other q.num.0 runs run (λ e. absurd (omega (arith, e, lt, from.0)))

      go : (b : Bool) → cores user (runs ++ run ∷ []) qs ≡ cores user runs qs
          → map (core_of (runs ++ run ∷ [])) (if b then q ∷ filter (λ query. bytes_eq query.owner user) qs
          else filter (λ query. bytes_eq query.owner user) qs) ≡ map (core_of runs)
          (if b then q ∷ filter (λ query. bytes_eq query.owner user) qs else filter (λ query. bytes_eq query.owner user) qs)
      go true rest = join q.name q.source q.arrival _ _ _ _ same rest
      go false rest = rest

-- the first core of this name with one run more
abbrev pub with_run : List ℕ → ℤ → List Core → List Core
with_run name moment [] = []
with_run name moment (core ∷ rest) =
    if bytes_eq core.name name
    then record { name = core.name; source = core.source; arrival = core.arrival; runs = core.runs ++ moment ∷ [] } ∷ rest
    else core ∷ with_run name moment rest

-- a run of the user's query of a name
pub cores-run : (user name : List ℕ) (runs : List RunRow) (run : RunRow) (k : ℕ) (qs : List QueryRow) (q : QueryRow) → QueriesFrom k qs
    → find (is_query_of user name) qs ≡ Some q → run.query.0 ≡ q.num.0
    → cores user (runs ++ run ∷ []) qs ≡ with_run name run.moment (cores user runs qs)
cores-run user name runs run k [] q from is of = refl
cores-run user name runs run k (x ∷ qs) q from is of =
    go (bytes_eq x.owner user) refl (bytes_eq x.name name) refl (λ found. cores-run user name runs run (suc k) qs q from.1 found of) where
      -- the query that is found
      found : (a b : Bool) → bytes_eq x.owner user ≡ a → bytes_eq x.name name ≡ b
          → (if a && b then Some x else find (is_query_of user name) qs) ≡ Some q
      found a b e f = sym (ap (λ z. if z && bytes_eq x.name name then Some x else find (is_query_of user name) qs) e
          ∙ ap (λ z. if a && z then Some x else find (is_query_of user name) qs) f) ∙ is

      later : find (is_query_of user name) qs ≡ Some q → (run.query.0 ≡ x.num.0 → ⊥)
      later e =
          let bounds = query-bounds (suc k) qs q from.1 (find-in (is_query_of user name) qs q e) in
          λ same. absurd (omega (arith, bounds.0, from.0, of, same))

      go : (a : Bool) → bytes_eq x.owner user ≡ a → (b : Bool) → bytes_eq x.name name ≡ b
          → (find (is_query_of user name) qs ≡ Some q → cores user (runs ++ run ∷ []) qs ≡ with_run name run.moment (cores user runs qs))
          → map (core_of (runs ++ run ∷ [])) (if a then x ∷ filter (λ query. bytes_eq query.owner user) qs
          else filter (λ query. bytes_eq query.owner user) qs) ≡ with_run name run.moment (map (core_of runs)
          (if a then x ∷ filter (λ query. bytes_eq query.owner user) qs else filter (λ query. bytes_eq query.owner user) qs))
      go true e true f rest =
          let same : run.query.0 ≡ x.num.0 = of ∙ sym (ap (λ row. row.num.0) (some-row x q (found true true e f))) in
          rw f (join x.name x.source x.arrival _ _ _ _ (moments-new x.num.0 runs run same)
          (cores-above user runs run (suc k) qs from.1 (omega (arith, same, from.0))))
      go true e false f rest =
          let there = found true false e f in
          rw f (join x.name x.source x.arrival _ _ _ _ (moments-other x.num.0 runs run (later there)) (rest there))
      go false e b f rest = rest (found false b e f)

-- a run of another user's query
pub cores-run-other : (user owner name : List ℕ) (runs : List RunRow) (run : RunRow) (k : ℕ) (qs : List QueryRow) (q : QueryRow)
    → bytes_eq owner user ≡ false → QueriesFrom k qs → find (is_query_of owner name) qs ≡ Some q → run.query.0 ≡ q.num.0
    → cores user (runs ++ run ∷ []) qs ≡ cores user runs qs
cores-run-other user owner name runs run k [] q other from is of = refl
cores-run-other user owner name runs run k (x ∷ qs) q other from is of =
    go (bytes_eq x.owner user) refl (is_query_of owner name x) refl
    (λ found. cores-run-other user owner name runs run (suc k) qs q other from.1 found of) where
      found : (b : Bool) → is_query_of owner name x ≡ b → (if b then Some x else find (is_query_of owner name) qs) ≡ Some q
      found b e = sym (ap (λ z. if z then Some x else find (is_query_of owner name) qs) e) ∙ is

      later : find (is_query_of owner name) qs ≡ Some q → (run.query.0 ≡ x.num.0 → ⊥)
      later e =
          let bounds = query-bounds (suc k) qs q from.1 (find-in (is_query_of owner name) qs q e) in
          λ same. absurd (omega (arith, bounds.0, from.0, of, same))

      left : (a b : Bool) → (a && b) ≡ true → a ≡ true
      left true b e = refl
      left false b e = e

      both : true ≡ false → ⊥
      both e = cc

      go : (a : Bool) → bytes_eq x.owner user ≡ a → (b : Bool) → is_query_of owner name x ≡ b
          → (find (is_query_of owner name) qs ≡ Some q → cores user (runs ++ run ∷ []) qs ≡ cores user runs qs)
          → map (core_of (runs ++ run ∷ [])) (if a then x ∷ filter (λ query. bytes_eq query.owner user) qs
          else filter (λ query. bytes_eq query.owner user) qs) ≡ map (core_of runs)
          (if a then x ∷ filter (λ query. bytes_eq query.owner user) qs else filter (λ query. bytes_eq query.owner user) qs)
      go true e true f rest =
          let named : x.owner ≡ owner = bytes_same x.owner owner (left (bytes_eq x.owner owner) (bytes_eq x.name name) f) in
          absurd (both (sym e ∙ ap (λ o. bytes_eq o user) named ∙ other))
      go true e false f rest =
          let there = found false f in
          join x.name x.source x.arrival _ _ _ _ (moments-other x.num.0 runs run (later there)) (rest there)
      go false e true f rest =
          let same : run.query.0 ≡ x.num.0 = of ∙ sym (ap (λ row. row.num.0) (some-row x q (found true f))) in
          cores-above user runs run (suc k) qs from.1 (omega (arith, same, from.0))
      go false e false f rest = rest (found false f)

last-is : (user : List ℕ) (filters : List FilterRow) (new : FilterRow)
    → last_filter user (filters ++ new ∷ []) ≡ (if bytes_eq new.owner user then Some new else last_filter user filters)
last-is user filters new = ap (find (λ filter. bytes_eq filter.owner user)) (reverse-append filters (new ∷ []))

-- a filter of the user is the last one
pub filter-own : (user : List ℕ) (filters : List FilterRow) (new : FilterRow) → bytes_eq new.owner user ≡ true
    → last_filter user (filters ++ new ∷ []) ≡ Some new
filter-own user filters new own = last-is user filters new ∙ ap (λ b. if b then Some new else last_filter user filters) own

-- another user's is not
pub filter-other : (user : List ℕ) (filters : List FilterRow) (new : FilterRow) → bytes_eq new.owner user ≡ false
    → last_filter user (filters ++ new ∷ []) ≡ last_filter user filters
filter-other user filters new other = last-is user filters new ∙ ap (λ b. if b then Some new else last_filter user filters) other
