-- A box after one more run: what it held, and what the run delivers.
use Rattle.std.proofs.Common.{◌≡◌, ◌∙◌, sym, ap, refl, arith, ℕ, suc, ◌+◌, ◌≤◌, ◌<◌, ℤ, true, false, Option, Some, None, List, [], ◌∷◌}
use Rattle.std.proofs.Common.{◌++◌, length, map, if◌then◌else◌}
use Rattle.std.specs.Prelude.{◌==◌, ◌≤ℤ◌, ◌<ℤ◌, int_le, filter}
use Rattle.std.specs.List.{filter_map, cons_option}
use Rattle.std.proofs.lemmas.Int.{ints, by_lt_z}
use Rattle.std.proofs.lemmas.List.{append_assoc, append-nil}
use Rattle.tap_rows.specs.declared.results.Hit.{Hit}
use Rattle.tap_rows.specs.declared.rows.Doc.{Doc}
use Rattle.tap_rows.specs.declared.rows.RunRow.{RunRow}
use Rattle.tap_rows.specs.declared.tables.Tables.{Tables}
use Rattle.tap_rows.specs.Kept.{Rising}
use Rattle.tap_rows.specs.Results.{Truth, is_given, first_second, hit_of, at_least, put_in, is_before, hits_in_order, run_of, entry_at}
use Rattle.tap_rows.specs.Results.{entries_of, entries_from, last_or, run_moments, covered, union_until, fresh_in, box_of}
use Rattle.tap_rows.proofs.SecondsLaws.{least_second-within}
use Rattle.tap_rows.proofs.UnionLaws.{is_from, is_earlier, fresh-part, union-part}
use Rattle.tap_rows.proofs.Tests.{lt_yes, lt_not, le_yes, le_not, nat_itself}

pub rising-le : (low : ℤ) (ms : List ℤ) → Rising low ms → low ≤ℤ last_or low ms
rising-le low [] rising = omega (arith, ints)
rising-le low (m ∷ ms) rising = let rest = rising-le m ms rising.1 in omega (arith, ints, rising.0)

-- a second below the last run belongs to the run that it had
run-early : (low f t : ℤ) (ms : List ℤ) → Rising low ms → low ≤ℤ f → f <ℤ last_or low ms
    → (run_of f (ms ++ t ∷ []) ≡ run_of f ms) × (run_of f ms ≤ length ms)
run-early low f t [] rising from below = absurd (omega (arith, ints))
run-early low f t (m ∷ ms) rising from below =
    by_lt_z f m
    (λ lt. rw (lt_yes f m lt) (refl, omega arith))
    (λ ge. let rest = run-early m f t ms rising.1 ge below in rw (lt_not f m ge) (ap suc rest.0, omega (arith, rest.1)))

-- a second from the last run on belongs to the new one
run-late : (low f t : ℤ) (ms : List ℤ) → Rising low ms → last_or low ms ≤ℤ f → f <ℤ t → run_of f (ms ++ t ∷ []) ≡ length ms + 1
run-late low f t [] rising from below = rw (lt_yes f t below) (omega arith)
run-late low f t (m ∷ ms) rising from below =
    let le = rising-le m ms rising.1 in
    rw (lt_not f m (omega (arith, ints)), run-late m f t ms rising.1 from below) (omega arith)

-- hits of seconds from low up to but without t
abbrev pub Within : ℤ → ℤ → List Hit → Type 0
Within low t [] = Unit {0}
Within low t (hit ∷ hits) = (low ≤ℤ hit.first) × (hit.first <ℤ t) × Within low t hits

less : (a b : ℕ) → a < b → (b == a) ≡ false
less a b lt = grind arith

more : (a b : ℕ) → a < b → (a == b) ≡ false
more a b lt = grind arith

-- the hits of an earlier run stay
old-hits : (ms : List ℤ) (low t : ℤ) (run : ℕ) (hits : List Hit) → Rising low ms → run ≤ length ms → Within low t hits
    → filter (λ hit. run_of hit.first (ms ++ t ∷ []) == run) hits
    ≡ filter (λ hit. run_of hit.first ms == run) (filter (is_earlier (last_or low ms)) hits)
old-hits ms low t run [] rising le within = refl
old-hits ms low t run (hit ∷ hits) rising le within =
    by_lt_z hit.first (last_or low ms)
    (λ lt. let early = run-early low hit.first t ms rising within.0 lt in
    rw (lt_yes hit.first (last_or low ms) lt, early.0, old-hits ms low t run hits rising le within.2) refl)
    (λ ge. let late = run-late low hit.first t ms rising ge within.1 in
    rw (
      lt_not hit.first (last_or low ms) ge,
      late,
      less run (length ms + 1) (omega arith),
      old-hits ms low t run hits rising le within.2,
    ) refl)

-- the hits of the new run are those from the last run on
new-hits : (ms : List ℤ) (low t : ℤ) (hits : List Hit) → Rising low ms → Within low t hits
    → filter (λ hit. run_of hit.first (ms ++ t ∷ []) == length ms + 1) hits ≡ filter (is_from (last_or low ms)) hits
new-hits ms low t [] rising within = refl
new-hits ms low t (hit ∷ hits) rising within =
    by_lt_z hit.first (last_or low ms)
    (λ lt. let early = run-early low hit.first t ms rising within.0 lt in
    rw (
      le_not (last_or low ms) hit.first lt,
      early.0,
      more (run_of hit.first ms) (length ms + 1) (omega (arith, early.1)),
      new-hits ms low t hits rising within.2,
    ) refl)
    (λ ge. let late = run-late low hit.first t ms rising ge within.1 in
    rw (le_yes (last_or low ms) hit.first ge, late, nat_itself (length ms + 1), new-hits ms low t hits rising within.2) refl)

entries_from-append : (mm : List ℤ) (hits : List Hit) (k : ℕ) (ms : List ℤ) (m : ℤ)
    → entries_from mm hits k (ms ++ m ∷ []) ≡ entries_from mm hits k ms ++ entries_of mm hits (k + length ms)
entries_from-append mm hits k [] m = rw (zero_more k) (append-nil (entries_of mm hits k)) where
  zero_more : (k : ℕ) → k + 0 ≡ k
  zero_more k = omega arith
entries_from-append mm hits k (n ∷ ms) m =
    rw (entries_from-append mm hits (k + 1) ms m, shift k (length ms))
    (sym (append_assoc (entries_of mm hits k) (entries_from mm hits (k + 1) ms) (entries_of mm hits (k + 1 + length ms)))) where
      shift : (k n : ℕ) → k + suc n ≡ k + 1 + n
      shift k n = omega arith

entries_from-same : (mm ms : List ℤ) (hits hits' : List Hit) (most : ℕ)
    → ((run : ℕ) → run ≤ most → entries_of mm hits run ≡ entries_of ms hits' run) → (k : ℕ) (ns : List ℤ) → k + length ns ≤ most + 1
    → entries_from mm hits k ns ≡ entries_from ms hits' k ns
entries_from-same mm ms hits hits' most each k [] le = refl
entries_from-same mm ms hits hits' most each k (n ∷ ns) le =
    rw (each k (omega arith), entries_from-same mm ms hits hits' most each (k + 1) ns (omega arith)) refl

-- after one more run the entries are those before, and then the hits from the last run on
box-more : (ms : List ℤ) (low t : ℤ) (hits : List Hit) → Rising low ms → Within low t hits
    → entries_from (ms ++ t ∷ []) hits 1 (ms ++ t ∷ []) ≡ entries_from ms (filter (is_earlier (last_or low ms)) hits) 1 ms
    ++ map (entry_at (length ms + 1)) (filter (is_from (last_or low ms)) hits)
box-more ms low t hits rising within =
    entries_from-append (ms ++ t ∷ []) hits 1 ms t
    ∙ rw (
      entries_from-same (ms ++ t ∷ []) ms hits (filter (is_earlier (last_or low ms)) hits) (length ms)
          (λ run le. ap (map (entry_at run)) (old-hits ms low t run hits rising le within)) 1 ms (omega arith),
      one_more (length ms),
      new-hits ms low t hits rising within,
    ) refl where
      one_more : (n : ℕ) → 1 + n ≡ n + 1
      one_more n = omega arith

-- the last of moments to which one is added
pub last-more : (second t : ℤ) (ms : List ℤ) → last_or second (ms ++ t ∷ []) ≡ t
last-more second t [] = refl
last-more second t (m ∷ ms) = last-more m t ms

-- the hits of a union lie among its seconds
put_in-within : (low t : ℤ) (hit : Hit) (hits : List Hit) → low ≤ℤ hit.first → hit.first <ℤ t → Within low t hits
    → Within low t (put_in hit hits)
put_in-within low t hit [] lo hi within = (lo, hi, tt)
put_in-within low t hit (other ∷ hits) lo hi within =
    elim (is_before hit other) as (λ b. Within low t (if b then hit ∷ other ∷ hits else other ∷ put_in hit hits)) [
      | true ↦ (lo, hi, within)
      | false ↦ (within.0, within.1, put_in-within low t hit hits lo hi within.2)
    ]

in_order-within : (low t : ℤ) (hits : List Hit) → Within low t hits → Within low t (hits_in_order hits)
in_order-within low t [] within = tt
in_order-within low t (hit ∷ hits) within =
    put_in-within low t hit (hits_in_order hits) within.0 within.1 (in_order-within low t hits within.2)

found-within : (start tau t : ℤ) (doc : Doc) (found : Option ℤ) (hits : List Hit) → ((f : ℤ) → found ≡ Some f → (start ≤ℤ f) × (f <ℤ t))
    → Within start t hits → Within start t (cons_option (hit_of doc (at_least tau found)) hits)
found-within start tau t doc None hits w rest = rest
found-within start tau t doc (Some f) hits w rest =
    elim (int_le tau f) as (λ b. Within start t (cons_option (hit_of doc (if b then Some f else None)) hits)) [
      | true ↦ ((w f refl).0, (w f refl).1, rest)
      | false ↦ rest
    ]

hits-within : (truth : Truth) (tables : Tables) (start tau t : ℤ) (docs : List Doc)
    → Within start t (filter_map (λ doc. hit_of doc (at_least tau (first_second truth tables doc start t))) docs)
hits-within truth tables start tau t [] = tt
hits-within truth tables start tau t (doc ∷ docs) = found-within start tau t doc (first_second truth tables doc start t)
    (filter_map (λ d. hit_of d (at_least tau (first_second truth tables d start t))) docs)
    (λ f e. least_second-within (is_given truth tables doc) start t f e) (hits-within truth tables start tau t docs)

pub fresh-within : (truth : Truth) (tables : Tables) (start tau t : ℤ) → Within start t (fresh_in truth tables start tau t)
fresh-within truth tables start tau t =
    in_order-within start t (filter_map (λ doc. hit_of doc (at_least tau (first_second truth tables doc start t))) tables.docs)
    (hits-within truth tables start tau t tables.docs)

-- a query's box after one more run at t: its box before, and what is fresh at t
pub box-after-run : (truth : Truth) (tables : Tables) (runs : List RunRow) (start : ℤ) (query : ℕ) (t : ℤ) → run_moments query runs
    ≡ run_moments query tables.runs ++ t ∷ [] → Rising start (run_moments query tables.runs) → covered start query tables.runs ≤ℤ t
    → entries_from (run_moments query runs) (union_until truth tables start (covered start query runs)) 1 (run_moments query runs)
    ≡ box_of truth tables start query
    ++ map (entry_at (length (run_moments query tables.runs) + 1)) (fresh_in truth tables start (covered start query tables.runs) t)
box-after-run truth tables runs start query t more rising le =
    rw (
      more,
      last-more start t (run_moments query tables.runs),
      fresh-part truth tables start (covered start query tables.runs) t,
      union-part truth tables start (covered start query tables.runs) t (rising-le start (run_moments query tables.runs) rising) le,
    )
    (box-more (run_moments query tables.runs) start t (union_until truth tables start t) rising (fresh-within truth tables start start t))
