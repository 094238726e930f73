-- A condition whose truth is the same at every second: its hits are the documents for which it holds, at their arrival.
use Rattle.std.proofs.Common.{◌≡◌, ◌∙◌, refl, arith, ℕ, suc, ◌≤◌, ◌<◌, ℤ, Bool, true, false, Some, None, List, [], ◌∷◌, if◌then◌else◌, inl}
use Rattle.std.proofs.Common.{inr}
use Rattle.std.specs.Prelude.{◌&&◌, ◌≤ℤ◌, ◌<ℤ◌, int_le, int_lt}
use Rattle.std.specs.List.{filter_map, cons_option}
use Rattle.std.proofs.lemmas.Bool.{cases_Bool}
use Rattle.std.proofs.lemmas.Int.{ints, by_lt_z}
use Rattle.tap_rows.specs.declared.tables.Tables.{Tables}
use Rattle.tap_rows.specs.declared.rows.Doc.{Doc}
use Rattle.tap_rows.specs.declared.results.Hit.{Hit}
use Rattle.tap_rows.specs.Arrivals.{Arrived}
use Rattle.tap_rows.specs.Results.{Truth, is_given, first_second, hit_of, at_least, hits_in_order, put_in, is_before, fresh_in}
use Rattle.tap_rows.specs.Constant.{at_arrival, arrival_hit}
use Rattle.tap_rows.proofs.SecondsLaws.{least_second-is, least_second-never}
use Rattle.tap_rows.proofs.Tests.{le_yes, le_not, lt_yes, lt_not, and_never}

-- the first second of a document for which the condition holds is its arrival
pub first-holds : (truth : Truth) (tables : Tables) (doc : Doc) (start t : ℤ) → start ≤ℤ doc.arrival → ((s : ℤ) → truth tables doc s ≡ true)
    → doc.arrival <ℤ t → first_second truth tables doc start t ≡ Some doc.arrival
first-holds truth tables doc start t from always below =
    least_second-is (is_given truth tables doc) start t doc.arrival from below
    (rw (le_yes doc.arrival doc.arrival (omega (arith, ints)), always doc.arrival) refl) (λ r lo before.
    rw (le_not doc.arrival r before) refl)

pub first-late : (truth : Truth) (tables : Tables) (doc : Doc) (start t : ℤ) → t ≤ℤ doc.arrival
    → first_second truth tables doc start t ≡ None
first-late truth tables doc start t late =
    least_second-never (is_given truth tables doc) start t (λ r lo before. rw (le_not doc.arrival r (omega (arith, ints))) refl)

pub first-never : (truth : Truth) (tables : Tables) (doc : Doc) (start t : ℤ) → ((s : ℤ) → truth tables doc s ≡ false)
    → first_second truth tables doc start t ≡ None
first-never truth tables doc start t never =
    least_second-never (is_given truth tables doc) start t (λ r lo before. rw (never r) (and_never (int_le doc.arrival r)))

hit-holds : (truth : Truth) (tables : Tables) (doc : Doc) (start tau t : ℤ) → start ≤ℤ doc.arrival → ((s : ℤ) → truth tables doc s ≡ true)
    → hit_of doc (at_least tau (first_second truth tables doc start t))
    ≡ (if int_le tau doc.arrival && int_lt doc.arrival t then at_arrival doc else None)
hit-holds truth tables doc start tau t from always =
    by_lt_z doc.arrival t
    (λ lt. rw (first-holds truth tables doc start t from always lt, lt_yes doc.arrival t lt)
    (elim (cases_Bool (int_le tau doc.arrival)) [ inl y ↦ rw y refl | inr n ↦ rw n refl ]))
    (λ ge. rw (first-late truth tables doc start t ge, lt_not doc.arrival t ge, and_never (int_le tau doc.arrival)) refl)

pub hit-is : (truth : Truth) (tables : Tables) (holds : Doc → Bool) (doc : Doc) (start tau t : ℤ)
    → ((d : Doc) (s : ℤ) → truth tables d s ≡ holds d) → start ≤ℤ doc.arrival
    → hit_of doc (at_least tau (first_second truth tables doc start t)) ≡ arrival_hit holds tau t doc
hit-is truth tables holds doc start tau t same from = go (holds doc) refl where
  go : (b : Bool) → holds doc ≡ b → hit_of doc (at_least tau (first_second truth tables doc start t)) ≡ arrival_hit holds tau t doc
  go true e = rw e (hit-holds truth tables doc start tau t from (λ s. same doc s ∙ e))
  go false e = rw (e, first-never truth tables doc start t (λ s. same doc s ∙ e)) refl

-- hits of documents that came later
abbrev pub Later : ℕ → ℤ → List Hit → Type 0
Later num low [] = Unit {0}
Later num low (hit ∷ hits) = (low ≤ℤ hit.first) × (num ≤ hit.doc.0) × Later num low hits

Later-weaker : (num : ℕ) (low : ℤ) (num' : ℕ) (low' : ℤ) (hits : List Hit) → num' ≤ num → low' ≤ℤ low → Later num low hits
    → Later num' low' hits
Later-weaker num low num' low' [] n l later = tt
Later-weaker num low num' low' (hit ∷ hits) n l later =
    (omega (arith, ints, later.0), omega (arith, later.1), Later-weaker num low num' low' hits n l later.2)

hits-later : (holds : Doc → Bool) (tau t : ℤ) (num : ℕ) (low : ℤ) (docs : List Doc) → Arrived num low docs
    → Later num low (filter_map (arrival_hit holds tau t) docs)
hits-later holds tau t num low [] arrived = tt
hits-later holds tau t num low (doc ∷ docs) arrived =
    let rest = Later-weaker (suc num) doc.arrival num low (filter_map (arrival_hit holds tau t) docs) (omega arith)
    arrived.0 (hits-later holds tau t (suc num) doc.arrival docs arrived.2) in
    elim (holds doc && int_le tau doc.arrival && int_lt doc.arrival t)
    as (λ b. Later num low (cons_option (if b then at_arrival doc else None) (filter_map (arrival_hit holds tau t) docs))) [
      | true ↦ (arrived.0, omega (arith, arrived.1), rest)
      | false ↦ rest
    ]

-- a hit before which none of the others stands comes first
put_in-first : (hit : Hit) (num : ℕ) (hits : List Hit) → hit.doc.0 < num → Later num hit.first hits → put_in hit hits ≡ hit ∷ hits
put_in-first hit num [] lt later = refl
put_in-first hit num (other ∷ hits) lt later =
    let before : is_before hit other ≡ true = before-later hit other later.0 (omega (arith, later.1)) in rw before refl where
      before-later : (x y : Hit) → x.first ≤ℤ y.first → x.doc.0 < y.doc.0 → is_before x y ≡ true
      before-later x y le less = grind (arith, ints)

-- the hits at arrival are in order as they stand
pub hits-in_order : (holds : Doc → Bool) (tau t : ℤ) (num : ℕ) (low : ℤ) (docs : List Doc) → Arrived num low docs
    → hits_in_order (filter_map (arrival_hit holds tau t) docs) ≡ filter_map (arrival_hit holds tau t) docs
hits-in_order holds tau t num low [] arrived = refl
hits-in_order holds tau t num low (doc ∷ docs) arrived =
    let rest = hits-in_order holds tau t (suc num) doc.arrival docs arrived.2 in
    elim (holds doc && int_le tau doc.arrival && int_lt doc.arrival t)
    as (λ b. hits_in_order (cons_option (if b then at_arrival doc else None) (filter_map (arrival_hit holds tau t) docs))
    ≡ cons_option (if b then at_arrival doc else None) (filter_map (arrival_hit holds tau t) docs)) [
      | true ↦ rw rest (put_in-first (record { doc = doc.num; first = doc.arrival }) (suc num) (filter_map (arrival_hit holds tau t) docs)
          (omega (arith, arrived.1)) (hits-later holds tau t (suc num) doc.arrival docs arrived.2))
      | false ↦ rest
    ]

-- each document's hit is that at its arrival
hits-same : (truth : Truth) (tables : Tables) (holds : Doc → Bool) (start tau t : ℤ) (num : ℕ) (low : ℤ) (docs : List Doc)
    → ((d : Doc) (s : ℤ) → truth tables d s ≡ holds d) → start ≤ℤ low → Arrived num low docs
    → filter_map (λ doc. hit_of doc (at_least tau (first_second truth tables doc start t))) docs ≡ filter_map (arrival_hit holds tau t) docs
hits-same truth tables holds start tau t num low [] same from arrived = refl
hits-same truth tables holds start tau t num low (doc ∷ docs) same from arrived =
    let from' : start ≤ℤ doc.arrival = omega (arith, ints, arrived.0) in
    rw (
      hit-is truth tables holds doc start tau t same from',
      hits-same truth tables holds start tau t (suc num) doc.arrival docs same from' arrived.2,
    ) refl

-- the fresh documents of a condition whose truth is the same at every second: those for which it holds, that arrived in the window
pub fresh-is : (truth : Truth) (tables : Tables) (holds : Doc → Bool) (start low tau t : ℤ)
    → ((d : Doc) (s : ℤ) → truth tables d s ≡ holds d) → start ≤ℤ low → Arrived 1 low tables.docs
    → fresh_in truth tables start tau t ≡ filter_map (arrival_hit holds tau t) tables.docs
fresh-is truth tables holds start low tau t same from arrived =
    rw (hits-same truth tables holds start tau t 1 low tables.docs same from arrived) (hits-in_order holds tau t 1 low tables.docs arrived)
