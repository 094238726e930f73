-- What is fresh, and what was given up to an earlier second, as parts of the union, for every condition.
use Rattle.std.proofs.Common.{◌≡◌, sym, refl, arith, ℤ, Bool, Option, Some, None, List, [], ◌∷◌, inl, inr}
use Rattle.std.specs.Prelude.{◌≤ℤ◌, ◌<ℤ◌, int_le, int_lt, filter}
use Rattle.std.specs.List.{filter_map, cons_option}
use Rattle.std.specs.Option.{option_or}
use Rattle.std.proofs.lemmas.Bool.{cases_Bool}
use Rattle.std.proofs.lemmas.Int.{ints}
use Rattle.tap_rows.specs.declared.tables.Tables.{Tables}
use Rattle.tap_rows.specs.declared.rows.Doc.{Doc}
use Rattle.tap_rows.specs.declared.results.Hit.{Hit}
use Rattle.tap_rows.specs.Seconds.{least_second}
use Rattle.tap_rows.specs.Results.{Truth, is_given, first_second, hit_of, at_least, fresh_in, union_until}
use Rattle.tap_rows.proofs.SecondsLaws.{least_second-within, least_second-more}
use Rattle.tap_rows.proofs.OrderLaws.{in_order-filter}
use Rattle.tap_rows.proofs.Tests.{le_yes, lt_yes, lt_not}

-- is the hit's first second not below tau?
abbrev pub is_from : ℤ → Hit → Bool
is_from tau hit = int_le tau hit.first

-- is the hit's first second below this one?
abbrev pub is_earlier : ℤ → Hit → Bool
is_earlier last hit = int_lt hit.first last

-- the hit of a second
abbrev hit_at : Doc → ℤ → Hit
hit_at doc second = record { doc = doc.num; first = second }

-- a found second that is not below the start
part-found : (tau start : ℤ) (doc : Doc) (f : ℤ) (hits : List Hit) → start ≤ℤ f → cons_option (hit_of doc (at_least tau (Some f)))
    (filter (is_from tau) hits) ≡ filter (is_from tau) (cons_option (hit_of doc (at_least start (Some f))) hits)
part-found tau start doc f hits from =
    rw (le_yes start f from) (elim (cases_Bool (int_le tau f)) [ inl y ↦ rw y refl | inr n ↦ rw n refl ])

hit-part : (truth : Truth) (tables : Tables) (start tau t : ℤ) (doc : Doc) (hits : List Hit)
    → cons_option (hit_of doc (at_least tau (first_second truth tables doc start t))) (filter (is_from tau) hits)
    ≡ filter (is_from tau) (cons_option (hit_of doc (at_least start (first_second truth tables doc start t))) hits)
hit-part truth tables start tau t doc hits = go (first_second truth tables doc start t) refl where
  go : (found : Option ℤ) → first_second truth tables doc start t ≡ found → cons_option (hit_of doc (at_least tau found))
      (filter (is_from tau) hits) ≡ filter (is_from tau) (cons_option (hit_of doc (at_least start found)) hits)
  go None e = refl
  go (Some f) e = part-found tau start doc f hits (least_second-within (is_given truth tables doc) start t f e).0

hits-part : (truth : Truth) (tables : Tables) (start tau t : ℤ) (docs : List Doc)
    → filter_map (λ doc. hit_of doc (at_least tau (first_second truth tables doc start t))) docs
    ≡ filter (is_from tau) (filter_map (λ doc. hit_of doc (at_least start (first_second truth tables doc start t))) docs)
hits-part truth tables start tau t [] = refl
hits-part truth tables start tau t (doc ∷ docs) = rw (hits-part truth tables start tau t docs)
    (hit-part truth tables start tau t doc (filter_map (λ d. hit_of d (at_least start (first_second truth tables d start t))) docs))

-- what is fresh is the part of the union from tau on
pub fresh-part : (truth : Truth) (tables : Tables) (start tau t : ℤ)
    → fresh_in truth tables start tau t ≡ filter (is_from tau) (union_until truth tables start t)
fresh-part truth tables start tau t = rw (hits-part truth tables start tau t tables.docs) (sym
    (in_order-filter (is_from tau) (filter_map (λ doc. hit_of doc (at_least start (first_second truth tables doc start t))) tables.docs)))

-- with fewer seconds the same is found, or nothing
earlier-found : (start last : ℤ) (doc : Doc) (found more : Option ℤ) (hits : List Hit)
    → ((f : ℤ) → found ≡ Some f → (start ≤ℤ f) × (f <ℤ last)) → ((f : ℤ) → more ≡ Some f → (start ≤ℤ f) × (last ≤ℤ f))
    → cons_option (hit_of doc (at_least start found)) (filter (is_earlier last) hits)
    ≡ filter (is_earlier last) (cons_option (hit_of doc (at_least start (option_or found more))) hits)
earlier-found start last doc (Some f) more hits early late = let w = early f refl in rw (le_yes start f w.0, lt_yes f last w.1) refl
earlier-found start last doc None None hits early late = refl
earlier-found start last doc None (Some f) hits early late = let w = late f refl in rw (le_yes start f w.0, lt_not f last w.1) refl

hit-earlier : (truth : Truth) (tables : Tables) (start last t : ℤ) (doc : Doc) (hits : List Hit) → start ≤ℤ last → last ≤ℤ t
    → cons_option (hit_of doc (at_least start (first_second truth tables doc start last))) (filter (is_earlier last) hits)
    ≡ filter (is_earlier last) (cons_option (hit_of doc (at_least start (first_second truth tables doc start t))) hits)
hit-earlier truth tables start last t doc hits from le =
    rw (least_second-more (is_given truth tables doc) start last t from le)
    (earlier-found start last doc (least_second (is_given truth tables doc) start last) (least_second (is_given truth tables doc) last t)
    hits
    (λ f e. least_second-within (is_given truth tables doc) start last f e)
    (λ f e. let w = least_second-within (is_given truth tables doc) last t f e in (omega (arith, ints, w.0), w.0)))

hits-earlier : (truth : Truth) (tables : Tables) (start last t : ℤ) (docs : List Doc) → start ≤ℤ last → last ≤ℤ t
    → filter_map (λ doc. hit_of doc (at_least start (first_second truth tables doc start last))) docs
    ≡ filter (is_earlier last) (filter_map (λ doc. hit_of doc (at_least start (first_second truth tables doc start t))) docs)
hits-earlier truth tables start last t [] from le = refl
hits-earlier truth tables start last t (doc ∷ docs) from le =
    rw (hits-earlier truth tables start last t docs from le) (hit-earlier truth tables start last t doc
    (filter_map (λ d. hit_of d (at_least start (first_second truth tables d start t))) docs) from le)

-- the union up to an earlier second is the part of the union before it
pub union-part : (truth : Truth) (tables : Tables) (start last t : ℤ) → start ≤ℤ last → last ≤ℤ t
    → union_until truth tables start last ≡ filter (is_earlier last) (union_until truth tables start t)
union-part truth tables start last t from le =
    rw (hits-earlier truth tables start last t tables.docs from le) (sym (in_order-filter (is_earlier last)
    (filter_map (λ doc. hit_of doc (at_least start (first_second truth tables doc start t))) tables.docs)))
