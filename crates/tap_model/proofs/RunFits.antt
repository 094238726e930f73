-- The rows of a run stand in order behind those of the tables: each document that it picks is picked for the first time.
use Rattle.std.proofs.Common.{◌≡◌, ◌∙◌, sym, ap, refl, subst, arith, ℕ, suc, ◌+◌, ◌≤◌, ◌<◌, ℤ, pos, Bool, true, false, Option, Some}
use Rattle.std.proofs.Common.{None, List, [], ◌∷◌, ◌++◌, length, inl, inr, if◌then◌else◌}
use Rattle.std.specs.Prelude.{◌⊎◌, ◌==◌, ◌&&◌, ◌||◌, not, nat_lt, ◌≤ℤ◌, ◌<ℤ◌, int_le, int_lt, filter}
use Rattle.std.specs.List.{filter_map, cons_option, list_any}
use Rattle.std.specs.Option.{option_or}
use Rattle.std.specs.Int.{int_gap}
use Rattle.std.proofs.lemmas.Bool.{and_parts, and_from, eqb-true}
use Rattle.std.proofs.lemmas.Int.{ints}
use Rattle.tap_base.specs.declared.moments.TheConstants.{LAST_MOMENT}
use Rattle.tap_base.specs.declared.numbers.QueryNum.{QueryNum}
use Rattle.tap_rows.specs.declared.tables.Tables.{Tables}
use Rattle.tap_rows.specs.declared.rows.Doc.{Doc}
use Rattle.tap_rows.specs.declared.rows.QueryRow.{QueryRow}
use Rattle.tap_rows.specs.declared.rows.RunRow.{RunRow}
use Rattle.tap_rows.specs.declared.rows.Pick.{Pick}
use Rattle.tap_rows.specs.declared.results.Hit.{Hit}
use Rattle.tap_rows.specs.Arrivals.{Arrived}
use Rattle.tap_rows.specs.Seconds.{least_second}
use Rattle.tap_rows.specs.Results.{Truth, is_given, first_second, hit_of, at_least, put_in, is_before, hits_in_order, run_of, entry_at}
use Rattle.tap_rows.specs.Results.{entries_of, entries_from, runs_of, run_moments, covered, union_until, fresh_in, box_of}
use Rattle.tap_rows.specs.Deliveries.{delivered, picked, picks_of, pick_rows, next_run, run_hits, run_change}
use Rattle.tap_rows.specs.WellFormed.{may_follow, row_at, was_defined, is_picked, comes_after, picks_stand}
use Rattle.tap_rows.specs.Fits.{last_row, low_of, fits}
use Rattle.tap_rows.specs.Kept.{Each, In, HasRun, RunsFrom, Rising, IsKeptQuery, IsKept, IsBy}
use Rattle.tap_rows.proofs.LaterLaws.{each-map, each-append}
use Rattle.tap_rows.proofs.SecondsLaws.{least_second-within, least_second-more, first_from-passes}
use Rattle.tap_rows.proofs.RunLaws.{rising-le}
use Rattle.tap_rows.proofs.Tests.{le_yes, lt_yes, le_from}
use Rattle.tap_rows.proofs.KeptLaws.{last-by}
use Rattle.tap_model.proofs.RowLaws.{some-same, each-in, in-each, each-row, each-filter, each-passed, each-mapped, each-unmapped, none-any}
use Rattle.tap_model.proofs.RowLaws.{low-by, Placed, docs-placed, queries-placed, placed-row, placed-same, placed-from, row-last}

same-num : (n : ℕ) → (n == n) ≡ true
same-num n = grind arith

-- hits that stand each before all that follow, of different documents
abbrev AreOther : Hit → Hit → Type 0
AreOther x y = (y.doc.0 == x.doc.0) ≡ false

abbrev Follows : Hit → Hit → Type 0
Follows x y = (is_before x y ≡ true) × AreOther x y

abbrev Others : List Hit → Type 0
Others [] = Unit {0}
Others (hit ∷ hits) = Each (AreOther hit) hits × Others hits

abbrev Ordered : List Hit → Type 0
Ordered [] = Unit {0}
Ordered (hit ∷ hits) = Each (Follows hit) hits × Ordered hits

-- the order by two numbers
before : ℤ → ℕ → ℤ → ℕ → Bool
before a m b n = int_lt a b || (not (int_lt b a) && nat_lt m n)

before-trans : (a : ℤ) (m : ℕ) (b : ℤ) (n : ℕ) (c : ℤ) (k : ℕ) → before a m b n ≡ true → before b n c k ≡ true → before a m c k ≡ true
unfolding before
before-trans a m b n c k ab bc = grind (arith, ints)

before-total : (a : ℤ) (m : ℕ) (b : ℤ) (n : ℕ) → before a m b n ≡ false → (n == m) ≡ false → before b n a m ≡ true
unfolding before
before-total a m b n late other = grind (arith, ints)

other-turn : (x y : Hit) → AreOther x y → AreOther y x
other-turn x y other = turn x.doc.0 y.doc.0 other where
  turn : (a b : ℕ) → (b == a) ≡ false → (a == b) ≡ false
  turn a b e = grind arith

put_in-each : (P : Hit → Type 0) (hit : Hit) (hits : List Hit) → P hit → Each P hits → Each P (put_in hit hits)
put_in-each P hit [] this each = (this, tt)
put_in-each P hit (other ∷ hits) this each =
    elim (is_before hit other) as (λ b. Each P (if b then hit ∷ other ∷ hits else other ∷ put_in hit hits)) [
      | true ↦ (this, each)
      | false ↦ (each.0, put_in-each P hit hits this each.1)
    ]

in_order-each : (P : Hit → Type 0) (hits : List Hit) → Each P hits → Each P (hits_in_order hits)
in_order-each P [] each = tt
in_order-each P (hit ∷ hits) each = put_in-each P hit (hits_in_order hits) each.0 (in_order-each P hits each.1)

-- what follows one that follows follows
follow-all : (hit other : Hit) (hits : List Hit) → is_before hit other ≡ true → Each (AreOther hit) hits → Each (Follows other) hits
    → Each (Follows hit) hits
unfolding before
follow-all hit other [] lt others each = tt
follow-all hit other (x ∷ hits) lt others each = (
  (before-trans hit.first hit.doc.0 other.first other.doc.0 x.first x.doc.0 lt each.0.0, others.0),
  follow-all hit other hits lt others.1 each.1,
)

put_in-ordered : (hit : Hit) (hits : List Hit) → Each (AreOther hit) hits → Ordered hits → Ordered (put_in hit hits)
unfolding before
put_in-ordered hit [] others order = (tt, tt)
put_in-ordered hit (other ∷ hits) others order = go (is_before hit other) refl (put_in-ordered hit hits others.1 order.1) where
  go : (b : Bool) → is_before hit other ≡ b → Ordered (put_in hit hits)
      → Ordered (if b then hit ∷ other ∷ hits else other ∷ put_in hit hits)
  go true e rest = (((e, others.0), follow-all hit other hits e others.1 order.0), order)
  go false e rest = (
    put_in-each (Follows other) hit hits
        (before-total hit.first hit.doc.0 other.first other.doc.0 e others.0, other-turn hit other others.0) order.0,
    rest,
  )

in_order-ordered : (hits : List Hit) → Others hits → Ordered (hits_in_order hits)
in_order-ordered [] others = tt
in_order-ordered (hit ∷ hits) others =
    put_in-ordered hit (hits_in_order hits) (in_order-each (AreOther hit) hits others.0) (in_order-ordered hits others.1)

-- what holds of each document's hit holds of the hits
abbrev hit_at : Doc → ℤ → Hit
hit_at doc second = record { doc = doc.num; first = second }

cons-each : (P : Hit → Type 0) (doc : Doc) (found : Option ℤ) (hits : List Hit) → ((f : ℤ) → found ≡ Some f → P (hit_at doc f))
    → Each P hits → Each P (cons_option (hit_of doc found) hits)
cons-each P doc None hits this each = each
cons-each P doc (Some f) hits this each = (this f refl, each)

found-each : (P : Hit → Type 0) (second : Doc → Option ℤ) (docs : List Doc)
    → Each (λ doc. (f : ℤ) → second doc ≡ Some f → P (hit_at doc f)) docs → Each P (filter_map (λ doc. hit_of doc (second doc)) docs)
found-each P second [] each = tt
found-each P second (doc ∷ docs) each =
    cons-each P doc (second doc) (filter_map (λ doc. hit_of doc (second doc)) docs) each.0 (found-each P second docs each.1)

found-others : (second : Doc → Option ℤ) (k : ℕ) (docs : List Doc) → Placed (λ doc. doc.num.0) k docs
    → Others (filter_map (λ doc. hit_of doc (second doc)) docs)
found-others second k [] placed = tt
found-others second k (doc ∷ docs) placed = go (second doc) (found-others second (suc k) docs placed.1) where
  later : Each (λ other. (f : ℤ) → second other ≡ Some f → AreOther (hit_at doc f) (hit_at other f)) docs
  later = each-map (λ other. suc k ≤ other.num.0) (λ other. (f : ℤ) → second other ≡ Some f → AreOther (hit_at doc f) (hit_at other f)) docs
      (λ other le f e. apart doc.num.0 other.num.0 placed.0 le) (placed-from (λ doc. doc.num.0) (suc k) docs placed.1) where
        apart : (a b : ℕ) → a ≡ k → suc k ≤ b → (b == a) ≡ false
        apart a b e le = grind arith

  go : (found : Option ℤ) → Others (filter_map (λ doc. hit_of doc (second doc)) docs)
      → Others (cons_option (hit_of doc found) (filter_map (λ doc. hit_of doc (second doc)) docs))
  go None rest = rest
  go (Some f) rest = (found-each (AreOther (hit_at doc f)) second docs later, rest)

module _ (truth : Truth) (tables : Tables) (start t : ℤ) where
  -- what is known of a second from tau on at which a document is first given
  record Fresh (tau : ℤ) (doc : Doc) (f : ℤ) : Type 0 where
    pub is : first_second truth tables doc start t ≡ Some f
    pub from : tau ≤ℤ f
    pub below : f <ℤ t
    pub there : doc.arrival ≤ℤ f

  fresh-at : (tau : ℤ) (doc : Doc) (f : ℤ) → at_least tau (first_second truth tables doc start t) ≡ Some f → Fresh tau doc f
  fresh-at tau doc f e = go (first_second truth tables doc start t) refl e where
    none : (f : ℤ) → None ≡ Some f → ⊥
    none f e = cc

    given : (g : ℤ) → first_second truth tables doc start t ≡ Some g → doc.arrival ≤ℤ g
    given g is = le_from doc.arrival g (and_parts (int_le doc.arrival g) (truth tables doc g)
        (first_from-passes (is_given truth tables doc) (int_gap start t) start g is)).0

    made : (g : ℤ) → first_second truth tables doc start t ≡ Some g → tau ≤ℤ g → g ≡ f → Fresh tau doc f
    made g is from same = subst (Fresh tau doc) same
        (record { is = is; from = from; below = (least_second-within (is_given truth tables doc) start t g is).1; there = given g is })

    go : (found : Option ℤ) → first_second truth tables doc start t ≡ found → at_least tau found ≡ Some f → Fresh tau doc f
    go None is e = absurd (none f e)
    go (Some g) is e = at (int_le tau g) refl e where
      at : (b : Bool) → int_le tau g ≡ b → (if b then Some g else None) ≡ Some f → Fresh tau doc f
      at true y e = made g is (le_from tau g y) (some-same g f e)
      at false n e = absurd (none f e)

  -- a document of this number is first given before tau, if it is at all
  abbrev IsOld : ℤ → ℕ → Type 0
  IsOld tau num = (doc : Doc) → In doc tables.docs → doc.num.0 ≡ num → (f : ℤ) → first_second truth tables doc start t ≡ Some f → f <ℤ tau

  -- so is each of the union up to tau
  union-old : (tau : ℤ) → start ≤ℤ tau → tau ≤ℤ t → Arrived 1 (pos 0) tables.docs
      → Each (λ hit. IsOld tau hit.doc.0) (union_until truth tables start tau)
  union-old tau from to arrived =
      in_order-each (λ hit. IsOld tau hit.doc.0)
      (filter_map (λ doc. hit_of doc (at_least start (first_second truth tables doc start tau))) tables.docs)
      (found-each (λ hit. IsOld tau hit.doc.0) (λ doc. at_least start (first_second truth tables doc start tau)) tables.docs (each-in
      (λ doc. (f : ℤ) → at_least start (first_second truth tables doc start tau) ≡ Some f → IsOld tau doc.num.0) tables.docs old))
    where
      found : (doc : Doc) (o : Option ℤ) → first_second truth tables doc start tau ≡ o → (g : ℤ) → at_least start o ≡ Some g
          → (h : ℤ) × (first_second truth tables doc start tau ≡ Some h)
      found doc None is g e = absurd (none g e) where
        none : (f : ℤ) → None ≡ Some f → ⊥
        none f e = cc
      found doc (Some h) is g e = (h, is)

      old : (doc : Doc) → In doc tables.docs → (g : ℤ) → at_least start (first_second truth tables doc start tau) ≡ Some g
          → IsOld tau doc.num.0
      old doc has g e other has' same f is =
          let one : other ≡ doc =
          placed-same (λ doc. doc.num.0) tables.docs other doc (docs-placed 1 (pos 0) tables.docs arrived) has' has same in
          let early = found doc (first_second truth tables doc start tau) refl g e in
          let more : first_second truth tables doc start t ≡ option_or (first_second truth tables doc start tau)
          (least_second (is_given truth tables doc) tau t) = least_second-more (is_given truth tables doc) start tau t from to in
          let both : Some early.0 ≡ Some f = sym (more ∙ ap (λ o. option_or o (least_second (is_given truth tables doc) tau t)) early.1)
          ∙ sym (ap (λ d. first_second truth tables d start t) one) ∙ is in
          subst (λ s. s <ℤ tau) (some-same early.0 f both) (least_second-within (is_given truth tables doc) start tau early.0 early.1).1

  -- so is each entry of the box
  entries-old : (tau : ℤ) (moments : List ℤ) (hits : List Hit) (run : ℕ) (ms : List ℤ) → Each (λ hit. IsOld tau hit.doc.0) hits
      → Each (λ entry. IsOld tau entry.doc.0) (entries_from moments hits run ms)
  entries-old tau moments hits run [] each = tt
  entries-old tau moments hits run (m ∷ ms) each =
      each-append (λ entry. IsOld tau entry.doc.0) (entries_of moments hits run) (entries_from moments hits (run + 1) ms)
      (each-mapped (λ entry. IsOld tau entry.doc.0) (entry_at run) (filter (λ hit. run_of hit.first moments == run) hits)
      (each-filter (λ hit. IsOld tau hit.doc.0) (λ hit. run_of hit.first moments == run) hits each))
      (entries-old tau moments hits (run + 1) ms each)

  -- the query picked no document before that it hasn't given before
  picks-old : (query : ℕ) → Arrived 1 (pos 0) tables.docs → Rising start (run_moments query tables.runs)
      → covered start query tables.runs ≤ℤ t → delivered query tables ≡ box_of truth tables start query
      → Each (λ pick. (pick.query.0 == query) ≡ true → IsOld (covered start query tables.runs) pick.doc.0) tables.picks
  picks-old query arrived rising le box =
      let tau = covered start query tables.runs in
      let from : start ≤ℤ tau = rising-le start (run_moments query tables.runs) rising in
      let all : Each (λ entry. IsOld tau entry.doc.0) (box_of truth tables start query) = entries-old tau (run_moments query tables.runs)
      (union_until truth tables start tau) 1 (run_moments query tables.runs) (union-old tau from le arrived) in
      let given : Each (λ entry. IsOld tau entry.doc.0) (delivered query tables) =
      subst (Each (λ entry. IsOld tau entry.doc.0)) (sym box) all in
      each-passed (λ pick. IsOld tau pick.doc.0) (λ pick. pick.query.0 == query)
      tables.picks (each-unmapped (λ entry. IsOld tau entry.doc.0) (picked tables.runs) (picks_of query tables.picks) given)

  -- none of some picks is the query's of this document
  abbrev Unpicked : ℕ → List Pick → ℕ → Type 0
  Unpicked query picks doc = Each (λ pick. ((pick.query.0 == query) && (pick.doc.0 == doc)) ≡ false) picks

  unpicked-fresh : (query : ℕ) (tau : ℤ) (picks : List Pick) (doc : Doc) (f : ℤ)
      → Each (λ pick. (pick.query.0 == query) ≡ true → IsOld tau pick.doc.0) picks → In doc tables.docs → Fresh tau doc f
      → Unpicked query picks doc.num.0
  unpicked-fresh query tau picks doc f old has fresh =
      each-map (λ pick. (pick.query.0 == query) ≡ true → IsOld tau pick.doc.0)
      (λ pick. ((pick.query.0 == query) && (pick.doc.0 == doc.num.0)) ≡ false) picks (λ pick o. one pick o) old
    where
      late : (f : ℤ) → tau ≤ℤ f → f <ℤ tau → ⊥
      late f from lt = omega (arith, ints)

      one : (pick : Pick) → ((pick.query.0 == query) ≡ true → IsOld tau pick.doc.0)
          → ((pick.query.0 == query) && (pick.doc.0 == doc.num.0)) ≡ false
      one pick o = go (pick.query.0 == query) (pick.doc.0 == doc.num.0) refl refl where
        go : (a b : Bool) → (pick.query.0 == query) ≡ a → (pick.doc.0 == doc.num.0) ≡ b
            → ((pick.query.0 == query) && (pick.doc.0 == doc.num.0)) ≡ false
        go false b e e' = rw e refl
        go true false e e' = rw (e, e') refl
        go true true e e' = absurd (late f fresh.from (o e doc has (sym (eqb-true pick.doc.0 doc.num.0 e')) f fresh.is))

  -- a hit that may be picked: its document has arrived by it, it is below t, and the query hasn't picked it
  record MayPick (query : ℕ) (hit : Hit) : Type 0 where
    pub doc : Doc
    pub row : row_at hit.doc.0 tables.docs ≡ Some doc
    pub there : doc.arrival ≤ℤ hit.first
    pub below : hit.first <ℤ t
    pub once : Unpicked query tables.picks hit.doc.0

  fresh-may : (query : ℕ) (tau : ℤ) → Arrived 1 (pos 0) tables.docs
      → Each (λ pick. (pick.query.0 == query) ≡ true → IsOld tau pick.doc.0) tables.picks
      → Each (MayPick query) (fresh_in truth tables start tau t)
  fresh-may query tau arrived old =
      in_order-each (MayPick query) (filter_map (λ doc. hit_of doc (at_least tau (first_second truth tables doc start t))) tables.docs)
      (found-each (MayPick query) (λ doc. at_least tau (first_second truth tables doc start t)) tables.docs (each-in (λ doc. (f : ℤ)
      → at_least tau (first_second truth tables doc start t) ≡ Some f → MayPick query (hit_at doc f)) tables.docs may))
    where
      may : (doc : Doc) → In doc tables.docs → (f : ℤ) → at_least tau (first_second truth tables doc start t) ≡ Some f
          → MayPick query (hit_at doc f)
      may doc has f e =
          let fresh = fresh-at tau doc f e in
          record {
            doc = doc;
            row = placed-row (λ doc. doc.num.0) tables.docs doc (docs-placed 1 (pos 0) tables.docs arrived) has;
            there = fresh.there;
            below = fresh.below;
            once = unpicked-fresh query tau tables.picks doc f old has fresh;
          }

fresh-ordered : (truth : Truth) (tables : Tables) (start tau t : ℤ) → Arrived 1 (pos 0) tables.docs
    → Ordered (fresh_in truth tables start tau t)
fresh-ordered truth tables start tau t arrived =
    in_order-ordered (filter_map (λ doc. hit_of doc (at_least tau (first_second truth tables doc start t))) tables.docs)
    (found-others (λ doc. at_least tau (first_second truth tables doc start t)) 1 tables.docs (docs-placed 1 (pos 0) tables.docs arrived))

-- the picks stand one after another
abbrev Behind : ℕ → List Hit → Option Pick → Type 0
Behind run hits None = Unit {0}
Behind run hits (Some before) = (before.run < run)
    ⊎ ((before.run ≡ run) × Each (λ hit. is_before (record { doc = before.doc; first = before.first }) hit ≡ true) hits)

abbrev pick_of : ℕ → QueryNum → ℕ → Hit → Pick
pick_of num query run hit = record { num = num; query = query; run = run; doc = hit.doc; first = hit.first }

comes : (num : ℕ) (query : QueryNum) (run : ℕ) (hit : Hit) (hits : List Hit) (before : Option Pick) → Behind run (hit ∷ hits) before
    → comes_after before (pick_of num query run hit) ≡ true
comes num query run hit hits None behind = refl
comes num query run hit hits (Some b) (inl lt) = rw (less b.run run lt) refl where
  less : (a b : ℕ) → a < b → nat_lt a b ≡ true
  less a b lt = grind arith
comes num query run hit hits (Some b) (inr same) = two b.run run b.first hit.first b.doc.0 hit.doc.0 same.0 same.1.0 where
  two : (r s : ℕ) (f g : ℤ) (d e : ℕ) → r ≡ s → (int_lt f g || (not (int_lt g f) && nat_lt d e)) ≡ true
      → (nat_lt r s || ((r == s) && (int_lt f g || (int_le f g && nat_lt d e)))) ≡ true
  two r s f g d e is lt = grind (arith, ints)

module _ (truth : Truth) (tables : Tables) (start t : ℤ) (run : RunRow) (runs : List RunRow) (query : QueryNum) where
  -- one more pick of the run
  picks-run : row_at run.num runs ≡ Some run → run.query.0 ≡ query.0 → run.moment ≡ t
      → (earlier : List Pick) (num : ℕ) (before : Option Pick) (hits : List Hit)
      → Each (MayPick truth tables start t query.0) hits → Each (λ hit. Unpicked truth tables start t query.0 earlier hit.doc.0) hits
      → Ordered hits → Behind run.num hits before
      → picks_stand runs tables.docs earlier num before (pick_rows num query run.num hits) ≡ true
  picks-run row of at earlier num before [] may once order behind = refl
  picks-run row of at earlier num before (hit ∷ hits) may once order behind =
      let pick = pick_of num query run.num hit in
      let more : Each (λ other. Unpicked truth tables start t query.0 (earlier ++ pick ∷ []) other.doc.0) hits =
      onward hits once.1 order.0 in
      let next : Behind run.num hits (Some pick) =
      inr (refl, each-map (Follows hit) (λ other. is_before hit other ≡ true) hits (λ other f. f.0) order.0) in
      and_from _ _ (and_from _ _ (and_from _ _ (and_from _ _ (same-num num) stands) new) (comes num query run.num hit hits before behind))
      (picks-run row of at (earlier ++ pick ∷ []) (num + 1) (Some pick) hits may.1 more order.1 next)
    where
      onward : (others : List Hit) → Each (λ other. Unpicked truth tables start t query.0 earlier other.doc.0) others
          → Each (Follows hit) others
          → Each (λ other. Unpicked truth tables start t query.0 (earlier ++ pick_of num query run.num hit ∷ []) other.doc.0) others
      onward [] each follow = tt
      onward (other ∷ others) each follow = (
        each-append (λ pick. ((pick.query.0 == query.0) && (pick.doc.0 == other.doc.0)) ≡ false) earlier (pick_of num query run.num hit
            ∷ []) each.0 (differs (query.0 == query.0) (hit.doc.0 == other.doc.0) (turn hit.doc.0 other.doc.0 follow.0.1), tt),
        onward others each.1 follow.1,
      ) where
        turn : (a b : ℕ) → (b == a) ≡ false → (a == b) ≡ false
        turn a b e = grind arith

        differs : (a b : Bool) → b ≡ false → (a && b) ≡ false
        differs true b e = e
        differs false b e = refl

      stands : is_picked (pick_of num query run.num hit) (row_at run.num runs) (row_at hit.doc.0 tables.docs) ≡ true
      stands = rw (row, may.0.row) (and_from _ _
          (and_from _ _ (is run.query.0 query.0 of) (lt_yes hit.first run.moment (subst (λ z. hit.first <ℤ z) (sym at) may.0.below)))
          (le_yes may.0.doc.arrival hit.first may.0.there)) where
            is : (a b : ℕ) → a ≡ b → (a == b) ≡ true
            is a b e = grind arith

      new : not (list_any (λ other. (other.query.0 == query.0) && (other.doc.0 == hit.doc.0)) earlier) ≡ true
      new = ap not (none-any (λ other. (other.query.0 == query.0) && (other.doc.0 == hit.doc.0)) earlier once.0)

-- the last pick is of an earlier run
runs-below : (k query num : ℕ) (runs : List RunRow) → RunsFrom k runs → HasRun num query runs → num < k + length runs
runs-below k query num [] from has = absurd has
runs-below k query num (run ∷ runs) from (inl e) = omega (arith, e.0, from.0)
runs-below k query num (run ∷ runs) from (inr has) = let rest = runs-below (suc k) query num runs from.1 has in omega (arith, rest)

last-behind : (runs : List RunRow) (picks : List Pick) (hits : List Hit) → RunsFrom 1 runs
    → Each (λ pick. HasRun pick.run pick.query.0 runs) picks → Behind (length runs + 1) hits (last_row picks)
last-behind runs picks hits from each = go (last_row picks) refl where
  go : (o : Option Pick) → last_row picks ≡ o → Behind (length runs + 1) hits o
  go None is = tt
  go (Some pick) is =
      let lt = runs-below 1 pick.query.0 pick.run runs from
      (each-row (λ pick. HasRun pick.run pick.query.0 runs) picks (length picks) pick each is) in
      inl (omega (arith, lt))

-- the rows of a run of a query that is there, at a moment that no row is after, stand in order behind those of the tables
pub run-fits : (truth : QueryRow → Truth) (start : QueryRow → ℤ) (t : ℤ) (tables : Tables) (query : QueryRow) → IsKept truth start tables
    → IsBy start t tables → pos 0 ≤ℤ t → t ≤ℤ pos LAST_MOMENT → In query tables.queries
    → fits tables (run_change (truth query) (start query) tables query.num t) ≡ true
run-fits truth start t tables query kept
    by positive last has = and_from _ _ (and_from _ _ (and_from _ _ (same-num (length tables.runs + 1)) follows) defined) picks where
      run : RunRow
      run = next_run tables query.num t

      starts : (query.arrival ≤ℤ t) × (start query ≤ℤ t)
      starts = in-each (λ query. (query.arrival ≤ℤ t) × (start query ≤ℤ t)) tables.queries query has by.queries

      follows : may_follow (low_of (λ run. run.moment) tables.runs) t ≡ true
      follows = and_from _ _ (le_yes (low_of (λ run. run.moment) tables.runs) t (low-by (λ run. run.moment) t tables.runs positive by.runs))
          (le_yes t (pos LAST_MOMENT) last)

      defined : was_defined tables.queries query.num.0 t ≡ true
      defined = rw (placed-row (λ query. query.num.0) tables.queries query (queries-placed 1 tables.queries kept.queries) has)
          (le_yes query.arrival t starts.0)

      this : IsKeptQuery truth start tables query
      this = in-each (IsKeptQuery truth start tables) tables.queries query has kept.each

      picks : picks_stand (tables.runs ++ run ∷ []) tables.docs tables.picks (length tables.picks + 1) (last_row tables.picks)
          (pick_rows (length tables.picks + 1) query.num run.num (run_hits (truth query) (start query) tables query.num.0 t)) ≡ true
      picks =
          let tau = covered (start query) query.num.0 tables.runs in
          let hits = fresh_in (truth query) tables (start query) tau t in
          let old = picks-old (truth query) tables (start query) t query.num.0 kept.docs this.rising le this.box in
          let may = fresh-may (truth query) tables (start query) t query.num.0 tau kept.docs old in
          picks-run (truth query) tables (start query) t run (tables.runs ++ run ∷ []) query.num (row-last tables.runs run) refl refl
          tables.picks (length tables.picks + 1) (last_row tables.picks) hits may
          (each-map (MayPick (truth query) tables (start query) t query.num.0)
          (λ hit. Unpicked (truth query) tables (start query) t query.num.0 tables.picks hit.doc.0) hits (λ hit m. m.once) may)
          (fresh-ordered (truth query) tables (start query) tau t kept.docs)
          (last-behind tables.runs tables.picks hits kept.runs kept.picks)
        where
          le : covered (start query) query.num.0 tables.runs ≤ℤ t
          le = last-by (start query) t (run_moments query.num.0 tables.runs)
              starts.1 (each-mapped (λ m. m ≤ℤ t) (λ run. run.moment) (runs_of query.num.0 tables.runs)
              (each-filter (λ run. run.moment ≤ℤ t) (λ run. run.query.0 == query.num.0) tables.runs by.runs))
