-- What a run of a plan keeps, and what it costs.
use Rattle.std.proofs.Common.{◌≡◌, ℕ, zero, suc, ◌+◌, ◌-◌, ◌<◌, ◌≤◌, true, List, [], ◌∷◌, Some, length, refl, sym, ap, ◌∙◌, subst, inl, inr}
use Rattle.std.proofs.Common.{arith}
use Rattle.std.specs.Prelude.{nat_lt, nat_le, slice_get, if◌then◌else◌}
use Rattle.tap_base.specs.declared.numbers.DocNum.{DocNum}
use Rattle.tap_rows.specs.declared.rows.Doc.{Doc}
use Rattle.tap_rows.specs.declared.tables.Tables.{Tables}
use Rattle.tap_rows.specs.declared.results.Hit.{Hit}
use Rattle.tap_rows.specs.declared.results.Entry.{Entry}
use Rattle.tap_rows.specs.Kept.{In}
use Rattle.row_index.specs.Orders.{Numbered, doc_number}
use Rattle.time_marks.specs.declared.ranged_query.RangedQuery.{RangedQuery}
use Rattle.time_marks.specs.declared.window.Window.{Window}
use Rattle.time_marks.specs.Found.{Distinct}
use Rattle.time_marks.specs.Probes.{Probe}
use Rattle.time_marks.specs.Views.{ranged_probes}
use Rattle.query_eval.specs.Lowest.{with_lowered, lowest, has_place, with_hit, keeping}
use Rattle.query_eval.specs.Placed.{IsPlaced}
use Rattle.probe_eval.specs.Work.{total}
use Rattle.probe_eval.specs.Runs.{query_hits, HasValidProbes, HasNoMark, PathIsDocument, rows_due}
use Rattle.query_eval.specs.Driven.{parts_cost, run_cost}
use Rattle.query_eval.proofs.TurnCosts.{run_less, run_stored}
use Rattle.probe_eval.proofs.Members.{no_more}
use Rattle.probe_eval.proofs.Founds.{query_found}
use Rattle.probe_eval.proofs.QueryCosts.{query_quiet, query_due}
use Rattle.probe_eval.proofs.Steps.{get_in}

-- hits whose documents all have places are stored as by the lowering alone
all_placed : (n : ℕ) (ks hs : List Hit) → ((h : Hit) → In h hs → has_place n h.doc.0 ≡ true) → keeping n ks hs ≡ lowest ks hs
all_placed n ks [] f = refl
all_placed n ks (h ∷ hs) f =
    let e : with_hit n ks h ≡ with_lowered ks h = ap (λ b. if b then with_lowered ks h else ks) (f h (inl refl)) in
    ap (λ z. keeping n z hs) e ∙ all_placed n (with_lowered ks h) hs (λ x i. f x (inr i))

number_within : (n : ℕ) (docs : List Doc) (d : Doc) → Numbered doc_number n docs → In d docs → (n ≤ d.num.0) × (d.num.0 < n + length docs)
number_within n [] d h i = absurd i
number_within n (x ∷ xs) d h (inl e) =
    let q : d.num.0 ≡ n = ap (λ (z : Doc). z.num.0) e ∙ h.0 in
    (omega (arith, q), omega (arith, q))
number_within n (x ∷ xs) d h (inr i) =
    let k = number_within (n + 1) xs d h.1 i in
    (omega (arith, k.0), omega (arith, k.1))

module _ (q : RangedQuery) (entries : List Entry) (T : Tables) (w : Window) (n : ℕ) (ps : HasValidProbes q)
    (num : Numbered doc_number 1 T.docs) (room : length T.docs ≤ n) where
  place : (doc : ℕ) → (1 ≤ doc) × (doc < 1 + length T.docs) → has_place n doc ≡ true
  place doc b =
      let l : nat_lt 0 doc ≡ true = low doc b.0 in
      let h : nat_le doc n ≡ true = high doc b.1 in
      rw (l, h) refl
    where
      low : (doc : ℕ) → 1 ≤ doc → nat_lt 0 doc ≡ true
      low doc h = grind arith

      high : (doc : ℕ) → doc < 1 + length T.docs → nat_le doc n ≡ true
      high doc h = le doc (omega (arith, h, room))
        where
          le : (doc : ℕ) → doc ≤ n → nat_le doc n ≡ true
          le doc h = grind arith

  -- the documents that a plan finds have places
  placed : (h : Hit) → In h (query_hits entries T w q) → has_place n h.doc.0 ≡ true
  placed h i =
      let f = (query_found q ps entries T w).sound h i in
      place h.doc.0 (subst (λ (z : DocNum). (1 ≤ z.0) × (z.0 < 1 + length T.docs)) (sym f.num) (number_within 1 T.docs f.doc num f.is_row))

  -- so they are stored
  pub hits_kept : (ks now : List Hit) → ks ≡ [] → now ≡ keeping n ks (query_hits entries T w q) → now ≡ lowest [] (query_hits entries T w q)
  hits_kept ks now none k = k ∙ ap (λ z. keeping n z (query_hits entries T w q)) none ∙ all_placed n [] (query_hits entries T w q) placed

  -- the steps that were taken are those of the run
  pub taken_run : (old now : ℕ) (ks : List Hit) → ks ≡ [] → now ≤ old + parts_cost (keeping n) entries T w q.pool ks q.parts
      → now ≤ old + run_cost entries T w q
  taken_run old now ks none h = let k = run_stored entries T w n q ks none placed in omega (arith, h, k)

-- the numbers below one
abbrev below : ℕ → List ℕ
below zero = []
below (suc n) = n ∷ below n

below_length : (n : ℕ) → length (below n) ≡ n
below_length zero = refl
below_length (suc n) = ap suc (below_length n)

below_is : (n k : ℕ) → In k (below n) → k < n
below_is zero k i = absurd i
below_is (suc n) k (inl e) = omega (arith, e)
below_is (suc n) k (inr i) = let h = below_is n k i in omega (arith, h)

below_distinct : (n : ℕ) → Distinct (below n)
below_distinct zero = tt
below_distinct (suc n) = ((λ i. let h = below_is n n i in omega (arith, h)), below_distinct n)

get_some : {A : Type 0} (xs : List A) (j : ℕ) → j < length xs → (x : A) × (slice_get xs j ≡ Some x)
get_some [] j h = absurd (omega (arith, h))
get_some (y ∷ ys) zero h = (y, refl)
get_some (y ∷ ys) (suc j) h = get_some ys j (less j (length ys) h)
  where
    less : (j l : ℕ) → suc j < suc l → j < l
    less j l h = omega (arith, h)

-- there are no more hits than places
pub placed_fit : (hs : List Hit) (ps : List ℕ) → IsPlaced hs ps → length hs ≤ length ps
placed_fit hs ps h =
    let l = below_length (length hs) in
    let r = no_more (below (length hs)) ps (below_distinct (length hs)) (λ k i. there k (below_is (length hs) k i)) in
    omega (arith, l, r)
  where
    there : (k : ℕ) → k < length hs → In k ps
    there k l = let x = get_some hs k l in let e = h k x.0 x.1 in get_in ps (x.0.doc.0 - 1) k e.2

module _ (q : RangedQuery) (ps : HasValidProbes q) (entries : List Entry) (T : Tables) (w : Window) where
  pub taken_quiet : (old now : ℕ) → now ≤ old + run_cost entries T w q → old ≤ now
      → ((p : Probe) → In p (ranged_probes q) → HasNoMark T w p) → now ≡ old
  taken_quiet old now h k quiet = let r = run_less entries T w q in let z = query_quiet q ps entries T w quiet in omega (arith, h, k, r, z)

  pub taken_due : (old now : ℕ) → now ≤ old + run_cost entries T w q → ((p : Probe) → In p (ranged_probes q) → PathIsDocument p)
      → now ≤ old + total (rows_due T w) (ranged_probes q)
  taken_due old now h alone = let r = run_less entries T w q in let z = query_due q ps entries T w alone in omega (arith, h, r, z)
