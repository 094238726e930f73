-- A document that was found stays so as more hits are stored.
use Rattle.std.proofs.Common.{◌≡◌, ◌+◌, ◌≤◌, ◌||◌, ℕ, ℤ, Bool, true, false, Some, None, List, [], ◌∷◌, ◌++◌, refl, sym, ap, ◌∙◌, subst, inl}
use Rattle.std.proofs.Common.{inr, arith, nat_eq, if◌then◌else◌}
use Rattle.std.specs.Prelude.{◌&&◌, ◌⊎◌, int_le}
use Rattle.std.proofs.lemmas.Bool.{cases_Bool, and_parts, eqb-true, false≢true, or_left, or_right, or_cases, and_from}
use Rattle.tap_base.specs.declared.numbers.DocNum.{DocNum}
use Rattle.tap_rows.specs.declared.rows.Doc.{Doc}
use Rattle.tap_rows.specs.declared.results.Hit.{Hit}
use Rattle.tap_rows.specs.declared.results.Entry.{Entry}
use Rattle.tap_rows.specs.Kept.{In}
use Rattle.tap_rows.proofs.Tests.{le_after}
use Rattle.probe_eval.specs.Nested.{was_seen, new_doc}
use Rattle.query_eval.specs.Lowest.{lower, with_lowered, has_place, with_hit, keeping, has_lower}
use Rattle.query_eval.specs.Driven.{is_settled}
use Rattle.query_eval.proofs.StableHits.{at_same, at_other, with_place, without_place}
use Rattle.query_eval.proofs.Lows.{lower_doc, lower_first, lower_other}

-- the hit is one of the document, and no later
abbrev is_lower : Hit → Hit → Bool
is_lower x h = nat_eq x.doc.0 h.doc.0 && int_le x.first h.first

same_number : (n m k : ℕ) → nat_eq n m ≡ true → nat_eq n k ≡ true → nat_eq m k ≡ true
same_number n m k h q = subst (λ z. nat_eq z k ≡ true) (eqb-true n m h) q

-- lowering keeps what was no later
lower_stays : (x g h : Hit) → nat_eq x.doc.0 g.doc.0 ≡ true → is_lower x h ≡ true → is_lower (lower x g) h ≡ true
lower_stays x g h q e =
    let k = and_parts (nat_eq x.doc.0 h.doc.0) (int_le x.first h.first) e in
    let d = lower_doc x g (eqb-true x.doc.0 g.doc.0 q) in
    and_from (nat_eq (lower x g).doc.0 h.doc.0) (int_le (lower x g).first h.first)
    (subst (λ n. nat_eq n h.doc.0 ≡ true) (sym d) k.0) (le_after (lower x g).first x.first h.first (lower_first x g) k.1)

-- and takes in the hit by which it lowers
lower_takes : (x g h : Hit) → nat_eq x.doc.0 g.doc.0 ≡ true → is_lower g h ≡ true → is_lower (lower x g) h ≡ true
lower_takes x g h q e =
    let k = and_parts (nat_eq g.doc.0 h.doc.0) (int_le g.first h.first) e in
    let d = lower_doc x g (eqb-true x.doc.0 g.doc.0 q) in
    let n : nat_eq x.doc.0 h.doc.0 ≡ true = subst (λ z. nat_eq z h.doc.0 ≡ true) (sym (eqb-true x.doc.0 g.doc.0 q)) k.0 in
    and_from (nat_eq (lower x g).doc.0 h.doc.0) (int_le (lower x g).first h.first)
    (subst (λ z. nat_eq z h.doc.0 ≡ true) (sym d) n) (le_after (lower x g).first g.first h.first (lower_other x g) k.1)

lowered_found : (xs : List Hit) (g h : Hit) → has_lower xs h ≡ true → has_lower (with_lowered xs g) h ≡ true
lowered_found [] g h e = absurd (false≢true e)
lowered_found (x ∷ xs) g h e = elim (cases_Bool (nat_eq x.doc.0 g.doc.0)) [
  | inl q ↦
      subst (λ zs. has_lower zs h ≡ true) (sym (at_same x xs g q))
      (elim (or_cases (is_lower x h) (has_lower xs h) e) [
        | inl l ↦ or_left (is_lower (lower x g) h) (has_lower xs h) (lower_stays x g h q l)
        | inr l ↦ or_right (is_lower (lower x g) h) (has_lower xs h) l
      ])
  | inr q ↦
      subst (λ zs. has_lower zs h ≡ true) (sym (at_other x xs g q))
      (elim (or_cases (is_lower x h) (has_lower xs h) e) [
        | inl l ↦ or_left (is_lower x h) (has_lower (with_lowered xs g) h) l
        | inr l ↦ or_right (is_lower x h) (has_lower (with_lowered xs g) h) (lowered_found xs g h l)
      ])
]

lowered_takes : (xs : List Hit) (g h : Hit) → is_lower g h ≡ true → has_lower (with_lowered xs g) h ≡ true
lowered_takes [] g h e = or_left (is_lower g h) false e
lowered_takes (x ∷ xs) g h e = elim (cases_Bool (nat_eq x.doc.0 g.doc.0)) [
  | inl q ↦ subst (λ zs. has_lower zs h ≡ true) (sym (at_same x xs g q))
      (or_left (is_lower (lower x g) h) (has_lower xs h) (lower_takes x g h q e))
  | inr q ↦ subst (λ zs. has_lower zs h ≡ true) (sym (at_other x xs g q))
      (or_right (is_lower x h) (has_lower (with_lowered xs g) h) (lowered_takes xs g h e))
]

module _ (n : ℕ) where
  with_found : (kept : List Hit) (g h : Hit) → has_lower kept h ≡ true → has_lower (with_hit n kept g) h ≡ true
  with_found kept g h e = elim (cases_Bool (has_place n g.doc.0)) [
    | inl p ↦ subst (λ zs. has_lower zs h ≡ true) (sym (with_place n kept g p)) (lowered_found kept g h e)
    | inr p ↦ subst (λ zs. has_lower zs h ≡ true) (sym (without_place n kept g p)) e
  ]

  pub keeping_found : (kept hs : List Hit) (h : Hit) → has_lower kept h ≡ true → has_lower (keeping n kept hs) h ≡ true
  keeping_found kept [] h e = e
  keeping_found kept (g ∷ hs) h e = keeping_found (with_hit n kept g) hs h (with_found kept g h e)

  -- hits whose documents have places are found once they are stored
  pub keeping_takes : (kept hs : List Hit) (h : Hit) → ((x : Hit) → In x hs → has_place n x.doc.0 ≡ true) → has_lower hs h ≡ true
      → has_lower (keeping n kept hs) h ≡ true
  keeping_takes kept [] h p e = absurd (false≢true e)
  keeping_takes kept (g ∷ hs) h p e = elim (or_cases (is_lower g h) (has_lower hs h) e) [
    | inl l ↦ keeping_found (with_hit n kept g) hs h
        (subst (λ zs. has_lower zs h ≡ true) (sym (with_place n kept g (p g (inl refl)))) (lowered_takes kept g h l))
    | inr l ↦ keeping_takes (with_hit n kept g) hs h (λ x i. p x (inr i)) l
  ]

found_either : (found hs : List Hit) (h : Hit) → has_lower (found ++ hs) h ≡ true → (has_lower found h ≡ true) ⊎ (has_lower hs h ≡ true)
found_either [] hs h e = inr e
found_either (x ∷ xs) hs h e = elim (or_cases (is_lower x h) (has_lower (xs ++ hs) h) e) [
  | inl l ↦ inl (or_left (is_lower x h) (has_lower xs h) l)
  | inr l ↦ elim (found_either xs hs h l) [
    | inl k ↦ inl (or_right (is_lower x h) (has_lower xs h) k)
    | inr k ↦ inr k
  ]
]

-- what was found is found among what is stored
abbrev pub IsStored : List Hit → List Hit → Type 0
IsStored found kept = (h : Hit) → has_lower found h ≡ true → has_lower kept h ≡ true

pub stored_more : (n : ℕ) (found kept hs : List Hit) → IsStored found kept → ((x : Hit) → In x hs → has_place n x.doc.0 ≡ true)
    → IsStored (found ++ hs) (keeping n kept hs)
stored_more n found kept hs s p h e = elim (found_either found hs h e) [
  | inl k ↦ keeping_found n kept hs h (s h k)
  | inr k ↦ keeping_takes n kept hs h p k
]

module _ (entries : List Entry) where
  pub settled_by : (found kept : List Hit) → IsStored found kept → (b : ℤ) (d : Doc) → is_settled entries found b d ≡ true
      → is_settled entries kept b d ≡ true
  settled_by found kept s b d e = elim (or_cases (was_seen entries d) (has_lower found (record { doc = d.num; first = b })) e) [
    | inl l ↦ or_left (was_seen entries d) (has_lower kept (record { doc = d.num; first = b })) l
    | inr l ↦ or_right (was_seen entries d) (has_lower kept (record { doc = d.num; first = b })) (s (record { doc = d.num; first = b }) l)
  ]

  -- a settled document stays so
  pub settled_stays : (n : ℕ) (kept now hs : List Hit) → now ≡ keeping n kept hs → (b : ℤ) (d : Doc) → is_settled entries kept b d ≡ true
      → is_settled entries now b d ≡ true
  settled_stays n kept now hs q b d e =
      subst (λ zs. is_settled entries zs b d ≡ true) (sym q)
      (settled_by kept (keeping n kept hs) (λ h k. keeping_found n kept hs h k) b d e)

  pub seen_settled : (found : List Hit) (b : ℤ) (d : Doc) → was_seen entries d ≡ true → is_settled entries found b d ≡ true
  seen_settled found b d e = or_left (was_seen entries d) (has_lower found (record { doc = d.num; first = b })) e

  -- one that isn't in the box is settled if and only if it was found
  pub new_settled : (found : List Hit) (b : ℤ) (d : Doc) (num : DocNum) → Some num ≡ new_doc entries d
      → is_settled entries found b d ≡ has_lower found (record { doc = num; first = b })
  new_settled found b d num e = elim (cases_Bool (was_seen entries d)) [
    | inl s ↦
        let none : new_doc entries d ≡ None = rw s refl in
        absurd (some_none (e ∙ none))
    | inr s ↦
        let some : new_doc entries d ≡ Some d.num = rw s refl in
        ap (λ c. c || has_lower found (record { doc = d.num; first = b })) s
        ∙ ap (λ z. has_lower found (record { doc = z; first = b })) (sym (same (e ∙ some)))
  ]
    where
      some_none : {x : DocNum} → Some x ≡ None → ⊥
      some_none q = cc

      same : {x y : DocNum} → Some x ≡ Some y → x ≡ y
      same q = cc

pub not_found : (found result : Bool) → (found ≡ true → result ≡ true) → result ≡ false → found ≡ false
not_found true result h e = absurd (false≢true (sym e ∙ h refl))
not_found false result h e = refl

-- the steps for a document that isn't settled
pub not_settled : (found : Bool) (s now cost : ℕ) → found ≡ false → now ≤ s + cost → now ≤ s + (if found then 0 else cost)
not_settled found s now cost e h = rw e h

-- fewer documents are passed over than are settled
pub settled_less : (passed settled : Bool) (s now cost : ℕ) → (passed ≡ true → settled ≡ true) → now ≤ s + (if settled then 0 else cost)
    → now ≤ s + (if passed then 0 else cost)
settled_less true settled s now cost h k = let m : now ≤ s + 0 = rw (h refl) at k in omega (arith, m)
settled_less false true s now cost h k = omega (arith, k)
settled_less false false s now cost h k = k
