-- A hit that changes nothing changes nothing later either: neither after other hits, nor with a later mark.
use Rattle.std.proofs.Common.{◌≡◌, ℕ, ℤ, Bool, true, false, Option, Some, None, List, [], ◌∷◌, refl, sym, ap, ◌∙◌, subst, inl, inr, arith}
use Rattle.std.proofs.Common.{nat_eq}
use Rattle.std.specs.Prelude.{◌≤ℤ◌, int_le, option_to_list}
use Rattle.std.proofs.lemmas.Int.{ints}
use Rattle.std.proofs.lemmas.Bool.{cases_Bool, eqb-true}
use Rattle.tap_base.specs.declared.numbers.DocNum.{DocNum}
use Rattle.tap_rows.specs.declared.rows.Doc.{Doc}
use Rattle.tap_rows.specs.declared.results.Hit.{Hit}
use Rattle.tap_rows.specs.declared.results.Entry.{Entry}
use Rattle.tap_rows.proofs.Tests.{le_itself, le_after, le_yes}
use Rattle.little_box.specs.Boxes.{is_in}
use Rattle.probe_eval.specs.Nested.{hit_if, new_doc}
use Rattle.query_eval.specs.Lowest.{lower, with_lowered, has_place, with_hit, keeping}
use Rattle.query_eval.specs.Fronts.{IsDone}
use Rattle.query_eval.proofs.HitSteps.{left_out}
use Rattle.query_eval.proofs.Lows.{lower_doc, lower_first}

-- if lowering by a hit changes nothing, that hit is no earlier
unchanged_le : (x h : Hit) → lower x h ≡ x → int_le x.first h.first ≡ true
unchanged_le x h e = elim (cases_Bool (int_le x.first h.first)) [
  | inl l ↦ l
  | inr l ↦
      let k : lower x h ≡ h = rw l refl in
      subst (λ (y : Hit). int_le x.first y.first ≡ true) (sym e ∙ k) (le_itself x.first)
]

pub at_same : (x : Hit) (xs : List Hit) (g : Hit) → nat_eq x.doc.0 g.doc.0 ≡ true → with_lowered (x ∷ xs) g ≡ lower x g ∷ xs
at_same x xs g q = rw q refl

pub at_other : (x : Hit) (xs : List Hit) (g : Hit) → nat_eq x.doc.0 g.doc.0 ≡ false → with_lowered (x ∷ xs) g ≡ x ∷ with_lowered xs g
at_other x xs g q = rw q refl

head_is : (x y : Hit) (xs ys : List Hit) → x ∷ xs ≡ y ∷ ys → x ≡ y
head_is x y xs ys e = cc

tail_is : (x y : Hit) (xs ys : List Hit) → x ∷ xs ≡ y ∷ ys → xs ≡ ys
tail_is x y xs ys e = cc

stays_head : (y : Hit) (xs : List Hit) (h : Hit) → nat_eq y.doc.0 h.doc.0 ≡ true → int_le y.first h.first ≡ true
    → with_lowered (y ∷ xs) h ≡ y ∷ xs
stays_head y xs h q l =
    let low : lower y h ≡ y = rw l refl in
    at_same y xs h q ∙ ap (λ z. z ∷ xs) low

stays_tail : (y : Hit) (xs : List Hit) (h : Hit) → nat_eq y.doc.0 h.doc.0 ≡ false → with_lowered xs h ≡ xs
    → with_lowered (y ∷ xs) h ≡ y ∷ xs
stays_tail y xs h q e = at_other y xs h q ∙ ap (λ zs. y ∷ zs) e

-- a later hit of the document changes nothing either
pub lowered_later : (xs : List Hit) (h g : Hit) → h.doc.0 ≡ g.doc.0 → int_le h.first g.first ≡ true → with_lowered xs h ≡ xs
    → with_lowered xs g ≡ xs
lowered_later [] h g d l e = absurd cc
lowered_later (x ∷ xs) h g d l e = elim (cases_Bool (nat_eq x.doc.0 h.doc.0)) [
  | inl q ↦
      let low : lower x h ≡ x = head_is (lower x h) x xs xs (sym (at_same x xs h q) ∙ e) in
      stays_head x xs g (subst (λ k. nat_eq x.doc.0 k ≡ true) d q) (le_after x.first h.first g.first (unchanged_le x h low) l)
  | inr q ↦
      let rest : with_lowered xs h ≡ xs = tail_is x x (with_lowered xs h) xs (sym (at_other x xs h q) ∙ e) in
      stays_tail x xs g (subst (λ k. nat_eq x.doc.0 k ≡ false) d q) (lowered_later xs h g d l rest)
]

-- nor does it after another hit was stored
pub lowered_stays : (xs : List Hit) (h g : Hit) → with_lowered xs h ≡ xs → with_lowered (with_lowered xs g) h ≡ with_lowered xs g
lowered_stays [] h g e = absurd cc
lowered_stays (x ∷ xs) h g e = elim (cases_Bool (nat_eq x.doc.0 h.doc.0)) [
  | inl q ↦
      let low : lower x h ≡ x = head_is (lower x h) x xs xs (sym (at_same x xs h q) ∙ e) in
      let l = unchanged_le x h low in
      elim (cases_Bool (nat_eq x.doc.0 g.doc.0)) [
        | inl r ↦
            let d = lower_doc x g (eqb-true x.doc.0 g.doc.0 r) in
            subst (λ zs. with_lowered zs h ≡ zs) (sym (at_same x xs g r))
            (stays_head (lower x g) xs h (subst (λ k. nat_eq k h.doc.0 ≡ true) (sym d) q)
            (le_after (lower x g).first x.first h.first (lower_first x g) l))
        | inr r ↦ subst (λ zs. with_lowered zs h ≡ zs) (sym (at_other x xs g r)) (stays_head x (with_lowered xs g) h q l)
      ]
  | inr q ↦
      let rest : with_lowered xs h ≡ xs = tail_is x x (with_lowered xs h) xs (sym (at_other x xs h q) ∙ e) in
      elim (cases_Bool (nat_eq x.doc.0 g.doc.0)) [
        | inl r ↦
            let d = lower_doc x g (eqb-true x.doc.0 g.doc.0 r) in
            subst (λ zs. with_lowered zs h ≡ zs) (sym (at_same x xs g r))
            (stays_tail (lower x g) xs h (subst (λ k. nat_eq k h.doc.0 ≡ false) (sym d) q) rest)
        | inr r ↦
            subst (λ zs. with_lowered zs h ≡ zs) (sym (at_other x xs g r))
            (stays_tail x (with_lowered xs g) h q (lowered_stays xs h g rest))
      ]
]

pub with_place : (n : ℕ) (kept : List Hit) (h : Hit) → has_place n h.doc.0 ≡ true → with_hit n kept h ≡ with_lowered kept h
with_place n kept h p = rw p refl

pub without_place : (n : ℕ) (kept : List Hit) (h : Hit) → has_place n h.doc.0 ≡ false → with_hit n kept h ≡ kept
without_place n kept h p = rw p refl

pub hit_later : (n : ℕ) (kept : List Hit) (h g : Hit) → h.doc.0 ≡ g.doc.0 → int_le h.first g.first ≡ true → with_hit n kept h ≡ kept
    → with_hit n kept g ≡ kept
hit_later n kept h g d l e = elim (cases_Bool (has_place n h.doc.0)) [
  | inl p ↦ with_place n kept g (subst (λ k. has_place n k ≡ true) d p) ∙ lowered_later kept h g d l (sym (with_place n kept h p) ∙ e)
  | inr p ↦ without_place n kept g (subst (λ k. has_place n k ≡ false) d p)
]

hit_stays : (n : ℕ) (kept : List Hit) (h g : Hit) → with_hit n kept h ≡ kept → with_hit n (with_hit n kept g) h ≡ with_hit n kept g
hit_stays n kept h g e = elim (cases_Bool (has_place n h.doc.0)) [
  | inl p ↦
      elim (cases_Bool (has_place n g.doc.0)) [
        | inl q ↦
            subst (λ zs. with_hit n zs h ≡ zs) (sym (with_place n kept g q))
            (with_place n (with_lowered kept g) h p ∙ lowered_stays kept h g (sym (with_place n kept h p) ∙ e))
        | inr q ↦ subst (λ zs. with_hit n zs h ≡ zs) (sym (without_place n kept g q)) e
      ]
  | inr p ↦ without_place n (with_hit n kept g) h p
]

keeping_stays : (n : ℕ) (kept : List Hit) (h : Hit) (hs : List Hit) → with_hit n kept h ≡ kept
    → with_hit n (keeping n kept hs) h ≡ keeping n kept hs
keeping_stays n kept h [] e = e
keeping_stays n kept h (g ∷ hs) e = keeping_stays n (with_hit n kept g) h hs (hit_stays n kept h g e)

one_stays : (n : ℕ) (kept : List Hit) (o : Option Hit) (hs : List Hit) → kept ≡ keeping n kept (option_to_list o)
    → keeping n kept hs ≡ keeping n (keeping n kept hs) (option_to_list o)
one_stays n kept None hs e = refl
one_stays n kept (Some h) hs e = sym (keeping_stays n kept h hs (sym e))

module _ (entries : List Entry) (n : ℕ) where
  -- a document that is done stays so
  pub done_stays : (kept : List Hit) (b : ℤ) (d : Doc) (hs : List Hit) → IsDone entries n kept b d
      → IsDone entries n (keeping n kept hs) b d
  done_stays kept b d hs i = record {
    same = λ mark passed l. one_stays n kept (hit_if passed mark (new_doc entries d)) hs (i.same mark passed l);
  }

  pub done_later : (kept : List Hit) (b c : ℤ) (d : Doc) → b ≤ℤ c → IsDone entries n kept b d → IsDone entries n kept c d
  done_later kept b c d l i = record { same = λ mark passed k. i.same mark passed (omega (arith, ints, l, k)) }

  any_left_out : (kept : List Hit) (passed : Bool) (mark : ℤ) (o : Option DocNum)
      → ((num : DocNum) → o ≡ Some num → with_hit n kept (record { doc = num; first = mark }) ≡ kept)
      → kept ≡ keeping n kept (option_to_list (hit_if passed mark o))
  any_left_out kept passed mark None f = refl
  any_left_out kept passed mark (Some num) f = left_out n kept passed mark (Some num) num refl (f num refl)

  new_is : (d : Doc) (num : DocNum) → new_doc entries d ≡ Some num → d.num ≡ num
  new_is d num e = elim (cases_Bool (is_in d.num.0 entries)) [
    | inl s ↦
        let none : new_doc entries d ≡ None = rw s refl in
        absurd (none_some (sym none ∙ e))
    | inr s ↦
        let some : new_doc entries d ≡ Some d.num = rw s refl in
        same (sym some ∙ e)
  ]
    where
      none_some : {x : DocNum} → None ≡ Some x → ⊥
      none_some q = cc

      same : {x y : DocNum} → Some x ≡ Some y → x ≡ y
      same q = cc

  -- a document of which a hit is stored that is no later is done
  pub done_by_hit : (kept : List Hit) (b : ℤ) (d : Doc) (num : DocNum) → d.num ≡ num
      → with_hit n kept (record { doc = num; first = b }) ≡ kept → IsDone entries n kept b d
  done_by_hit kept b d num q e = record {
    same = λ mark passed l.
        any_left_out kept passed mark (new_doc entries d)
        (λ m i.
        hit_later n kept (record { doc = num; first = b }) (record { doc = m; first = mark })
        (ap (λ (z : DocNum). z.0) (sym q ∙ new_is d m i))
        (le_yes b mark l)
        e);
  }

  -- so is one that is in the box
  pub done_by_box : (kept : List Hit) (b : ℤ) (d : Doc) (num : DocNum) → d.num ≡ num → is_in num.0 entries ≡ true
      → IsDone entries n kept b d
  done_by_box kept b d num q e = record {
    same = λ mark passed l.
        any_left_out kept passed mark (new_doc entries d)
        (λ m i. absurd (none_some (sym none ∙ i)));
  }
    where
      seen : is_in d.num.0 entries ≡ true
      seen = subst (λ (z : DocNum). is_in z.0 entries ≡ true) (sym q) e

      none : new_doc entries d ≡ None
      none = rw seen refl

      none_some : {x : DocNum} → None ≡ Some x → ⊥
      none_some k = cc
