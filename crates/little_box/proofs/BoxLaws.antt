-- The deliveries of a box and their marks.
use Rattle.std.proofs.Common.{◌≡◌, ℕ, zero, suc, ◌<◌, Bool, true, false, List, [], ◌∷◌, ◌++◌, refl, sym, ap, ◌∙◌, nat_eq, length, set}
use Rattle.std.proofs.Common.{arith, inl, inr, length-append}
use Rattle.std.specs.Prelude.{◌||◌, slice_get}
use Rattle.std.proofs.lemmas.Bool.{cases_Bool, eqb-true, or_parts, or_right}
use Rattle.tap_rows.specs.declared.results.Entry.{Entry}
use Rattle.tap_rows.proofs.Tests.{nat_itself}
use Rattle.little_box.specs.Boxes.{is_in, is_set, AreDistinct, IsBox}

-- numbers

-- one number is apart from another, and the other from the one
turned : (m n : ℕ) → nat_eq m n ≡ false → nat_eq n m ≡ false
turned m n h = grind (arith, h)

-- marks

-- a mark that is set has a place
set_within : (bs : List Bool) (n : ℕ) → is_set (slice_get bs n) ≡ true → n < length bs
set_within [] n h = absurd cc
set_within (b ∷ bs) zero h = omega arith
set_within (b ∷ bs) (suc n) h = let i = set_within bs n h in omega (arith, i)

-- a mark is what it is set to
mark_same : (bs : List Bool) (n : ℕ) (b : Bool) → n < length bs → is_set (slice_get (set bs n b) n) ≡ b
mark_same [] n b h = absurd (omega (arith, h))
mark_same (x ∷ bs) zero b h = refl
mark_same (x ∷ bs) (suc n) b h = mark_same bs n b (omega (arith, h))

-- a mark that is taken off isn't set
mark_off : (bs : List Bool) (n : ℕ) → is_set (slice_get (set bs n false) n) ≡ false
mark_off [] n = refl
mark_off (x ∷ bs) zero = refl
mark_off (x ∷ bs) (suc n) = mark_off bs n

-- the marks of other numbers stay
mark_other : (bs : List Bool) (n k : ℕ) (b : Bool) → nat_eq k n ≡ false → slice_get (set bs n b) k ≡ slice_get bs k
mark_other [] n k b h = refl
mark_other (x ∷ bs) zero zero b h = absurd cc
mark_other (x ∷ bs) zero (suc k) b h = refl
mark_other (x ∷ bs) (suc n) zero b h = refl
mark_other (x ∷ bs) (suc n) (suc k) b h = mark_other bs n k b (grind (arith, h))

-- one entry more

-- another document is delivered if it was
other_more : (n : ℕ) (es : List Entry) (x : Entry) → nat_eq n x.doc.0 ≡ false → is_in n (es ++ x ∷ []) ≡ is_in n es
other_more n [] x h = rw h refl
other_more n (e ∷ es) x h = ap (λ b. nat_eq n e.doc.0 || b) (other_more n es x h)

-- the document of the last entry is delivered
last_is_in : (n : ℕ) (es : List Entry) (x : Entry) → nat_eq n x.doc.0 ≡ true → is_in n (es ++ x ∷ []) ≡ true
last_is_in n [] x h = rw h refl
last_is_in n (e ∷ es) x h = or_right (nat_eq n e.doc.0) (is_in n (es ++ x ∷ [])) (last_is_in n es x h)

-- a new document behind distinct ones leaves them distinct
distinct_more : (es : List Entry) (x : Entry) → AreDistinct es → is_in x.doc.0 es ≡ false → AreDistinct (es ++ x ∷ [])
distinct_more [] x d h = (refl, tt)
distinct_more (e ∷ es) x d h =
    let a = or_parts (nat_eq x.doc.0 e.doc.0) (is_in x.doc.0 es) h in
    (other_more e.doc.0 es x (turned _ _ a.0) ∙ d.0, distinct_more es x d.1 a.1)

-- the marks after an entry more
marked_more : (es : List Entry) (bs : List Bool) (e : Entry) → ((n : ℕ) → is_set (slice_get bs n) ≡ is_in n es) → e.doc.0 < length bs
    → (n : ℕ) → is_set (slice_get (set bs e.doc.0 true) n) ≡ is_in n (es ++ e ∷ [])
marked_more es bs e m w n =
    elim (cases_Bool (nat_eq n e.doc.0)) [
      | inl b ↦ ap (λ k. is_set (slice_get (set bs e.doc.0 true) k)) (eqb-true n e.doc.0 b) ∙ mark_same bs e.doc.0 true w
          ∙ sym (last_is_in n es e b)
      | inr b ↦ ap is_set (mark_other bs e.doc.0 n true b) ∙ m n ∙ sym (other_more n es e b)
    ]

-- a box with an entry more
pub box_more : (es : List Entry) (bs cs : List Bool) (e : Entry) → IsBox es bs
    → ((n : ℕ) → is_set (slice_get cs n) ≡ is_set (slice_get bs n)) → e.doc.0 < length cs → is_in e.doc.0 es ≡ false
    → length es < 4294967295 → IsBox (es ++ e ∷ []) (set cs e.doc.0 true)
box_more es bs cs e b s w h r = record {
  marked = marked_more es cs e (λ n. s n ∙ b.marked n) w;
  distinct = distinct_more es e b.distinct h;
  room = let l = length-append es (e ∷ []) in omega (arith, l, r);
}

-- one entry fewer

-- what isn't delivered isn't among the first
unseen_fewer : (n : ℕ) (es : List Entry) (x : Entry) → is_in n (es ++ x ∷ []) ≡ false → (is_in n es ≡ false) × (nat_eq n x.doc.0 ≡ false)
unseen_fewer n [] x h = (refl, (or_parts (nat_eq n x.doc.0) false h).0)
unseen_fewer n (e ∷ es) x h =
    let a = or_parts (nat_eq n e.doc.0) (is_in n (es ++ x ∷ [])) h in
    let i = unseen_fewer n es x a.1 in
    (rw a.0 i.0, i.1)

-- the documents before the last one are distinct, and it isn't among them
distinct_fewer : (es : List Entry) (x : Entry) → AreDistinct (es ++ x ∷ []) → AreDistinct es × (is_in x.doc.0 es ≡ false)
distinct_fewer [] x d = (tt, refl)
distinct_fewer (e ∷ es) x d =
    let i = distinct_fewer es x d.1 in
    let u = unseen_fewer e.doc.0 es x d.0 in
    let t = turned e.doc.0 x.doc.0 u.1 in
    ((u.0, i.0), rw t i.1)

-- the marks after an entry fewer
marked_fewer : (es : List Entry) (bs : List Bool) (e : Entry) → IsBox (es ++ e ∷ []) bs → (n : ℕ)
    → is_set (slice_get (set bs e.doc.0 false) n) ≡ is_in n es
marked_fewer es bs e x n =
    elim (cases_Bool (nat_eq n e.doc.0)) [
      | inl b ↦
          let k = eqb-true n e.doc.0 b in
          ap (λ k. is_set (slice_get (set bs e.doc.0 false) k)) k ∙ mark_off bs e.doc.0 ∙ sym (distinct_fewer es e x.distinct).1
          ∙ ap (λ k. is_in k es) (sym k)
      | inr b ↦ ap is_set (mark_other bs e.doc.0 n false b) ∙ x.marked n ∙ other_more n es e b
    ]

-- a box with an entry fewer
pub box_fewer : (es : List Entry) (bs : List Bool) (e : Entry) → IsBox (es ++ e ∷ []) bs → IsBox es (set bs e.doc.0 false)
box_fewer es bs e b = record {
  marked = marked_fewer es bs e b;
  distinct = (distinct_fewer es e b.distinct).0;
  room = let l = length-append es (e ∷ []) in let r = b.room in omega (arith, l, r);
}

-- the last entry's document has a mark
pub last_within : (es : List Entry) (bs : List Bool) (e : Entry) → IsBox (es ++ e ∷ []) bs → e.doc.0 < length bs
last_within es bs e b = set_within bs e.doc.0 (b.marked e.doc.0 ∙ last_is_in e.doc.0 es e (nat_itself e.doc.0))
