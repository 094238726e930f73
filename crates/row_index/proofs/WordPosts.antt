-- A place that is put under words as often as they come.
use Rattle.std.proofs.Common.{◌≡◌, ◌∙◌, refl, sym, ap, subst, ℕ, zero, suc, Bool, true, false, List, [], ◌∷◌, ◌++◌, length, take, drop}
use Rattle.std.proofs.Common.{inl, inr, if◌then◌else◌, arith}
use Rattle.std.proofs.Math.Seq.{take-append_seam}
use Rattle.std.proofs.lemmas.Bool.{cases_Bool, true≢false, not-true, not-false}
use Rattle.std.proofs.lemmas.List.{take-append-drop, append-nil, append_assoc}
use Rattle.std.proofs.lemmas.List.Folds.{list_any-append}
use Rattle.std.specs.Prelude.{◌||◌, not}
use Rattle.std.specs.Str.{bytes_eq}
use Rattle.tap_rows.proofs.Tests.{bytes_same, bytes_itself}
use Rattle.tap_base.specs.Words.{has_text, with_new}
use Rattle.tap_base.specs.FirstPlaces.{HoldSameTexts}
use Rattle.tap_base.proofs.Added.{with_new-append}
use Rattle.tap_base.proofs.Missing.{missing, with_missing, absorbed, both_held}
use Rattle.row_index.specs.Places.{under, posted, ends_with, with_place}
use Rattle.row_index.specs.Posts.{posted_all, noted_then, IsPartlyPosted, IsFreePlace}
use Rattle.row_index.proofs.PostLaws.{posted_onto, ends_put, put_new, under_posted_all}

-- is the place the last one under the text?
abbrev is_put : List ℕ → ℕ → List (List ℕ × List ℕ) → Bool
is_put key p [] = false
is_put key p (e ∷ es) = if bytes_eq key e.0 then ends_with p e.1 else is_put key p es

ends_again : (p : ℕ) (xs : List ℕ) → ends_with p (with_place p xs) ≡ true
ends_again p xs =
    elim (cases_Bool (ends_with p xs)) [
      | inl b ↦ rw (b, b) refl
      | inr b ↦ ap (ends_with p) (put_new p xs b) ∙ ends_put p xs
    ]

alone : (p : ℕ) → ends_with p (p ∷ []) ≡ true
alone p = grind arith

-- it is there once it was put, and stays so
put_there : (key : List ℕ) (p : ℕ) (es : List (List ℕ × List ℕ)) → is_put key p (posted bytes_eq key p es) ≡ true
put_there key p [] = rw (bytes_itself key) (alone p)
put_there key p (e ∷ es) =
    elim (cases_Bool (bytes_eq key e.0)) [
      | inl b ↦ rw (b, b) (ends_again p e.1)
      | inr b ↦ rw (b, b) (put_there key p es)
    ]

still_there : (key other : List ℕ) (p : ℕ) (es : List (List ℕ × List ℕ)) → is_put key p es ≡ true
    → is_put key p (posted bytes_eq other p es) ≡ true
still_there key other p [] h = absurd (true≢false (sym h))
still_there key other p (e ∷ es) h =
    elim (cases_Bool (bytes_eq key e.0)) [
      | inl b ↦
          let last : ends_with p e.1 ≡ true = rw b at h in
          elim (cases_Bool (bytes_eq other e.0)) [
            | inl c ↦ rw (c, b) (ends_again p e.1)
            | inr c ↦ rw (c, b) last
          ]
      | inr b ↦
          let rest : is_put key p es ≡ true = rw b at h in
          elim (cases_Bool (bytes_eq other e.0)) [
            | inl c ↦ rw (c, b) rest
            | inr c ↦ rw (c, b) (still_there key other p es rest)
          ]
    ]

still_all : (key : List ℕ) (others : List (List ℕ)) (p : ℕ) (es : List (List ℕ × List ℕ)) → is_put key p es ≡ true
    → is_put key p (posted_all bytes_eq others p es) ≡ true
still_all key [] p es h = h
still_all key (other ∷ others) p es h = still_all key others p (posted bytes_eq other p es) (still_there key other p es h)

held_there : (held : List (List ℕ)) (key : List ℕ) (p : ℕ) (es : List (List ℕ × List ℕ)) → has_text held key ≡ true
    → is_put key p (posted_all bytes_eq held p es) ≡ true
held_there [] key p es h = absurd (true≢false (sym h))
held_there (x ∷ held) key p es h =
    elim (cases_Bool (bytes_eq key x)) [
      | inl b ↦
          let same : key ≡ x = bytes_same key x b in
          still_all key held p (posted bytes_eq x p es) (ap (λ k. is_put k p (posted bytes_eq x p es)) same ∙ put_there x p es)
      | inr b ↦ held_there held key p (posted bytes_eq x p es) (rw b at h)
    ]

-- put again, it is there once
put_again : (key : List ℕ) (p : ℕ) (es : List (List ℕ × List ℕ)) → is_put key p es ≡ true → posted bytes_eq key p es ≡ es
put_again key p [] h = absurd (true≢false (sym h))
put_again key p (e ∷ es) h =
    elim (cases_Bool (bytes_eq key e.0)) [
      | inl b ↦ let last : ends_with p e.1 ≡ true = rw b at h in rw (b, last) refl
      | inr b ↦ rw b (ap (λ z. e ∷ z) (put_again key p es (rw b at h)))
    ]

put_new_ones : (held xs : List (List ℕ)) (p : ℕ) (es : List (List ℕ × List ℕ))
    → posted_all bytes_eq (with_new held xs) p es ≡ posted_all bytes_eq xs p (posted_all bytes_eq held p es)
put_new_ones held [] p es = refl
put_new_ones held (x ∷ xs) p es =
    elim (cases_Bool (has_text held x)) [
      | inl b ↦ rw b (put_new_ones held xs p es
          ∙ ap (posted_all bytes_eq xs p) (sym (put_again x p (posted_all bytes_eq held p es) (held_there held x p es b))))
      | inr b ↦ rw b (put_new_ones (held ++ x ∷ []) xs p es ∙ ap (posted_all bytes_eq xs p) (posted_onto bytes_eq held x p es))
    ]

-- under distinct words, and under words as often as they come
pub put_distinct : (xs keys : List (List ℕ)) (p : ℕ) (es fs : List (List ℕ × List ℕ)) → with_new [] xs ≡ keys
    → fs ≡ posted_all bytes_eq xs p es → fs ≡ posted_all bytes_eq keys p es
put_distinct xs keys p es fs is done = done ∙ sym (put_new_ones [] xs p es) ∙ ap (λ ks. posted_all bytes_eq ks p es) is

-- the place was put under the first of the words, and these are left; the words that were noted are the first ones
pub record IsAdding (words left before noted : List (List ℕ)) (place : ℕ) (es fs : List (List ℕ × List ℕ)) : Type 0 where
  pub front : List (List ℕ)
  pub whole : words ≡ front ++ left
  pub done : fs ≡ posted_all bytes_eq front place es
  pub same : IsFreePlace place es → HoldSameTexts noted (before ++ front)

same_front : (xs ys zs : List (List ℕ)) (t : List ℕ) → has_text (xs ++ (ys ++ zs)) t ≡ (has_text xs t || (has_text ys t || has_text zs t))
same_front xs ys zs t = list_any-append (λ other. bytes_eq t other) xs (ys ++ zs)
    ∙ ap (λ b. has_text xs t || b) (list_any-append (λ other. bytes_eq t other) ys zs)

pub adding_none : (words before : List (List ℕ)) (place : ℕ) (es : List (List ℕ × List ℕ)) → IsAdding words words before before place es es
adding_none words before place es = record {
  front = [];
  whole = refl;
  done = refl;
  same = λ free t. ap (λ ws. has_text ws t) (sym (append-nil before));
}

next_front : (words left left' before noted : List (List ℕ)) (word : List ℕ) (place : ℕ) (es fs gs : List (List ℕ × List ℕ))
    → (noted' : List (List ℕ))
    → left ≡ word ∷ left' → gs ≡ posted bytes_eq word place fs → (a : IsAdding words left before noted place es fs)
    → (IsFreePlace place es → HoldSameTexts noted' (before ++ (a.front ++ word ∷ []))) → IsAdding words left' before noted' place es gs
next_front words left left' before noted word place es fs gs noted' is next a same = record {
  front = a.front ++ word ∷ [];
  whole = a.whole ∙ ap (λ ks. a.front ++ ks) is ∙ sym (append_assoc a.front (word ∷ []) left');
  done = next ∙ ap (λ z. posted bytes_eq word place z) a.done ∙ sym (posted_onto bytes_eq a.front word place es);
  same = same;
}

-- a word that the message hadn't had before, and was noted
adding_new : (words left left' before noted noted' : List (List ℕ)) (word : List ℕ) (place : ℕ) (es fs gs : List (List ℕ × List ℕ))
    → left ≡ word ∷ left' → gs ≡ posted bytes_eq word place fs → noted' ≡ noted ++ word ∷ []
    → IsAdding words left before noted place es fs → IsAdding words left' before noted' place es gs
adding_new words left left' before noted noted' word place es fs gs is next more a =
    next_front words left left' before noted word place es fs gs noted' is next a (λ free t.
    ap (λ ws. has_text ws t) more ∙ list_any-append (λ other. bytes_eq t other) noted (word ∷ [])
    ∙ ap (λ b. b || has_text (word ∷ []) t) (a.same free t)
    ∙ sym (ap (λ ws. has_text ws t) (sym (append_assoc before a.front (word ∷ [])))
    ∙ list_any-append (λ other. bytes_eq t other) (before ++ a.front) (word ∷ [])))

-- one that it had
had_before : (front : List (List ℕ)) (word : List ℕ) (place : ℕ) (es fs : List (List ℕ × List ℕ)) → IsFreePlace place es
    → fs ≡ posted_all bytes_eq front place es
    → ends_with place (under bytes_eq word fs) ≡ true → has_text front word ≡ true
had_before front word place es fs free done last =
    elim (cases_Bool (has_text front word)) [
      | inl b ↦ b
      | inr b ↦
          let at : under bytes_eq word fs ≡ under bytes_eq word es = ap (under bytes_eq word) done
          ∙ under_posted_all bytes_eq bytes_same word front place es ∙ rw b refl in
          absurd (true≢false (sym last ∙ ap (ends_with place) at ∙ free word))
    ]

adding_old : (words left left' before noted : List (List ℕ)) (word : List ℕ) (place : ℕ) (es fs gs : List (List ℕ × List ℕ))
    → left ≡ word ∷ left' → gs ≡ posted bytes_eq word place fs → ends_with place (under bytes_eq word fs) ≡ true
    → IsAdding words left before noted place es fs → IsAdding words left' before noted place es gs
adding_old words left left' before noted word place es fs gs is next last a =
    next_front words left left' before noted word place es fs gs noted is next a (λ free t.
    a.same free t ∙ list_any-append (λ other. bytes_eq t other) before a.front
    ∙ ap (λ b. has_text before t || b)
    (sym (absorbed a.front word t false (had_before a.front word place es fs free a.done last) ∙ or_false (has_text a.front t)))
    ∙ sym (same_front before a.front (word ∷ []) t))
  where
    or_false : (b : Bool) → (b || false) ≡ b
    or_false true = refl
    or_false false = refl

-- the next word, either way
pub adding_next : (words left left' before noted noted' : List (List ℕ)) (word : List ℕ) (place : ℕ) (es fs gs : List (List ℕ × List ℕ))
    → left ≡ word ∷ left' → gs ≡ posted bytes_eq word place fs → noted' ≡ noted_then place word fs noted
    → IsAdding words left before noted place es fs → IsAdding words left' before noted' place es gs
adding_next words left left' before noted noted' word place es fs gs is next kept a =
    elim (cases_Bool (ends_with place (under bytes_eq word fs))) [
      | inl b ↦
          let same : noted ≡ noted' = sym (rw b at kept) in
          subst (λ ns. IsAdding words left' before ns place es gs) same
          (adding_old words left left' before noted word place es fs gs is next b a)
      | inr b ↦ adding_new words left left' before noted noted' word place es fs gs is next (rw b at kept) a
    ]

-- what is noted, by what the look-up of a word returned

pub noted_new : (place : ℕ) (word key : List ℕ) (es : List (List ℕ × List ℕ)) (noted noted' : List (List ℕ)) (new : Bool) → key ≡ word
    → new ≡ not (ends_with place (under bytes_eq key es)) → new ≡ true → noted' ≡ noted ++ word ∷ []
    → noted' ≡ noted_then place word es noted
noted_new place word key es noted noted' new same is put more =
    let last : ends_with place (under bytes_eq word es) ≡ false = ap (λ k. ends_with place (under bytes_eq k es)) (sym same)
    ∙ not-true (ends_with place (under bytes_eq key es)) (sym is ∙ put) in
    more ∙ sym (ap (λ b. if b then noted else noted ++ word ∷ []) last)

pub noted_old : (place : ℕ) (word key : List ℕ) (es : List (List ℕ × List ℕ)) (noted noted' : List (List ℕ)) (new : Bool) → key ≡ word
    → new ≡ not (ends_with place (under bytes_eq key es)) → new ≡ false → noted' ≡ noted → noted' ≡ noted_then place word es noted
noted_old place word key es noted noted' new same is old stays =
    let last : ends_with place (under bytes_eq word es) ≡ true = ap (λ k. ends_with place (under bytes_eq k es)) (sym same)
    ∙ not-false (ends_with place (under bytes_eq key es)) (sym is ∙ old) in
    stays ∙ sym (ap (λ b. if b then noted else noted ++ word ∷ []) last)

pub adding_all : (words left before noted : List (List ℕ)) (place : ℕ) (es fs : List (List ℕ × List ℕ)) → left ≡ []
    → IsAdding words left before noted place es fs
    → (fs ≡ posted_all bytes_eq words place es) × (IsFreePlace place es → HoldSameTexts noted (before ++ words))
adding_all words left before noted place es fs none a =
    let whole : a.front ≡ words = sym (a.whole ∙ ap (λ ks. a.front ++ ks) none ∙ append-nil a.front) in
    (a.done ∙ ap (λ ks. posted_all bytes_eq ks place es) whole, λ free t. a.same free t ∙ ap (λ ks. has_text (before ++ ks) t) whole)

pub adding_partly : (words left before noted : List (List ℕ)) (place : ℕ) (es fs gs : List (List ℕ × List ℕ)) → gs ≡ fs
    → IsAdding words left before noted place es fs → IsPartlyPosted words place es gs
adding_partly words left before noted place es fs gs same a = (
  length a.front,
  same ∙ a.done
      ∙ ap (λ ks. posted_all bytes_eq ks place es) (sym (ap (λ ks. take (length a.front) ks) a.whole ∙ take-append_seam a.front left)),
)

-- the next word failed: the place is under the first of the words, and perhaps under that one
pub adding_failed : (words left left' before noted : List (List ℕ)) (word : List ℕ) (place : ℕ) (es fs gs : List (List ℕ × List ℕ))
    → left ≡ word ∷ left' → IsPartlyPosted (word ∷ []) place fs gs → IsAdding words left before noted place es fs
    → IsPartlyPosted words place es gs
adding_failed words left left' before noted word place es fs gs is (n, done) a = go n done where
  whole : words ≡ (a.front ++ word ∷ []) ++ left'
  whole = a.whole ∙ ap (λ ks. a.front ++ ks) is ∙ sym (append_assoc a.front (word ∷ []) left')

  onto : gs ≡ posted bytes_eq word place fs → gs ≡ posted_all bytes_eq (take (length (a.front ++ word ∷ [])) words) place es
  onto done = done ∙ ap (λ z. posted bytes_eq word place z) a.done ∙ sym (posted_onto bytes_eq a.front word place es)
      ∙ ap (λ ks. posted_all bytes_eq ks place es) (sym (ap (λ ks. take (length (a.front ++ word ∷ [])) ks) whole
      ∙ take-append_seam (a.front ++ word ∷ []) left'))

  go : (n : ℕ) → gs ≡ posted_all bytes_eq (take n (word ∷ [])) place fs → IsPartlyPosted words place es gs
  go zero done = adding_partly words left before noted place es fs gs done a
  go (suc zero) done = (length (a.front ++ word ∷ []), onto done)
  go (suc (suc n)) done = (length (a.front ++ word ∷ []), onto done)

-- the words that were noted are those of the message
pub noted_words : (left words noted : List (List ℕ)) → with_new [] left ≡ words → HoldSameTexts noted ([] ++ left)
    → HoldSameTexts noted words
noted_words left words noted is same = λ t. same t ∙ sym (both_held [] left t) ∙ ap (λ ws. has_text ws t) is

-- under the first of some words as often as they come, it is under the first of the distinct ones
pub partly_distinct : (xs keys : List (List ℕ)) (p : ℕ) (es fs : List (List ℕ × List ℕ)) → with_new [] xs ≡ keys → IsPartlyPosted xs p es fs
    → IsPartlyPosted keys p es fs
partly_distinct xs keys p es fs is (n, done) =
    let front = with_new [] (take n xs) in
    let parts : keys ≡ front ++ missing front (drop n xs) = sym is ∙ ap (with_new []) (sym (take-append-drop n xs))
    ∙ with_new-append [] (take n xs) (drop n xs) ∙ with_missing front (drop n xs) in
    let first : take (length front) keys ≡ front = ap (take (length front)) parts ∙ take-append_seam front (missing front (drop n xs)) in
    (length front, put_distinct (take n xs) front p es fs refl done ∙ ap (λ ks. posted_all bytes_eq ks p es) (sym first))
