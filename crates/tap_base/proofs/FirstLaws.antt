-- Places where words come first, and the words there.
use Rattle.std.proofs.Common.{◌≡◌, ◌∙◌, sym, ap, refl, subst, arith, ℕ, zero, suc, List, [], ◌∷◌, ◌++◌, ◌+◌, ◌-◌, ◌^◌, map, take, drop}
use Rattle.std.proofs.Common.{length, Bool, true, false, if◌then◌else◌, ◌≤◌, ◌<◌, get_or}
use Rattle.std.specs.Prelude.{◌==◌, ◌||◌}
use Rattle.std.specs.List.{position_or_len}
use Rattle.std.specs.Char.{to_ascii_lowercase}
use Rattle.std.specs.Str.{str_to_ascii_lowercase, bytes_eq}
use Rattle.std.proofs.lemmas.List.{append-nil, map-append, take-map, drop-map, drop_all, at_drop_more}
use Rattle.std.proofs.lemmas.List.Folds.{list_any-append}
use Rattle.std.proofs.lemmas.Slice.Eq.{bytes_eq-Decides}
use Rattle.tap_base.specs.Words.{words, has_text, word_from, run_from, words_of_both, joined_text}
use Rattle.tap_base.specs.declared.first_places.Gap.{Gap}
use Rattle.tap_base.specs.FirstPlaces.{First, firsts_after, places_with, gap_total, words_at, tag_of, HaveTags, AreWordsOf, HoldSameTexts}
use Rattle.tap_base.proofs.Added.{ends_word}
use Rattle.tap_base.proofs.Missing.{both_held}
use Rattle.tap_base.proofs.WordCuts.{lower-end, low-lowered, words-cut}

-- ---- places by their distances

other-gap : (gap : Gap) → (gap.len ≡ 255 → ⊥) → (gap.len == 255) ≡ false
other-gap gap other = go (gap.len == 255) refl where
  go : (b : Bool) → (gap.len == 255) ≡ b → b ≡ false
  go true e = absurd (other (grind (arith, e)))
  go false e = refl

pub firsts-append : (at : ℕ) (gaps more : List Gap)
    → firsts_after at (gaps ++ more) ≡ firsts_after at gaps ++ firsts_after (at + gap_total gaps) more
firsts-append at [] more = let e : at + 0 ≡ at = omega arith in rw e refl
firsts-append at (gap ∷ gaps) more = go (gap.len == 255)
    (firsts-append (at + gap.len) gaps more ∙ ap (λ k. firsts_after (at + gap.len) gaps ++ firsts_after k more) sum) where
      sum : at + gap.len + gap_total gaps ≡ at + (gap.len + gap_total gaps)
      sum = omega arith

      go : (b : Bool)
          → firsts_after (at + gap.len) (gaps ++ more)
          ≡ firsts_after (at + gap.len) gaps ++ firsts_after (at + (gap.len + gap_total gaps)) more
          → (if b then firsts_after (at + gap.len) (gaps ++ more)
          else record { place = at + gap.len; tag = gap.tag } ∷ firsts_after (at + gap.len) (gaps ++ more))
          ≡ (if b then firsts_after (at + gap.len) gaps
          else record { place = at + gap.len; tag = gap.tag } ∷ firsts_after (at + gap.len) gaps)
          ++ firsts_after (at + (gap.len + gap_total gaps)) more
      go true e = e
      go false e = ap (λ ps. record { place = at + gap.len; tag = gap.tag } ∷ ps) e

pub total-append : (gaps more : List Gap) → gap_total (gaps ++ more) ≡ gap_total gaps + gap_total more
total-append [] more = omega arith
total-append (gap ∷ gaps) more = let i = total-append gaps more in omega (arith, i)

-- a far one and a near one behind others
pub far-pushed : (gaps : List Gap) (tag : ℕ) → firsts_after 0 (gaps ++ record { len = 255; tag = tag } ∷ []) ≡ firsts_after 0 gaps
far-pushed gaps tag = firsts-append 0 gaps (record { len = 255; tag = tag } ∷ []) ∙ append-nil (firsts_after 0 gaps)

pub near-pushed : (gaps : List Gap) (len tag at : ℕ) → len < 255 → at ≡ gap_total gaps + len
    → firsts_after 0 (gaps ++ record { len = len; tag = tag } ∷ []) ≡ firsts_after 0 gaps ++ record { place = at; tag = tag } ∷ []
near-pushed gaps len tag at lt is =
    let e : (len == 255) ≡ false = other-gap (record { len = len; tag = tag }) (λ is. omega (arith, lt, is)) in
    let place : 0 + gap_total gaps + len ≡ at = omega (arith, is) in
    firsts-append 0 gaps (record { len = len; tag = tag } ∷ [])
    ∙ ap (λ ps. firsts_after 0 gaps ++ ps) (rw e (ap (λ k. record { place = k; tag = tag } ∷ []) place))

pub total-pushed : (gaps : List Gap) (gap : Gap) → gap_total (gaps ++ gap ∷ []) ≡ gap_total gaps + gap.len
total-pushed gaps gap = let e = total-append gaps (gap ∷ []) in omega (arith, e)

-- a step of a walk for a tag: one that it passes, and one where it stops
pub passed : (tag at : ℕ) (gap : Gap) (gaps : List Gap) → (gap.tag ≡ tag → gap.len ≡ 255)
    → places_with tag (firsts_after at (gap ∷ gaps)) ≡ places_with tag (firsts_after (at + gap.len) gaps)
passed tag at gap gaps far = go (gap.len == 255) refl (gap.tag == tag) refl where
  same : (gap.tag == tag) ≡ true → (gap.len == 255) ≡ false → ⊥
  same e f =
      let is : gap.tag ≡ tag = grind (arith, e) in
      let len : gap.len ≡ 255 = far is in
      grind (arith, f, len)

  go : (s : Bool) → (gap.len == 255) ≡ s → (t : Bool) → (gap.tag == tag) ≡ t → places_with tag
      (if s then firsts_after (at + gap.len) gaps else record { place = at + gap.len; tag = gap.tag } ∷ firsts_after (at + gap.len) gaps)
      ≡ places_with tag (firsts_after (at + gap.len) gaps)
  go true f t e = refl
  go false f true e = absurd (same e f)
  go false f false e = rw e refl

pub stopped : (tag at : ℕ) (gap : Gap) (gaps : List Gap) → gap.tag ≡ tag → (gap.len ≡ 255 → ⊥)
    → places_with tag (firsts_after at (gap ∷ gaps)) ≡ (at + gap.len) ∷ places_with tag (firsts_after (at + gap.len) gaps)
stopped tag at gap gaps is other =
    let e : (gap.len == 255) ≡ false = other-gap gap other in
    let f : (gap.tag == tag) ≡ true = grind (arith, is) in
    rw (e, f) refl

-- the gap at an index, and those after it
module _ (gaps : List Gap) (i at : ℕ) (d : Gap) (lt : i < length gaps) where
  pub gap-fits : at + gap_total (drop i gaps) < 2 ^ 64 → at + (get_or gaps i d).len + gap_total (drop (i + 1) gaps) < 2 ^ 64
  gap-fits fits =
      let e : gap_total (drop i gaps) ≡ (get_or gaps i d).len + gap_total (drop (i + 1) gaps) =
      at_drop_more gap_total gaps i d lt in
      omega (arith, e, fits)

  pub gap-passed : (tag : ℕ) → ((get_or gaps i d).tag ≡ tag → (get_or gaps i d).len ≡ 255)
      → places_with tag (firsts_after at (drop i gaps)) ≡ places_with tag (firsts_after (at + (get_or gaps i d).len) (drop (i + 1) gaps))
  gap-passed tag far = at_drop_more (λ gs. places_with tag (firsts_after at gs)) gaps i d lt
      ∙ passed tag at (get_or gaps i d) (drop (i + 1) gaps) far

  pub gap-stopped : (tag : ℕ) → (get_or gaps i d).tag ≡ tag → ((get_or gaps i d).len ≡ 255 → ⊥)
      → places_with tag (firsts_after at (drop i gaps))
      ≡ (at + (get_or gaps i d).len) ∷ places_with tag (firsts_after (at + (get_or gaps i d).len) (drop (i + 1) gaps))
  gap-stopped tag is other = at_drop_more (λ gs. places_with tag (firsts_after at gs)) gaps i d lt
      ∙ stopped tag at (get_or gaps i d) (drop (i + 1) gaps) is other

-- ---- the words at some places, by their tags

-- a word is at one of the places if it is at one of those with its tag
pub by-tag : (text : List ℕ) (firsts : List First) (word : List ℕ) → HaveTags text firsts
    → has_text (words_at text firsts) word ≡ has_text (map (word_from text) (places_with (tag_of word) firsts)) word
by-tag text [] word are = refl
by-tag text (first ∷ firsts) word are = go (first.tag == tag_of word) refl (by-tag text firsts word are.1) where
  same : (b : Bool) → bytes_eq word (word_from text first.place) ≡ b → (first.tag == tag_of word) ≡ false → b ≡ false
  same true e f =
      let is : first.tag ≡ tag_of word = sym are.0 ∙ ap tag_of (sym ((bytes_eq-Decides word (word_from text first.place)).0 e)) in
      absurd (grind (arith, f, is))
  same false e f = refl

  go : (t : Bool) → (first.tag == tag_of word) ≡ t
      → has_text (words_at text firsts) word ≡ has_text (map (word_from text) (places_with (tag_of word) firsts)) word
      → (bytes_eq word (word_from text first.place) || has_text (words_at text firsts) word) ≡ has_text
      (map (word_from text) (if t then first.place ∷ places_with (tag_of word) firsts else places_with (tag_of word) firsts)) word
  go true e rest = ap (λ b. bytes_eq word (word_from text first.place) || b) rest
  go false e rest = ap (λ b. b || has_text (words_at text firsts) word) (same (bytes_eq word (word_from text first.place)) refl e) ∙ rest

-- one more
pub first-added : (text : List ℕ) (firsts : List First) (first : First) → HaveTags text firsts
    → tag_of (word_from text first.place) ≡ first.tag → HaveTags text (firsts ++ first ∷ [])
first-added text [] first are is = (is, tt)
first-added text (f ∷ firsts) first are is = (are.0, first-added text firsts first are.1 is)

pub words-added : (text : List ℕ) (firsts : List First) (first : First)
    → words_at text (firsts ++ first ∷ []) ≡ words_at text firsts ++ word_from text first.place ∷ []
words-added text firsts first = map-append (λ f. word_from text f.place) firsts (first ∷ [])

-- ---- words that begin at a place

place-lowered : (xs : List ℕ) → position_or_len ends_word (map to_ascii_lowercase xs) ≡ position_or_len ends_word xs
place-lowered [] = refl
place-lowered (x ∷ xs) = rw (lower-end x, place-lowered xs) refl

pub run-lowered : (text : List ℕ) (at : ℕ) → run_from (str_to_ascii_lowercase text) at ≡ str_to_ascii_lowercase (run_from text at)
run-lowered text at =
    ap (λ xs. take (position_or_len ends_word xs) xs) (drop-map to_ascii_lowercase at text)
    ∙ ap (λ n. take n (map to_ascii_lowercase (drop at text))) (place-lowered (drop at text))
    ∙ take-map to_ascii_lowercase (position_or_len ends_word (drop at text)) (drop at text)

-- a lowered text has the words of the text at its places
pub word-lowered : (text : List ℕ) (at : ℕ) → word_from (str_to_ascii_lowercase text) at ≡ word_from text at
word-lowered text at = ap str_to_ascii_lowercase (run-lowered text at) ∙ low-lowered (run_from text at)

pub words-at-lowered : (text : List ℕ) (firsts : List First) → words_at (str_to_ascii_lowercase text) firsts ≡ words_at text firsts
words-at-lowered text [] = refl
words-at-lowered text (first ∷ firsts) =
    rw (word-lowered text first.place) (ap (λ ws. word_from text first.place ∷ ws) (words-at-lowered text firsts))

pub first-lowered : (text : List ℕ) (firsts : List First) → HaveTags (str_to_ascii_lowercase text) firsts → HaveTags text firsts
first-lowered text [] are = are
first-lowered text (first ∷ firsts) are = (ap tag_of (sym (word-lowered text first.place)) ∙ are.0, first-lowered text firsts are.1)

-- the words of a message are those of its subject, an LF and its body
pub both-words : (subject body : List ℕ) → words (joined_text subject body) ≡ words subject ++ words body
both-words subject body = words-cut subject body 10 refl

pub held-in-both : (subject body t : List ℕ)
    → has_text (words_of_both subject body) t ≡ (has_text (words subject) t || has_text (words body) t)
held-in-both subject body t = both_held [] (words subject ++ words body) t
    ∙ list_any-append (λ other. bytes_eq t other) (words subject) (words body)

pub held-at : (subject body : List ℕ) (firsts : List First) (t : List ℕ) → AreWordsOf (joined_text subject body) firsts
    → has_text (words_at (joined_text subject body) firsts) t ≡ has_text (words_of_both subject body) t
held-at subject body firsts t are = are.same t ∙ ap (λ ws. has_text ws t) (both-words subject body)
    ∙ list_any-append (λ other. bytes_eq t other) (words subject) (words body) ∙ sym (held-in-both subject body t)

-- what was noted, by the places in the text itself
pub noted-known : (subject body lowered : List ℕ) (firsts : List First) → lowered ≡ str_to_ascii_lowercase (joined_text subject body)
    → HaveTags lowered firsts → HoldSameTexts (words_at lowered firsts) (words_of_both subject body)
    → AreWordsOf (joined_text subject body) firsts
noted-known subject body lowered firsts is are same = record {
  begin = first-lowered (joined_text subject body) firsts (subst (λ xs. HaveTags xs firsts) is are);
  same = λ t.
      ap (λ ws. has_text ws t) (sym (words-at-lowered (joined_text subject body) firsts))
      ∙ ap (λ xs. has_text (words_at xs firsts) t) (sym is)
      ∙ same t
      ∙ held-in-both subject body t ∙ sym (list_any-append (λ other. bytes_eq t other) (words subject) (words body))
      ∙ ap (λ ws. has_text ws t) (sym (both-words subject body));
}

-- ---- a place in the subject or in the body

take-one : (n x : ℕ) (xs : List ℕ) → take (1 + n) (x ∷ xs) ≡ x ∷ take n xs
take-one n x xs = let e : 1 + n ≡ suc n = omega arith in rw e refl

run-cut : (xs ys : List ℕ) → take (position_or_len ends_word (xs ++ 10 ∷ ys)) (xs ++ 10 ∷ ys) ≡ take (position_or_len ends_word xs) xs
run-cut [] ys = refl
run-cut (x ∷ xs) ys = go (ends_word x) refl (run-cut xs ys) where
  go : (b : Bool) → ends_word x ≡ b
      → take (position_or_len ends_word (xs ++ 10 ∷ ys)) (xs ++ 10 ∷ ys) ≡ take (position_or_len ends_word xs) xs
      → take (position_or_len ends_word (x ∷ xs ++ 10 ∷ ys)) (x ∷ xs ++ 10 ∷ ys) ≡ take (position_or_len ends_word (x ∷ xs)) (x ∷ xs)
  go true e rest = rw e refl
  go false e rest = rw e (take-one (position_or_len ends_word (xs ++ 10 ∷ ys)) x (xs ++ 10 ∷ ys) ∙ ap (λ zs. x ∷ zs) rest
      ∙ sym (take-one (position_or_len ends_word xs) x xs))

drop-first : (n : ℕ) (xs ys : List ℕ) → n ≤ length xs → drop n (xs ++ ys) ≡ drop n xs ++ ys
drop-first zero xs ys le = refl
drop-first (suc n) [] ys le = absurd (omega (arith, le))
drop-first (suc n) (x ∷ xs) ys le = drop-first n xs ys (omega (arith, le))

drop-second : (n : ℕ) (xs ys : List ℕ) → length xs ≤ n → drop n (xs ++ ys) ≡ drop (n - length xs) ys
drop-second n [] ys le = let e : n - 0 ≡ n = omega arith in rw e refl
drop-second zero (x ∷ xs) ys le = absurd (omega (arith, le))
drop-second (suc n) (x ∷ xs) ys le =
    let same : n - length xs ≡ suc n - suc (length xs) = omega arith in
    drop-second n xs ys (omega (arith, le)) ∙ ap (λ k. drop k ys) same

pub in-subject : (subject body : List ℕ) (at : ℕ) → at < length subject
    → word_from (drop at subject) 0 ≡ word_from (joined_text subject body) at
in-subject subject body at lt = sym (ap (λ xs. str_to_ascii_lowercase (take (position_or_len ends_word xs) xs))
    (drop-first at subject (10 ∷ body) (omega (arith, lt))) ∙ ap str_to_ascii_lowercase (run-cut (drop at subject) body))

pub in-body : (subject body : List ℕ) (at : ℕ) → length subject < at
    → word_from (drop (at - length subject - 1) body) 0 ≡ word_from (joined_text subject body) at
in-body subject body at lt =
    let place : at - length subject ≡ suc (at - length subject - 1) = omega (arith, lt) in
    sym (ap (λ xs. str_to_ascii_lowercase (take (position_or_len ends_word xs) xs))
    (drop-second at subject (10 ∷ body) (omega (arith, lt)) ∙ ap (λ n. drop n (10 ∷ body)) place))

pub at-end : (subject body : List ℕ) (at : ℕ) → at ≡ length subject → word_from [] 0 ≡ word_from (joined_text subject body) at
at-end subject body at e =
    let none : at - length subject ≡ 0 = omega (arith, e) in
    sym (ap (λ xs. str_to_ascii_lowercase (take (position_or_len ends_word xs) xs))
    (drop-second at subject (10 ∷ body) (omega (arith, e)) ∙ ap (λ n. drop n (10 ∷ body)) none))

pub past-end : (subject body : List ℕ) (at : ℕ) → length subject < at → length body < at - length subject
    → word_from [] 0 ≡ word_from (joined_text subject body) at
past-end subject body at lt far =
    let place : at - length subject ≡ suc (at - length subject - 1) = omega (arith, lt) in
    sym (ap (λ xs. str_to_ascii_lowercase (take (position_or_len ends_word xs) xs)) (drop-second at subject (10 ∷ body) (omega (arith, lt))
    ∙ ap (λ n. drop n (10 ∷ body)) place ∙ drop_all (at - length subject - 1) body (omega (arith, far))))
