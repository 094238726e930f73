-- What a reader of words holds.
use Rattle.std.proofs.Common.{◌≡◌, ◌∙◌, sym, ap, subst, arith, ℕ, List, [], ◌∷◌, ◌++◌, ◌-◌, take, drop, length, ◌≤◌, ◌<◌, ◌⊎◌}
use Rattle.std.proofs.Common.{inl, inr, Result, Ok, Err, OnOk, OnErr}
use Rattle.std.specs.Str.{str_to_ascii_lowercase}
use Rattle.std.proofs.lemmas.Bool.{cases_lt}
use Rattle.tap_base.specs.Words.{words, has_text, word_from, words_of_both, joined_text, with_new}
use Rattle.tap_base.specs.FirstPlaces.{First, Placed, HaveTags, AreWordsOf, IsReading, WordsRead, tag_of, words_at}
use Rattle.tap_base.proofs.Added.{with_new-append}
use Rattle.tap_base.proofs.WordCuts.{IsLow, low-lowered, words-lowered}
use Rattle.tap_base.proofs.WordPlaces.{low-word}
use Rattle.tap_base.proofs.FirstLaws.{both-words, first-added, words-added, held-at}

-- the words of a subject and of a body, in one lowered text
pub joined-words : (subject body bytes lowered front back : List ℕ) → lowered ≡ str_to_ascii_lowercase bytes
    → bytes ≡ joined_text front back → front ≡ subject → back ≡ body → with_new [] (words lowered) ≡ words_of_both subject body
joined-words subject body bytes lowered front back low is f b = ap (λ xs. with_new [] (words xs)) low
    ∙ ap (with_new []) (words-lowered bytes)
    ∙ ap (λ xs. with_new [] (words xs)) (is ∙ ap (λ xs. joined_text xs back) f ∙ ap (joined_text subject) b)
    ∙ ap (with_new []) (both-words subject body)

-- the words that a set is given, one text after the other
pub texts-read : (subject body front back : List ℕ) (none one two texts : List (List ℕ)) → none ≡ [] → front ≡ subject → back ≡ body
    → one ≡ with_new none (words front) → two ≡ with_new one (words back) → texts ≡ two → texts ≡ words_of_both subject body
texts-read subject body front back none one two texts e f b is-one is-two is = is ∙ is-two ∙ ap (λ xs. with_new one (words xs)) b
    ∙ ap (λ held. with_new held (words body))
    (is-one ∙ ap (λ held. with_new held (words front)) e ∙ ap (λ xs. with_new [] (words xs)) f)
    ∙ sym (with_new-append [] (words subject) (words body))

-- a word of a message, by its parts or by the places of its words
pub held-in-parts : (subject body front back : List ℕ) (all : List (List ℕ)) (t : List ℕ) → front ≡ subject → back ≡ body
    → words_of_both subject body ≡ all → has_text (words_of_both front back) t ≡ has_text all t
held-in-parts subject body front back all t f b is = ap (λ xs. has_text (words_of_both xs back) t) f
    ∙ ap (λ xs. has_text (words_of_both subject xs) t) b ∙ ap (λ ws. has_text ws t) is

pub held-at-places : (subject body front back : List ℕ) (all : List (List ℕ)) (firsts : List First) (t : List ℕ) → front ≡ subject
    → back ≡ body → words_of_both subject body ≡ all → AreWordsOf (joined_text subject body) firsts
    → has_text (words_at (joined_text front back) firsts) t ≡ has_text all t
held-at-places subject body front back all firsts t f b is are =
    ap (λ xs. has_text (words_at (joined_text xs back) firsts) t) f
    ∙ ap (λ xs. has_text (words_at (joined_text subject xs) firsts) t) b ∙ held-at subject body firsts t are
    ∙ ap (λ ws. has_text ws t) is

pub tags-in-parts : (subject body front back : List ℕ) (firsts : List First) → front ≡ subject → back ≡ body
    → AreWordsOf (joined_text subject body) firsts → HaveTags (joined_text front back) firsts
tags-in-parts subject body front back firsts f b are =
    subst (λ xs. HaveTags xs firsts) (sym (ap (λ xs. joined_text xs back) f ∙ ap (joined_text subject) b)) are.begin

some-range : (lowered : List ℕ) (start end : ℕ) → 0 < length (take (end - start) (drop start lowered)) → start < end
some-range lowered start end some = go (cases_lt start end) where
  go : (start < end) ⊎ (end ≤ start) → start < end
  go (inl lt) = lt
  go (inr le) =
      let none : end - start ≡ 0 = omega (arith, le) in
      let empty : length (take (end - start) (drop start lowered)) ≡ 0 = ap (λ k. length (take k (drop start lowered))) none in
      absurd (omega (arith, empty, some))

module _ (subject text : List ℕ) (body : ℕ) (lowered : List ℕ) (start end next : ℕ) (placed new : Placed) (tag : ℕ) where
  -- the last word begins at its place
  word-is : IsReading subject text body lowered start end next placed → 0 < length (take (end - start) (drop start lowered))
      → word_from lowered start ≡ take (end - start) (drop start lowered)
  word-is r some =
      let whole : IsLow lowered = ap str_to_ascii_lowercase r.lowers ∙ low-lowered (joined_text subject (drop body text)) ∙ sym r.lowers in
      low-word lowered start whole ∙ sym (r.word (some-range lowered start end some))

  -- its place was added, or memory was short
  pub noted-reading : {T E : Type 0} (result : Result T E) → IsReading subject text body lowered start end next placed
      → 0 < length (take (end - start) (drop start lowered)) → tag ≡ tag_of (take (end - start) (drop start lowered))
      → OnOk result (new ≡ record { firsts = placed.firsts ++ record { place = start; tag = tag } ∷ []; last = start })
      → OnErr result ((new.firsts ≡ placed.firsts) × (new.last ≤ start)) → IsReading subject text body lowered start end next new
  noted-reading (Ok x) r some is ok err =
      let e : new.last ≡ start = ap (λ (p : Placed). p.last) ok in
      record {
        within = r.within;
        lowers = r.lowers;
        begin = subst (λ (p : Placed). HaveTags lowered p.firsts) (sym ok)
            (first-added lowered placed.firsts (record { place = start; tag = tag }) r.begin (ap tag_of (word-is r some) ∙ sym is));
        ordered = (omega (arith, e), r.ordered.1, r.ordered.2, r.ordered.3);
        word = r.word;
      }
  noted-reading (Err y) r some is ok err = record {
    within = r.within;
    lowers = r.lowers;
    begin = subst (HaveTags lowered) (sym err.0) r.begin;
    ordered = (err.1, r.ordered.1, r.ordered.2, r.ordered.3);
    word = r.word;
  }

  pub noted-words : {T E : Type 0} (result : Result T E) (read : WordsRead) → IsReading subject text body lowered start end next placed
      → read.noted ≡ words_at lowered placed.firsts → read.word ≡ take (end - start) (drop start lowered)
      → 0 < length (take (end - start) (drop start lowered))
      → OnOk result (new ≡ record { firsts = placed.firsts ++ record { place = start; tag = tag } ∷ []; last = start })
      → OnOk result (words_at lowered new.firsts ≡ read.noted ++ read.word ∷ [])
  noted-words (Ok x) read r noted word some ok = ap (λ (p : Placed). words_at lowered p.firsts) ok
      ∙ words-added lowered placed.firsts (record { place = start; tag = tag })
      ∙ ap (λ w. words_at lowered placed.firsts ++ w ∷ []) (word-is r some ∙ sym word)
      ∙ ap (λ ws. ws ++ read.word ∷ []) (sym noted)
  noted-words (Err y) read r noted word some ok = tt
