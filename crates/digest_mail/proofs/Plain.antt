-- Lines without an LF and without a CR at their end: a text of such lines has just these.
use Rattle.std.proofs.Common.{◌≡◌, ◌≢◌, ◌∙◌, sym, ap, subst, refl, arith, ℕ, zero, suc, ℤ, pos, negsuc, List, [], ◌∷◌, ◌++◌, ◌+◌, ◌-◌, ◌/◌}
use Rattle.std.proofs.Common.{◌%◌, ◌≤◌, ◌<◌, take, drop, length, map, get_or, Bool, true, false, append_assoc, inl, inr}
use Rattle.std.specs.Prelude.{◌==◌, ◌&&◌, ◌⊎◌, not, nat_lt, codes, if◌then◌else◌, reverse}
use Rattle.std.specs.List.{flat_map, suffix_len, slice_split, onto_first}
use Rattle.std.specs.Str.Lines.{lines}
use Rattle.std.specs.Fmt.{decimal, signed_decimal, digits, digits_onto, digit_glyph}
use Rattle.std.proofs.lemmas.Bool.{cases_lt}
use Rattle.std.proofs.lemmas.List.{length-reverse, get_or-reverse, length-take}
use Rattle.std.proofs.lemmas.List.Sums.{prefix_len_stops}
use Rattle.std.proofs.lemmas.Grind.{common_steps}
use Rattle.mail_lines.specs.Lines.{is_end, without_empty_end, NoEnd}
use Rattle.mail_lines.proofs.Ends.{NoEnd-append, NoEnd-take, has_first, parts-line}
use Rattle.mail_fields.specs.Digests.{Digested, without_returns, lined, from_quoted, text_of_lines, from_line, subject_line, digested_lines}
use Rattle.mail_fields.specs.Digests.{digest_lines}
use Rattle.mail_lines.specs.Mbox.{is_from_line, quotes}

-- the last byte is no CR
abbrev pub NoReturn : List ℕ → Type 0
NoReturn line = (get_or line (length line - 1) 0 == 13) ≡ false

-- each is a line
abbrev pub AreLines : List (List ℕ) → Type 0
AreLines [] = Unit {0}
AreLines (line ∷ lines) = NoEnd line × NoReturn line × AreLines lines

pub AreLines-append : (xs ys : List (List ℕ)) → AreLines xs → AreLines ys → AreLines (xs ++ ys)
AreLines-append [] ys a b = b
AreLines-append (x ∷ xs) ys a b = (a.0, a.1, AreLines-append xs ys a.2 b)

-- a line, an LF and a text
first-line : (line rest : List ℕ) → NoEnd line → NoReturn line → lines (line ++ 10 ∷ rest) ≡ line ∷ lines rest
first-line line rest none last = let h = has_first rest in rw (parts-line line rest none, h.is, last) refl

pub lines-of-text : (ls : List (List ℕ)) → AreLines ls → lines (text_of_lines ls) ≡ ls
lines-of-text [] are = refl
lines-of-text (l ∷ ls) are =
    ap lines (append_assoc l (10 ∷ []) (text_of_lines ls))
    ∙ first-line l (text_of_lines ls) are.0 are.1
    ∙ ap (λ rest. l ∷ rest) (lines-of-text ls are.2)

-- bytes that are neither LF nor CR
abbrev pub all_plain : List ℕ → Bool
all_plain [] = true
all_plain (b ∷ bytes) = not (b == 10) && not (b == 13) && all_plain bytes

plain-append : (xs ys : List ℕ) → all_plain xs ≡ true → all_plain ys ≡ true → all_plain (xs ++ ys) ≡ true
plain-append [] ys a b = b
plain-append (x ∷ xs) ys a b = go (not (x == 10)) (not (x == 13)) a (λ e. plain-append xs ys e b) where
  go : (s t : Bool) → (s && t && all_plain xs) ≡ true → (all_plain xs ≡ true → all_plain (xs ++ ys) ≡ true)
      → (s && t && all_plain (xs ++ ys)) ≡ true
  go true true e more = more e
  go true false e more = e
  go false t e more = e

plain-NoEnd : (xs : List ℕ) → all_plain xs ≡ true → NoEnd xs
plain-NoEnd [] e = tt
plain-NoEnd (x ∷ xs) e = go (x == 10) (x == 13) refl e (λ e. plain-NoEnd xs e) where
  go : (s t : Bool) → (x == 10) ≡ s → (not s && not t && all_plain xs) ≡ true → (all_plain xs ≡ true → NoEnd xs) → (x ≢ 10) × NoEnd xs
  go true t is e more = absurd (grind (arith, e))
  go false true is e more = absurd (grind (arith, e))
  go false false is e more = ((λ same. grind (arith, is, same)), more e)

plain-last : (xs : List ℕ) → all_plain xs ≡ true → NoReturn xs
plain-last [] e = refl
plain-last (x ∷ []) e = go (x == 10) (x == 13) e where
  go : (s t : Bool) → (not s && not t && true) ≡ true → t ≡ false
  go true t e = absurd (grind (arith, e))
  go false true e = absurd (grind (arith, e))
  go false false e = refl
plain-last (x ∷ y ∷ xs) e = ap (λ n. get_or (x ∷ y ∷ xs) n 0 == 13) (shift (length xs))
    ∙ plain-last (y ∷ xs) (go (x == 10) (x == 13) e) where
      shift : (n : ℕ) → suc (suc n) - 1 ≡ suc (suc n - 1)
      shift n = omega arith

      go : (s t : Bool) → (not s && not t && all_plain (y ∷ xs)) ≡ true → all_plain (y ∷ xs) ≡ true
      go true t e = absurd (grind (arith, e))
      go false true e = absurd (grind (arith, e))
      go false false e = e

-- the end of a line decides
last-append : (xs ys : List ℕ) → 0 < length ys → NoReturn ys → NoReturn (xs ++ ys)
last-append [] ys some last = last
last-append (x ∷ xs) ys some last = ap (λ n. get_or (x ∷ xs ++ ys) n 0 == 13) (shift (length (xs ++ ys)) (grind (arith, common_steps)))
    ∙ last-append xs ys some last where
      shift : (n : ℕ) → 0 < n → suc n - 1 ≡ suc (n - 1)
      shift n lt = omega arith

-- numbers are plain
glyph-plain : (d : ℕ) (bytes : List ℕ) → all_plain bytes ≡ true → all_plain (digit_glyph false d ∷ bytes) ≡ true
glyph-plain d bytes e = go (nat_lt d 10) where
  high : (x : ℕ) → 48 ≤ x → all_plain (x ∷ bytes) ≡ true
  high x le =
      let a : (x == 10) ≡ false = grind arith in
      let b : (x == 13) ≡ false = grind arith in
      rw (a, b) e

  go : (t : Bool) → all_plain ((if t then 48 + d else 87 + d) ∷ bytes) ≡ true
  go true = high (48 + d) (omega arith)
  go false = high (87 + d) (omega arith)

onto-plain : (k n : ℕ) (bytes : List ℕ) → all_plain bytes ≡ true → all_plain (digits_onto k 10 false n bytes) ≡ true
onto-plain zero n bytes e = e
onto-plain (suc k) n bytes e =
    go (n / 10 == 0) (onto-plain k (n / 10) (digit_glyph false (n % 10) ∷ bytes) (glyph-plain (n % 10) bytes e)) where
      go : (t : Bool) → all_plain (digits_onto k 10 false (n / 10) (digit_glyph false (n % 10) ∷ bytes)) ≡ true
          → all_plain (if t then digit_glyph false (n % 10) ∷ bytes
          else digits_onto k 10 false (n / 10) (digit_glyph false (n % 10) ∷ bytes))
          ≡ true
      go true more = glyph-plain (n % 10) bytes e
      go false more = more

decimal-plain : (n : ℕ) → all_plain (decimal n) ≡ true
unfolding digits
decimal-plain n = onto-plain 64 n [] refl

signed-plain : (z : ℤ) → all_plain (signed_decimal z) ≡ true
signed-plain (pos n) = decimal-plain n
signed-plain (negsuc n) = decimal-plain (suc n)

-- the line before a document
from-plain : (doc : ℕ) (first : ℤ) → all_plain (from_line doc first) ≡ true
from-plain doc first =
    let number = plain-append (codes "From doc ") (decimal doc) refl (decimal-plain doc) in
    let word = plain-append (codes "From doc " ++ decimal doc) (codes " first ") number refl in
    plain-append (codes "From doc " ++ decimal doc ++ codes " first ") (signed_decimal first) word (signed-plain first)

-- the subject
subject-ends : (name : List ℕ) (ordinal : ℕ) → NoEnd name → NoEnd (subject_line name ordinal)
subject-ends name ordinal none =
    let named = NoEnd-append (codes "Subject: digest ") name (plain-NoEnd (codes "Subject: digest ") refl) none in
    let blank = NoEnd-append (codes "Subject: digest " ++ name) (codes " ") named (plain-NoEnd (codes " ") refl) in
    NoEnd-append (codes "Subject: digest " ++ name ++ codes " ") (decimal ordinal) blank
    (plain-NoEnd (decimal ordinal) (decimal-plain ordinal))

subject-last : (name : List ℕ) (ordinal : ℕ) → NoReturn (subject_line name ordinal)
subject-last name ordinal = subst (λ l. NoReturn l) (sym (append_assoc front (codes " ") (decimal ordinal)))
    (last-append front (32 ∷ decimal ordinal) (omega arith) (plain-last (32 ∷ decimal ordinal) number)) where
      front : List ℕ
      front = codes "Subject: digest " ++ name

      number : all_plain (32 ∷ decimal ordinal) ≡ true
      number = decimal-plain ordinal

-- the parts between LFs have none
AllNoEnd : List (List ℕ) → Type 0
AllNoEnd [] = Unit {0}
AllNoEnd (part ∷ parts) = NoEnd part × AllNoEnd parts

parts-NoEnd : (text : List ℕ) → AllNoEnd (slice_split is_end text)
unfolding AllNoEnd
parts-NoEnd [] = (tt, tt)
parts-NoEnd (x ∷ xs) = go (x == 10) refl (slice_split is_end xs) (parts-NoEnd xs) where
  go : (t : Bool) → (x == 10) ≡ t → (parts : List (List ℕ)) → AllNoEnd parts → AllNoEnd (if t then [] ∷ parts else onto_first x parts)
  go true e parts none = (tt, none)
  go false e [] none = ((((λ same. grind (arith, e, same)), tt)), tt)
  go false e (part ∷ parts) none = (((λ same. grind (arith, e, same)), none.0), none.1)

without-NoEnd : (parts : List (List ℕ)) → AllNoEnd parts → AllNoEnd (without_empty_end parts)
unfolding AllNoEnd
without-NoEnd [] none = none
without-NoEnd (part ∷ []) none = go (length part == 0) where
  go : (t : Bool) → AllNoEnd (if t then [] else part ∷ [])
  go true = tt
  go false = none
without-NoEnd (part ∷ other ∷ parts) none = (none.0, without-NoEnd (other ∷ parts) none.1)

-- a line without its CRs ends in none
returns-gone : (line : List ℕ) → NoReturn (without_returns line)
returns-gone line = go (suffix_len (λ b. b == 13) line) refl (cases_lt (suffix_len (λ b. b == 13) line) (length line)) where
  go : (n : ℕ) → n ≡ suffix_len (λ b. b == 13) line → (n < length line) ⊎ (length line ≤ n) → NoReturn (take (length line - n) line)
  go n is (inr le) = let none : length line - n ≡ 0 = omega arith in rw none refl
  go n is (inl lt) =
      let some : suffix_len (λ b. b == 13) line < length (reverse line) = grind (arith, length-reverse line, lt, is) in
      let stops : (get_or (reverse line) n 0 == 13) ≡ false = ap (λ k. get_or (reverse line) k 0 == 13) is
      ∙ prefix_len_stops (λ b. b == 13) (reverse line) 0 some in
      let at : get_or (reverse line) n 0 ≡ get_or line (length line - 1 - n) 0 = get_or-reverse line n 0 lt in
      let long : length (take (length line - n) line) ≡ length line - n = grind (arith, length-take (length line - n) line) in
      let same : get_or (take (length line - n) line) (length (take (length line - n) line) - 1) 0 ≡ get_or line (length line - 1 - n) 0 =
      grind (arith, common_steps, long, lt) in
      ap (λ b. b == 13) (same ∙ sym at) ∙ stops

-- a line that is quoted
quoted-line : (line : List ℕ) → NoEnd line → NoReturn line → NoEnd (from_quoted line) × NoReturn (from_quoted line)
quoted-line line none last = go (is_from_line (drop (quotes line) line)) where
  other : (b : ℕ) → b ≡ 62 → b ≢ 10
  other b is same = grind (arith, is, same)

  longer : (line : List ℕ) → NoReturn line → NoReturn (62 ∷ line)
  longer [] last = refl
  longer (x ∷ xs) last = last-append (62 ∷ []) (x ∷ xs) (omega arith) last

  go : (t : Bool) → NoEnd (if t then 62 ∷ line else line) × NoReturn (if t then 62 ∷ line else line)
  go true = ((other 62 refl, none), longer line last)
  go false = (none, last)

quoted-lines : (parts : List (List ℕ)) → AllNoEnd parts → AreLines (map from_quoted (map without_returns parts))
unfolding AllNoEnd
quoted-lines [] none = tt
quoted-lines (part ∷ parts) none =
    let line =
    quoted-line (without_returns part) (NoEnd-take (length part - suffix_len (λ b. b == 13) part) part none.0) (returns-gone part) in
    (line.0, line.1, quoted-lines parts none.1)

-- the lines of a document
document-lines : (d : Digested) → AreLines (digested_lines d)
document-lines d =
    let text =
    quoted-lines (without_empty_end (slice_split is_end d.text)) (without-NoEnd (slice_split is_end d.text) (parts-NoEnd d.text)) in
    let plain = from-plain d.doc d.first in (
      plain-NoEnd (from_line d.doc d.first) plain,
      plain-last (from_line d.doc d.first) plain,
      AreLines-append (map from_quoted (lined d.text)) ([] ∷ []) text (tt, refl, tt),
    )

all-lines : (docs : List Digested) → AreLines (flat_map digested_lines docs)
all-lines [] = tt
all-lines (d ∷ docs) = AreLines-append (digested_lines d) (flat_map digested_lines docs) (document-lines d) (all-lines docs)

-- the lines of a digest
pub digest-lines-are : (name : List ℕ) (ordinal : ℕ) (docs : List Digested) → NoEnd name → AreLines (digest_lines name ordinal docs)
digest-lines-are name ordinal docs none =
    let from = codes "From: tapestry" in
    (plain-NoEnd from refl, plain-last from refl, (subject-ends name ordinal none, subject-last name ordinal, (tt, refl, all-lines docs)))
