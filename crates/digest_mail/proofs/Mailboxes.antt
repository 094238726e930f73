-- The messages of a digest.
use Rattle.std.proofs.Common.{◌≡◌, ◌∙◌, ap, refl, arith, ℕ, suc, List, [], ◌∷◌, ◌++◌, ◌+◌, length, drop, map, Bool, true, false}
use Rattle.std.specs.Prelude.{◌==◌, ◌&&◌, nat_lt, cond, codes, if◌then◌else◌}
use Rattle.std.specs.List.{flat_map}
use Rattle.mail_lines.specs.Lines.{without_empty_end, NoEnd}
use Rattle.mail_lines.specs.Mbox.{is_from_line, message_from, messages_from, quotes, unquoted, line_text, message_text, mbox_messages}
use Rattle.mail_lines.specs.Mbox.{at_message}
use Rattle.mail_fields.specs.Digests.{Digested, lined, lined_text, from_quoted, text_of_lines, subject_line, digested_lines, digest_lines}
use Rattle.mail_fields.specs.Digests.{digest_text}
use Rattle.digest_mail.proofs.Plain.{lines-of-text, digest-lines-are}

-- a quoted line is no `From ` line
not-from : (line : List ℕ) → is_from_line (from_quoted line) ≡ false
not-from line = go (is_from_line (drop (quotes line) line)) refl where
  whole : (line : List ℕ) → is_from_line (drop (quotes line) line) ≡ false → is_from_line line ≡ false
  whole [] e = e
  whole (x ∷ xs) e = at (x == 62) refl e where
    other : (x == 62) ≡ true → (70 == x) ≡ false
    other is = grind (arith, is)

    at : (t : Bool) → (x == 62) ≡ t → is_from_line (drop (cond t (1 + quotes xs) 0) (x ∷ xs)) ≡ false → is_from_line (x ∷ xs) ≡ false
    at true is e = rw (other is) refl
    at false is e = e

  go : (t : Bool) → is_from_line (drop (quotes line) line) ≡ t → is_from_line (if t then 62 ∷ line else line) ≡ false
  go true e = refl
  go false e = whole line e

-- a quoted line, unquoted, is the line
unquoted-quoted : (line : List ℕ) → unquoted (from_quoted line) ≡ line
unquoted-quoted line = go (is_from_line (drop (quotes line) line)) refl where
  more : (n : ℕ) → 1 + n ≡ suc n
  more n = omega arith

  above : (n : ℕ) → nat_lt 0 (suc n) ≡ true
  above n = grind arith

  stays : (s t : Bool) → t ≡ false → (if s && t then drop 1 line else line) ≡ line
  stays true true e = absurd (grind (arith, e))
  stays true false e = refl
  stays false t e = refl

  go : (t : Bool) → is_from_line (drop (quotes line) line) ≡ t → unquoted (if t then 62 ∷ line else line) ≡ line
  go true e = rw (more (quotes line), above (quotes line), e) refl
  go false e = stays (nat_lt 0 (quotes line)) (is_from_line (drop (quotes line) line)) e

-- a line that begins no message
message-line : (opens : Bool) (line : List ℕ) (rest : List (List ℕ)) → is_from_line line ≡ false
    → message_from opens (line ∷ rest) ≡ line ∷ message_from (length line == 0) rest
message-line true line rest e = ap (λ t. if t then [] else line ∷ message_from (length line == 0) rest) e
message-line false line rest e = refl

messages-line : (opens : Bool) (line : List ℕ) (rest : List (List ℕ)) → is_from_line line ≡ false
    → messages_from opens (line ∷ rest) ≡ messages_from (length line == 0) rest
messages-line true line rest e =
    ap (λ t. if t then message_from false rest ∷ messages_from false rest else messages_from (length line == 0) rest) e
messages-line false line rest e = refl

-- the lines of a message in a digest
abbrev body : List (List ℕ) → List (List ℕ)
body ls = map from_quoted ls ++ [] ∷ []

-- a message ends before the next
message-ends : (rest : List (List ℕ)) → at_message rest ≡ true → message_from true rest ≡ []
message-ends [] at = refl
message-ends (line ∷ rest) at = ap (λ t. if t then [] else line ∷ message_from (length line == 0) rest) at

one-message : (opens : Bool) (ls rest : List (List ℕ)) → at_message rest ≡ true → message_from opens (body ls ++ rest) ≡ body ls
one-message opens [] rest at = message-line opens [] rest refl ∙ ap (λ r. [] ∷ r) (message-ends rest at)
one-message opens (l ∷ ls) rest at =
    message-line opens (from_quoted l) (body ls ++ rest) (not-from l)
    ∙ ap (λ r. from_quoted l ∷ r) (one-message (length (from_quoted l) == 0) ls rest at)

more-messages : (opens : Bool) (ls rest : List (List ℕ)) → messages_from opens (body ls ++ rest) ≡ messages_from true rest
more-messages opens [] rest = messages-line opens [] rest refl
more-messages opens (l ∷ ls) rest = messages-line opens (from_quoted l) (body ls ++ rest) (not-from l)
    ∙ more-messages (length (from_quoted l) == 0) ls rest

-- the messages of the documents
at-docs : (docs : List Digested) → at_message (flat_map digested_lines docs) ≡ true
at-docs [] = refl
at-docs (d ∷ docs) = refl

document-messages : (docs : List Digested) → messages_from true (flat_map digested_lines docs) ≡ map (λ d. body (lined d.text)) docs
document-messages [] = refl
document-messages (d ∷ docs) =
    let rest = flat_map digested_lines docs in
    ap (λ m. m ∷ messages_from false (body (lined d.text) ++ rest)) (one-message false (lined d.text) rest (at-docs docs))
    ∙ ap (λ ms. body (lined d.text) ∷ ms) (more-messages false (lined d.text) rest ∙ document-messages docs)

-- the messages of a digest
digest-messages : (name : List ℕ) (ordinal : ℕ) (docs : List Digested)
    → messages_from true (digest_lines name ordinal docs) ≡ map (λ d. body (lined d.text)) docs
digest-messages name ordinal docs =
    let rest = flat_map digested_lines docs in
    messages-line true (codes "From: tapestry") (subject_line name ordinal ∷ [] ∷ rest) refl
    ∙ messages-line false (subject_line name ordinal) ([] ∷ rest) refl
    ∙ messages-line (length (subject_line name ordinal) == 0) [] rest refl
    ∙ document-messages docs

-- the text of a message
body-lines : (ls : List (List ℕ)) → without_empty_end (ls ++ [] ∷ []) ≡ ls
body-lines [] = refl
body-lines (l ∷ []) = refl
body-lines (l ∷ m ∷ ls) = ap (λ r. l ∷ r) (body-lines (m ∷ ls))

unquoted-lines : (ls : List (List ℕ)) → flat_map line_text (map from_quoted ls) ≡ text_of_lines ls
unquoted-lines [] = refl
unquoted-lines (l ∷ ls) =
    ap (λ line. (line ++ 10 ∷ []) ++ flat_map line_text (map from_quoted ls)) (unquoted-quoted l)
    ∙ ap (λ r. (l ++ 10 ∷ []) ++ r) (unquoted-lines ls)

body-text : (ls : List (List ℕ)) → message_text (body ls) ≡ text_of_lines ls
body-text ls = ap (flat_map line_text) (body-lines (map from_quoted ls)) ∙ unquoted-lines ls

body-texts : (docs : List Digested) → map message_text (map (λ d. body (lined d.text)) docs) ≡ map (λ d. lined_text d.text) docs
body-texts [] = refl
body-texts (d ∷ docs) = ap (λ t. t ∷ map message_text (map (λ d. body (lined d.text)) docs)) (body-text (lined d.text))
    ∙ ap (λ r. lined_text d.text ∷ r) (body-texts docs)

pub digests-are-mailboxes : (name : List ℕ) (ordinal : ℕ) (docs : List Digested) → NoEnd name
    → mbox_messages (digest_text name ordinal docs) ≡ map (λ d. lined_text d.text) docs
digests-are-mailboxes name ordinal docs none =
    ap (λ ls. map message_text (messages_from true ls))
    (lines-of-text (digest_lines name ordinal docs) (digest-lines-are name ordinal docs none))
    ∙ ap (map message_text) (digest-messages name ordinal docs)
    ∙ body-texts docs
