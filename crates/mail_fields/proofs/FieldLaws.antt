-- The fields of a message, one by one.
use Rattle.std.proofs.Common.{◌≡◌, ◌∙◌, refl, sym, ap, ℕ, Bool, true, false, List, [], ◌∷◌, ◌++◌}
use Rattle.std.specs.Prelude.{codes, Option, ℤ, not, ◌||◌}
use Rattle.std.specs.List.{list_any, list_all}
use Rattle.std.specs.Str.{bytes_eq}
use Rattle.std.proofs.lemmas.Bool.{and_parts, and_from, false≢true, not-true}
use Rattle.std.proofs.lemmas.List.{append-nil, append_assoc}
use Rattle.std.proofs.lemmas.List.Folds.{list_any-append}
use Rattle.std.specs.Option.{option_and_then}
use Rattle.tap_rows.specs.Headers.{HeaderField, values_of}
use Rattle.tap_rows.specs.Entries.{listed, referred, identified}
use Rattle.tap_rows.specs.Dates.{date_of}
use Rattle.tap_base.specs.Words.{has_text, with_new}
use Rattle.mail_fields.specs.Different.{are_different}
use Rattle.tap_rows.specs.Fields.{fields_in, value_of, entry_of, distinct_entries, message_words}

pub fields-same :
    (header : List HeaderField) (body : List (List ℕ)) (n : ℕ) (d : Option ℤ) (f s m i : Option (List ℕ)) (t c g r w : List (List ℕ))
    → d ≡ option_and_then date_of (value_of (codes "Date") header) → f ≡ entry_of listed (value_of (codes "From") header)
    → s ≡ value_of (codes "Subject") header
    → m ≡ entry_of identified (value_of (codes "Message-ID") header) → i ≡ entry_of identified (value_of (codes "In-Reply-To") header)
    → t ≡ distinct_entries listed (values_of (codes "To") header) → c ≡ distinct_entries listed (values_of (codes "Cc") header)
    → g ≡ distinct_entries listed (values_of (codes "Newsgroups") header)
    → r ≡ distinct_entries referred (values_of (codes "References") header)
    → w ≡ message_words (value_of (codes "Subject") header) body
    → record {
      date = d;
      from = f;
      subject = s;
      msgid = m;
      inreplyto = i;
      to = t;
      cc = c;
      newsgroups = g;
      references = r;
      words = w;
      size = n;
    } ≡ fields_in header body n
fields-same header body n d f s m i t c g r w ed ef es em ei et ec eg er ew j = record {
  date = ed j;
  from = ef j;
  subject = es j;
  msgid = em j;
  inreplyto = ei j;
  to = et j;
  cc = ec j;
  newsgroups = eg j;
  references = er j;
  words = ew j;
  size = n;
}

-- texts of which no two are equal all stay, behind texts that equal none of them
abbrev none_of : List (List ℕ) → List (List ℕ) → Bool
none_of held texts = list_all (λ text. not (has_text held text)) texts

has-append : (held : List (List ℕ)) (text last : List ℕ) → has_text held text ≡ false → bytes_eq text last ≡ false
    → has_text (held ++ last ∷ []) text ≡ false
has-append held text last none other = list_any-append (λ x. bytes_eq text x) held (last ∷ []) ∙ rw (none, other) refl

none-more : (held texts : List (List ℕ)) (text : List ℕ) → none_of held texts ≡ true → list_any (λ other. bytes_eq other text) texts ≡ false
    → none_of (held ++ text ∷ []) texts ≡ true
none-more held [] text none different = refl
none-more held (x ∷ texts) text none different =
    let n = and_parts (not (has_text held x)) (none_of held texts) none in
    let d = or_parts (bytes_eq x text) (list_any (λ other. bytes_eq other text) texts) different in
    and_from _ _ (ap not (has-append held x text (not-true (has_text held x) n.0) d.0)) (none-more held texts text n.1 d.1)
  where
    or_parts : (a b : Bool) → (a || b) ≡ false → (a ≡ false) × (b ≡ false)
    or_parts false false e = (refl, refl)
    or_parts false true e = absurd (false≢true (sym e))
    or_parts true b e = absurd (false≢true (sym e))

all-stay : (held texts : List (List ℕ)) → none_of held texts ≡ true → are_different texts ≡ true → held ++ texts ≡ with_new held texts
all-stay held [] none different = append-nil held
all-stay held (text ∷ texts) none different =
    let n = and_parts (not (has_text held text)) (none_of held texts) none in
    let d = and_parts (not (list_any (λ other. bytes_eq other text) texts)) (are_different texts) different in
    let fresh : has_text held text ≡ false = not-true (has_text held text) n.0 in
    rw fresh (sym (append_assoc held (text ∷ []) texts)
    ∙ all-stay (held ++ text ∷ []) texts (none-more held texts text n.1 (not-true _ d.0)) d.1)

none-held : (texts : List (List ℕ)) → none_of [] texts ≡ true
none-held [] = refl
none-held (text ∷ texts) = none-held texts

pub different-stay : (texts : List (List ℕ)) → are_different texts ≡ true → texts ≡ with_new [] texts
different-stay texts different = all-stay [] texts (none-held texts) different
