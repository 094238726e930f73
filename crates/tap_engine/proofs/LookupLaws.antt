-- Look-ups: what is in memory shows what the tables say.
use Rattle.std.proofs.Common.{◌≡◌, ◌∙◌, sym, refl, ap, subst, arith, ℕ, zero, suc, ◌+◌, ◌≤◌, ℤ, List, [], ◌∷◌, ◌++◌, length, map, Bool}
use Rattle.std.proofs.Common.{true, false, Option, Some, None, nat_eq, if◌then◌else◌}
use Rattle.std.specs.Prelude.{◌||◌, ◌&&◌, ◌==◌, ◌-◌, filter, nat_le, slice_get, Result, Ok, Err, IfOk, IfErr}
use Rattle.std.specs.Option.{option_or}
use Rattle.std.specs.Str.{bytes_eq}
use Rattle.tap_rows.specs.declared.tables.Tables.{Tables}
use Rattle.tap_rows.specs.declared.rows.Doc.{Doc}
use Rattle.tap_rows.specs.declared.rows.Note.{Note}
use Rattle.tap_rows.specs.declared.rows.QueryRow.{QueryRow}
use Rattle.tap_rows.specs.declared.results.Entry.{Entry}
use Rattle.tap_rows.specs.WellFormed.{row_at}
use Rattle.tap_rows.specs.Results.{last_or, run_moments}
use Rattle.tap_rows.specs.Kept.{Each, IsKeptQuery}
use Rattle.row_index.specs.Held.{indexed_notes}
use Rattle.row_index.specs.Orders.{Numbered, doc_number}
use Rattle.appraiser.proofs.DocPlaces.{doc-placed}
use Rattle.restart_core.specs.Starts.{condition_text}
use Rattle.script_lang.specs.declared.command.Command.TheVariants.{Find}
use Rattle.script_lang.specs.declared.lookup.Lookup.{Lookup}
use Rattle.script_lang.specs.declared.lookup.Lookup.TheVariants.{ShowDoc, ListNotes, ListQueries, Count}
use Rattle.script_lang.specs.declared.lookup.Found.TheVariants.{DocNotes, UserQueries, Counts}
use Rattle.script_lang.specs.declared.refusal.Refusal.{Refusal}
use Rattle.script_lang.specs.declared.refusal.Refusal.TheVariants.{NoDoc}
use Rattle.script_lang.specs.declared.reply.Reply.{Reply}
use Rattle.script_lang.specs.declared.reply.Reply.TheVariants.{Found}
use Rattle.script_lang.specs.Rows.{note_text, query_text}
use Rattle.tap_model.specs.Sessions.{or_zero, user_of, greatest_moment}
use Rattle.tap_model.specs.Queries.{query_truth, start_of}
use Rattle.tap_model.specs.Sound.{IsSoundFor}
use Rattle.tap_model.specs.Verdicts.{first_refusal, verdict, missing, refuse_unless, no_user, no_doc}
use Rattle.tap_model.specs.Lookups.{doc_numbered, notes_on, last_of, query_line, shown_doc, lookup_reply}
use Rattle.tap_model.specs.Stories.{Refuses}
use Rattle.tap_kept.specs.Keeping.{cached_query}
use Rattle.tap_kept.specs.Lines.{last_run, cached_line, owned_lines}
use Rattle.tap_engine.specs.declared.engine.Engine.{Engine}
use Rattle.tap_engine.specs.Standing.{Represents, RefusedBy}
use Rattle.tap_engine.specs.Answering.{Answers, IsReplyTo, RefusesAsModel}
use Rattle.tap_engine.specs.Costs.{most_steps, lookup_work}
use Rattle.tap_engine.specs.Lookups.{lookup_refusal, cached_found, IsFoundFor, LookupRefuses, cached_lookup_work}
use Rattle.tap_engine.proofs.AddedRows.{docs-are, notes-are}
use Rattle.tap_engine.proofs.UndoLaws.{answers-accepted, refused-after}

-- the notes that the index hands out are those on the document
notes-same : (num : ℕ) (notes : List Note) → indexed_notes num notes ≡ notes_on num notes
notes-same num [] = refl
notes-same num (note ∷ notes) = rw (turned num note.doc.0, notes-same num notes) refl where
  turned : (a b : ℕ) → (nat_eq a b || false) ≡ nat_eq b a
  turned a b = grind arith

-- there is a row at a place among the first ones, and nowhere else
place-missing : (k : ℕ) (docs : List Doc) → missing NoDoc (slice_get docs k) ≡ refuse_unless (nat_le (suc k) (length docs)) NoDoc
place-missing k [] = ap (λ b. refuse_unless b NoDoc) (sym (over k)) where
  over : (k : ℕ) → nat_le (suc k) 0 ≡ false
  over k = grind arith
place-missing zero (doc ∷ docs) = ap (λ b. refuse_unless b NoDoc) (sym (first (length docs))) where
  first : (n : ℕ) → nat_le 1 (suc n) ≡ true
  first n = grind arith
place-missing (suc k) (doc ∷ docs) = place-missing k docs ∙ ap (λ b. refuse_unless b NoDoc) (next k (length docs)) where
  next : (k n : ℕ) → nat_le (suc k) n ≡ nat_le (suc (suc k)) (suc n)
  next k n = grind arith

-- no document of this number is found if and only if that many documents have none
doc-missing : (num : ℕ) (docs : List Doc) → Numbered doc_number 1 docs → missing NoDoc (doc_numbered num docs) ≡ no_doc num (length docs)
unfolding no_doc
doc-missing num docs numbered = ap (missing NoDoc) (doc-placed num docs numbered) ∙ go num where
  go : (num : ℕ) → missing NoDoc (row_at num docs) ≡ refuse_unless (nat_le 1 num && nat_le num (length docs)) NoDoc
  go zero = refl
  go (suc k) = rw (some k, less k, one k) (place-missing k docs) where
    some : (k : ℕ) → (suc k == 0) ≡ false
    some k = grind arith

    less : (k : ℕ) → suc k - 1 ≡ k
    less k = omega arith

    one : (k : ℕ) → nat_le 1 (suc k) ≡ true
    one k = grind arith

one : (x : Option Refusal) → first_refusal (x ∷ []) ≡ x
one None = refl
one (Some x) = refl

-- a look-up is refused as its verdict says
lookup-verdict : (lookup : Lookup) (e : Engine) (t : Tables) → Represents e t → Numbered doc_number 1 e.index.docs
    → lookup_refusal lookup e ≡ verdict (Find lookup) e.session t
lookup-verdict (ShowDoc num) e t represents numbered =
    doc-missing num e.index.docs numbered ∙ ap (λ docs. no_doc num (length docs)) (docs-are represents)
    ∙ sym (one (no_doc num (length t.docs)))
lookup-verdict (ListNotes num) e t represents numbered = ap (λ docs. no_doc num (length docs)) (docs-are represents)
    ∙ sym (one (no_doc num (length t.docs)))
lookup-verdict ListQueries e t represents numbered = sym (one (no_user e.session))
lookup-verdict Count e t represents numbered = refl

lookup-refuses : (lookup : Lookup) (e : Engine) (refusal : Refusal) → Numbered doc_number 1 e.index.docs → LookupRefuses lookup e refusal
    → (t : Tables) → Represents e t → Refuses refusal (Find lookup) e.session t
lookup-refuses (ShowDoc num) e refusal numbered
    by t represents = refused-after _ _ refusal (subst (λ v. RefusedBy v refusal) (lookup-verdict (ShowDoc num) e t represents numbered) by)
lookup-refuses (ListNotes num) e refusal numbered by t represents =
    refused-after _ _ refusal (subst (λ v. RefusedBy v refusal) (lookup-verdict (ListNotes num) e t represents numbered) by)
lookup-refuses ListQueries e refusal numbered
    by t represents = refused-after _ _ refusal (subst (λ v. RefusedBy v refusal) (lookup-verdict ListQueries e t represents numbered) by)
lookup-refuses Count e refusal numbered by t represents = absurd by

-- the last of some moments is the second that they cover, if there is one
last-same : (start : ℤ) (moments : List ℤ) → last_run (length moments) (last_or start moments) ≡ last_of moments
last-same start [] = refl
last-same start (m ∷ ms) = ap (λ b. if b then None else Some (last_or m ms)) (some (length ms)) where
  some : (n : ℕ) → (suc n == 0) ≡ false
  some n = grind arith

line-same : (t : Tables) (q : QueryRow) → IsKeptQuery query_truth start_of t q → cached_line (cached_query t q) ≡ query_line t q
line-same t q kept =
    let shows : Option ℤ → List Entry → List ℕ = λ last entries.
    query_text q.name
    (record { arrival = q.arrival; start = start_of q; runs = length (run_moments q.num.0 t.runs); last = last; boxed = length entries })
    (condition_text q.source) in
    ap (λ last. shows last (cached_query t q).entries) (last-same (start_of q) (run_moments q.num.0 t.runs))
    ∙ ap (shows (last_of (run_moments q.num.0 t.runs))) kept.box

-- the lines of the user's queries, whose boxes are what they delivered
lines-same : (user : List ℕ) (t : Tables) (qs : List QueryRow) → Each (IsKeptQuery query_truth start_of t) qs
    → owned_lines user (map (cached_query t) qs) ≡ map (query_line t) (filter (λ q. bytes_eq q.owner user) qs)
lines-same user t [] each = refl
lines-same user t (q ∷ qs) each = go (bytes_eq q.owner user) (lines-same user t qs each.1) where
  both : (x y : List ℕ) (xs ys : List (List ℕ)) → x ≡ y → xs ≡ ys → x ∷ xs ≡ y ∷ ys
  both x y xs ys e f = rw (e, f) refl

  go : (b : Bool) → owned_lines user (map (cached_query t) qs) ≡ map (query_line t) (filter (λ q. bytes_eq q.owner user) qs)
      → (if b then cached_line (cached_query t q) ∷ [] else []) ++ owned_lines user (map (cached_query t) qs)
      ≡ map (query_line t) (if b then q ∷ filter (λ q. bytes_eq q.owner user) qs else filter (λ q. bytes_eq q.owner user) qs)
  go true rest = both _ _ _ _ (line-same t q each.0) rest
  go false rest = rest

moment-same : (e : Engine) (t : Tables) → Represents e t
    → option_or e.session.moment e.greatest ≡ option_or e.session.moment (greatest_moment t)
moment-same e t represents = go e.session.moment refl where
  go : (o : Option ℤ) → e.session.moment ≡ o → option_or e.session.moment e.greatest ≡ option_or e.session.moment (greatest_moment t)
  go None is = ap (option_or e.session.moment) (represents.greatest is)
  go (Some m) is = ap (λ o. option_or o e.greatest) is ∙ sym (ap (λ o. option_or o (greatest_moment t)) is)

found-same : (lookup : Lookup) (e : Engine) (t : Tables) → Represents e t → IsSoundFor (Find lookup) t e.session
    → cached_found lookup e ≡ lookup_reply lookup e.session t
found-same (ShowDoc num) e t represents sound = ap (λ docs. shown_doc num (doc_numbered num docs)) (docs-are represents)
found-same (ListNotes num) e t represents sound =
    ap (λ notes. Found (DocNotes num) (map note_text notes)) (notes-same num e.index.notes)
    ∙ ap (λ notes. Found (DocNotes num) (map note_text (notes_on num notes))) (notes-are represents)
found-same ListQueries e t represents sound =
    ap (λ queries. Found UserQueries (owned_lines (user_of e.session) queries)) represents.queries
    ∙ ap (Found UserQueries) (lines-same (user_of e.session) t t.queries (sound.kept refl).each)
found-same Count e t represents sound =
    ap (λ docs. Found (Counts (length docs) (length e.index.notes) (or_zero (option_or e.session.moment e.greatest))) [])
    (docs-are represents)
    ∙ ap (λ notes. Found (Counts (length t.docs) (length notes) (or_zero (option_or e.session.moment e.greatest))) [])
    (notes-are represents)
    ∙ ap (λ moment. Found (Counts (length t.docs) (length t.notes) (or_zero moment)) []) (moment-same e t represents)

answers-lookup : (lookup : Lookup) (e : Engine) (t : Tables) (reply : Reply) → Represents e t → IsSoundFor (Find lookup) t e.session
    → Numbered doc_number 1 e.index.docs → lookup_refusal lookup e ≡ None → reply ≡ cached_found lookup e
    → Answers t e.session (Find lookup) reply None e.session
answers-lookup lookup e t reply represents sound numbered none is =
    let accepted = answers-accepted t e.session (Find lookup) (sym (lookup-verdict lookup e t represents numbered) ∙ none) in
    record {
      fine = accepted.fine;
      reply_is = is ∙ found-same lookup e t represents sound ∙ accepted.reply_is;
      change_is = accepted.change_is;
      session_is = accepted.session_is;
    }

-- what isn't refused is answered, and what is refused is as the model says
pub each-reply : (lookup : Lookup) (e : Engine) (r : Result Reply Refusal) → Numbered doc_number 1 e.index.docs
    → IfOk r (IsFoundFor lookup e) → IfOk r (IsReplyTo e (Find lookup))
each-reply lookup e (Ok reply) numbered found = record {
  answer = λ t represents sound. answers-lookup lookup e t reply represents sound numbered found.fine found.reply_is;
  short = found.short;
  accepted = found.accepted;
}
each-reply lookup e (Err refusal) numbered found = tt

pub each-refusal : (lookup : Lookup) (e : Engine) (r : Result Reply Refusal) → Numbered doc_number 1 e.index.docs
    → IfErr r (LookupRefuses lookup e) → IfErr r (RefusesAsModel e (Find lookup))
each-refusal lookup e (Ok reply) numbered by = tt
each-refusal lookup e (Err refusal) numbered by = λ t represents. lookup-refuses lookup e refusal numbered by t represents

-- the steps that a look-up may take
pub most-lookup : (lookup : Lookup) (e : Engine) (new old : ℕ) → new ≤ old + cached_lookup_work lookup e → (t : Tables) → Represents e t
    → new ≤ old + most_steps (Find lookup) e.session t
most-lookup lookup e new old le t represents = subst (λ n. new ≤ old + n) (go lookup) le where
  go : (lookup : Lookup) → cached_lookup_work lookup e ≡ lookup_work lookup t
  go (ShowDoc num) = refl
  go (ListNotes num) = ap length (notes-same num e.index.notes) ∙ ap (λ notes. length (notes_on num notes)) (notes-are represents)
  go ListQueries = refl
  go Count = refl
