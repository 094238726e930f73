-- Messages: why a mailbox file is refused, and what the engine represents after documents were added.
use Rattle.std.proofs.Common.{◌≡◌, ◌∙◌, sym, refl, ap, subst, arith, ℕ, ℤ, List, [], ◌∷◌, ◌+◌, ◌*◌, ◌≤◌, suc, length, Bool, true, false}
use Rattle.std.proofs.Common.{Option, Some, None}
use Rattle.std.specs.Prelude.{◌&&◌, ◌==◌, nat_le, sum_by}
use Rattle.std.specs.Option.{option_or}
use Rattle.std.proofs.lemmas.List.{append-nil}
use Rattle.std.proofs.lemmas.List.Sums.{sum_by-append, sum_by-cons}
use Rattle.std.proofs.lemmas.Bool.{and_parts}
use Rattle.tap_rows.specs.declared.tables.Tables.{Tables}
use Rattle.tap_rows.specs.declared.rows.Doc.{Doc}
use Rattle.tap_rows.specs.declared.change.Change.{Change}
use Rattle.tap_rows.specs.declared.change.Change.TheVariants.{Docs}
use Rattle.tap_rows.specs.Tables.{after}
use Rattle.mail_lines.specs.declared.block.Block.{Block}
use Rattle.script_lang.specs.declared.refusal.Refusal.{Refusal}
use Rattle.script_lang.specs.declared.refusal.Refusal.TheVariants.{NoMoment}
use Rattle.script_lang.specs.declared.refusal.LimitName.TheVariants.{Documents, Store}
use Rattle.script_lang.specs.declared.command.Command.TheVariants.{Mail, Mbox}
use Rattle.script_lang.specs.declared.reply.Reply.TheVariants.{OneDoc, Docs as DocsAdded}
use Rattle.tap_model.specs.Limits.{document_limit, store_limit}
use Rattle.tap_model.specs.declared.session.Session.{Session}
use Rattle.tap_model.specs.Sessions.{moment_or_zero}
use Rattle.tap_model.specs.Limits.{limit_refusal}
use Rattle.tap_model.specs.Verdicts.{first_refusal, verdict, missing, no_moment, messages_of, are_short, long_message}
use Rattle.tap_model.specs.Verdicts.{long_block, bytes_of_all, block_text}
use Rattle.tap_model.specs.Replies.{docs_from, next_docs, some_docs, tables_after}
use Rattle.tap_model.specs.Stories.{Refuses}
use Rattle.tap_model.proofs.AnswerLaws.{some-none}
use Rattle.tap_engine.specs.Answering.{Answers}
use Rattle.tap_engine.proofs.AddedRows.{docs-are}
use Rattle.tap_engine.proofs.UndoLaws.{answers-accepted, refused-after}
use Rattle.query_eval.specs.Hits.{HitsWithRoom}
use Rattle.tap_engine.specs.declared.engine.Engine.{Engine}
use Rattle.tap_engine.specs.Standing.{Represents, mbox_bounds, mbox_refusal, RefusedAfter}

first-or : (a : Option Refusal) (rest : List (Option Refusal)) → option_or a (first_refusal rest) ≡ first_refusal (a ∷ rest)
first-or None rest = refl
first-or (Some x) rest = refl

-- a mailbox file is refused as its verdict says
pub mbox-verdict : (e : Engine) (t : Tables) (block : Block) → Represents e t → mbox_refusal e block ≡ verdict (Mbox block) e.session t
unfolding mbox_bounds
mbox-verdict e t block represents =
    first-or (no_moment e.session)
    (long_message (messages_of block) ∷ long_block block ∷ limit_refusal Documents document_limit (length e.index.docs)
    (length (messages_of block)) ∷ limit_refusal Store store_limit e.bytes (bytes_of_all (messages_of block)) ∷ [])
    ∙ rw (docs-are represents, represents.bytes) refl

alone : (x : Option Refusal) → x ≡ first_refusal (x ∷ [])
alone None = refl
alone (Some x) = refl

pub mbox-refuses : (e : Engine) (block : Block) (refusal : Refusal) → RefusedAfter (no_moment e.session) (mbox_refusal e block) refusal
    → (t : Tables) → Represents e t → Refuses refusal (Mbox block) e.session t
mbox-refuses e block refusal by t represents =
    refused-after _ _ refusal (subst (λ x. RefusedAfter x (verdict (Mbox block) e.session t) refusal) (alone (no_moment e.session))
    (subst (λ v. RefusedAfter (no_moment e.session) v refusal) (mbox-verdict e t block represents) by))

-- none is added without a moment
pub mbox-moment : (e : Engine) (block : Block) → mbox_refusal e block ≡ None → e.session.moment ≡ None → ⊥
mbox-moment e block none no_m =
    some-none NoMoment (sym (ap (λ m. option_or (missing NoMoment m) (mbox_bounds e block (messages_of block))) no_m) ∙ none)

-- short messages have few bytes
pub few-bytes : (messages : List (List ℕ)) → are_short messages ≡ true → bytes_of_all messages ≤ 1048576 * length messages
few-bytes [] e = omega arith
few-bytes (message ∷ messages) e =
    let both = and_parts (nat_le (length message) 1048576) (are_short messages) e in
    let rest = few-bytes messages both.1 in
    rw (sum_by-cons length message messages)
    (step (length message) (bytes_of_all messages) (length messages) (le (length message) both.0) rest)
  where
    le : (n : ℕ) → nat_le n 1048576 ≡ true → n ≤ 1048576
    le n h = grind arith

    step : (a b n : ℕ) → a ≤ 1048576 → b ≤ 1048576 * n → a + b ≤ 1048576 * suc n
    step a b n h k = omega (arith, h, k)

-- a message that isn't too long is short, and the bytes of one message are its length
pub one-short : (messages : List (List ℕ)) (text : List ℕ) → messages ≡ text ∷ [] → length text ≤ 1048576 → are_short messages ≡ true
one-short messages text is short = ap are_short is ∙ both (nat_le (length text) 1048576) (grind arith) where
  both : (b : Bool) → b ≡ true → (b && true) ≡ true
  both b e = ap (λ b. b && true) e

pub one-bytes : (messages : List (List ℕ)) (text : List ℕ) → messages ≡ text ∷ [] → bytes_of_all messages ≡ length text
one-bytes messages text is = ap bytes_of_all is ∙ sum_by-cons length text [] ∙ plus (length text) where
  plus : (n : ℕ) → n + 0 ≡ n
  plus n = omega arith

-- some documents as a change
pub docs-change : (t : Tables) (docs : List Doc) → tables_after (some_docs docs) t ≡ after t (Docs docs)
docs-change t [] = ap (λ docs. record t { docs = docs }) (sym (append-nil t.docs))
docs-change t (doc ∷ docs) = refl

docs-bytes : (num : ℕ) (moment : ℤ) (texts : List (List ℕ))
    → sum_by (λ doc. length doc.text) (docs_from num moment texts) ≡ bytes_of_all texts
docs-bytes num moment [] = refl
docs-bytes num moment (text ∷ texts) =
    sum_by-cons (λ doc. length doc.text) (record { num = record { 0 = num }; arrival = moment; text = text })
    (docs_from (num + 1) moment texts)
    ∙ ap (λ n. length text + n) (docs-bytes (num + 1) moment texts) ∙ sym (sum_by-cons length text texts)

-- the messages are added
pub answers-mbox : (t : Tables) (s : Session) (block : Block) (texts : List (List ℕ)) (count first : ℕ) (n : ℕ) (moment : ℤ)
    (change : Option Change) (s' : Session) → verdict (Mbox block) s t ≡ None → texts ≡ messages_of block → moment ≡ moment_or_zero s
    → count ≡ length texts → n ≡ length t.docs → first ≡ n + 1 → change ≡ some_docs (docs_from (n + 1) moment texts) → s' ≡ s
    → Answers t s (Mbox block) (DocsAdded count first) change s'
answers-mbox t s block texts count first n moment change s' none is at is-count is-n is-first is-change is-s =
    let accepted = answers-accepted t s (Mbox block) none in
    record {
      fine = none;
      reply_is = ap (λ n. DocsAdded n first) (is-count ∙ ap length is)
          ∙ ap (DocsAdded (length (messages_of block))) (is-first ∙ ap (λ n. n + 1) is-n) ∙ accepted.reply_is;
      change_is = is-change ∙ ap (λ m. some_docs (docs_from (n + 1) m texts)) at
          ∙ ap (λ texts. some_docs (docs_from (n + 1) (moment_or_zero s) texts)) is
          ∙ ap (λ n. some_docs (docs_from (n + 1) (moment_or_zero s) (messages_of block))) is-n ∙ accepted.change_is;
      session_is = is-s ∙ accepted.session_is;
    }

-- a message is added
pub answers-mail : (t : Tables) (s : Session) (block : Block) (texts : List (List ℕ)) (num n : ℕ) (moment : ℤ) (change : Option Change)
    (s' : Session) → verdict (Mail block) s t ≡ None → texts ≡ block_text block ∷ [] → moment ≡ moment_or_zero s → n ≡ length t.docs
    → num ≡ n + 1 → change ≡ some_docs (docs_from (n + 1) moment texts) → s' ≡ s
    → Answers t s (Mail block) (OneDoc (record { 0 = num })) change s'
answers-mail t s block texts num n moment change s' none is at is-n is-num is-change is-s =
    let accepted = answers-accepted t s (Mail block) none in
    record {
      fine = none;
      reply_is = ap (λ n. OneDoc (record { 0 = n })) (is-num ∙ ap (λ n. n + 1) is-n) ∙ accepted.reply_is;
      change_is = is-change ∙ ap (λ m. some_docs (docs_from (n + 1) m texts)) at
          ∙ ap (λ texts. some_docs (docs_from (n + 1) (moment_or_zero s) texts)) is
          ∙ ap (λ n. some_docs (docs_from (n + 1) (moment_or_zero s) (block_text block ∷ []))) is-n ∙ accepted.change_is;
      session_is = is-s ∙ accepted.session_is;
    }

-- the engine with more documents
pub represents-docs : (e : Engine) (t : Tables) (h : HitsWithRoom) (moment : ℤ) (texts : List (List ℕ)) → Represents e t
    → (e.session.moment ≡ None → ⊥)
    → Represents (record e { index = after e.index (Docs (next_docs t moment texts)); hits = h; bytes = e.bytes + bytes_of_all texts })
    (tables_after (some_docs (next_docs t moment texts)) t)
represents-docs e t h moment texts represents there = rw (docs-change t (next_docs t moment texts)) (record {
  rows = ap (λ rows. after rows (Docs (next_docs t moment texts))) represents.rows;
  queries = represents.queries;
  run_count = represents.run_count;
  pick_count = represents.pick_count;
  bytes = more (sum_by (λ doc. length doc.text) t.docs) (sum_by (λ note. length note.text) t.notes)
      (sum_by (λ query. length query.source) t.queries) (sum_by (λ filter. length filter.source) t.filters) _ _ (bytes_of_all texts)
      represents.bytes
      (sum_by-append (λ doc. length doc.text) t.docs (next_docs t moment texts)
      ∙ ap (λ n. sum_by (λ doc. length doc.text) t.docs + n) (docs-bytes (length t.docs + 1) moment texts));
  users = represents.users;
  owners = represents.owners;
  filters = represents.filters;
  votes = represents.votes;
  greatest = λ none. absurd (there none);
}) where
  more : (a b c d a' n k : ℕ) → n ≡ a + b + c + d → a' ≡ a + k → n + k ≡ a' + b + c + d
  more a b c d a' n k is e = omega (arith, is, e)

-- the engine with more documents, by how many there are
pub represents-more : (e : Engine) (t : Tables) (h : HitsWithRoom) (moment : ℤ) (texts : List (List ℕ)) → Represents e t
    → (e.session.moment ≡ None → ⊥)
    → Represents (record e {
      index = after e.index (Docs (docs_from (length e.index.docs + 1) moment texts));
      hits = h;
      bytes = e.bytes + bytes_of_all texts;
    }) (tables_after (some_docs (docs_from (length e.index.docs + 1) moment texts)) t)
represents-more e t h moment texts represents there =
    subst (λ n. Represents (record e {
      index = after e.index (Docs (docs_from (n + 1) moment texts));
      hits = h;
      bytes = e.bytes + bytes_of_all texts;
    }) (tables_after (some_docs (docs_from (n + 1) moment texts)) t))
    (sym (ap length (docs-are represents))) (represents-docs e t h moment texts represents there)

-- documents that there are
pub docs-there : (num : ℕ) (moment : ℤ) (texts : List (List ℕ)) → (length texts == 0) ≡ false
    → Some (Docs (docs_from num moment texts)) ≡ some_docs (docs_from num moment texts)
docs-there num moment [] some = absurd cc
docs-there num moment (text ∷ texts) some = refl
