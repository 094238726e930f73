-- Notes: why one is refused, and what the engine represents after one.
use Rattle.std.proofs.Common.{◌≡◌, ◌∙◌, sym, refl, ap, subst, arith, ℕ, ℤ, List, [], ◌∷◌, ◌+◌, length, Option, Some, None}
use Rattle.std.specs.Prelude.{sum_by}
use Rattle.std.specs.Option.{option_or}
use Rattle.std.proofs.lemmas.List.Sums.{sum_by-append}
use Rattle.tap_rows.specs.declared.tables.Tables.{Tables}
use Rattle.tap_rows.specs.declared.rows.Note.{Note}
use Rattle.tap_rows.specs.declared.change.Change.{Change}
use Rattle.tap_rows.specs.declared.change.Change.TheVariants.{OneNote}
use Rattle.tap_rows.specs.Tables.{after}
use Rattle.script_lang.specs.declared.refusal.Refusal.{Refusal}
use Rattle.script_lang.specs.declared.refusal.Refusal.TheVariants.{NoMoment}
use Rattle.script_lang.specs.declared.command.Command.TheVariants.{AddNote}
use Rattle.script_lang.specs.declared.reply.Reply.TheVariants.{OneNote as NoteAdded}
use Rattle.script_lang.specs.declared.refusal.LimitName.TheVariants.{Notes, Store}
use Rattle.tap_model.specs.Limits.{note_limit, store_limit}
use Rattle.tap_model.specs.Limits.{limit_refusal}
use Rattle.tap_model.specs.declared.session.Session.{Session}
use Rattle.tap_engine.specs.declared.engine.Engine.{Engine}
use Rattle.tap_model.specs.Sessions.{user_of, moment_or_zero}
use Rattle.tap_model.specs.Verdicts.{first_refusal, verdict, missing, no_moment, no_user, bad_name, no_doc, long_note}
use Rattle.tap_model.specs.Replies.{next_note}
use Rattle.tap_engine.specs.Standing.{Represents, note_bounds, note_refusal, RefusedBy}
use Rattle.tap_model.specs.Stories.{Refuses}
use Rattle.tap_model.proofs.AnswerLaws.{some-none}
use Rattle.tap_engine.specs.Answering.{Answers}
use Rattle.tap_engine.proofs.AddedRows.{docs-are, notes-are}
use Rattle.tap_engine.proofs.UndoLaws.{answers-accepted, refused-after}
use Rattle.vote_scores.proofs.TallyLaws.{tally-more}
use Rattle.vote_scores.specs.Tally.{with_vote}

four : (a b c : Option Refusal) (rest : List (Option Refusal))
    → option_or a (option_or b (option_or c (first_refusal rest))) ≡ first_refusal (a ∷ b ∷ c ∷ rest)
four (Some x) b c rest = refl
four None (Some x) c rest = refl
four None None (Some x) rest = refl
four None None None rest = refl

-- a note is refused as its verdict says
pub note-verdict : (e : Engine) (t : Tables) (doc : ℕ) (kind : List ℕ) (value : ℤ) (text : List ℕ) → Represents e t
    → note_refusal e doc kind text ≡ verdict (AddNote doc kind value text) e.session t
unfolding note_bounds
note-verdict e t doc kind value text represents =
    four (no_moment e.session) (no_user e.session) (bad_name kind) (no_doc doc (length e.index.docs) ∷ long_note (length text)
    ∷ limit_refusal Notes note_limit (length e.index.notes) 1 ∷ limit_refusal Store store_limit e.bytes (length text) ∷ [])
    ∙ rw (docs-are represents, notes-are represents, represents.bytes) refl

pub note-refuses : (e : Engine) (doc : ℕ) (kind : List ℕ) (value : ℤ) (text : List ℕ) (refusal : Refusal)
    → RefusedBy (note_refusal e doc kind text) refusal → (t : Tables) → Represents e t
    → Refuses refusal (AddNote doc kind value text) e.session t
note-refuses e doc kind value text refusal
    by t represents = refused-after _ _ refusal (subst (λ v. RefusedBy v refusal) (note-verdict e t doc kind value text represents) by)

-- a note isn't added without a moment
pub note-moment : (e : Engine) (doc : ℕ) (kind text : List ℕ) → note_refusal e doc kind text ≡ None → e.session.moment ≡ None → ⊥
note-moment e doc kind text none no_m = some-none NoMoment (sym (ap (λ m. option_or (missing NoMoment m)
    (option_or (no_user e.session) (option_or (bad_name kind) (note_bounds e doc (length text))))) no_m) ∙ none)

-- a note is added
pub answers-note : (t : Tables) (s : Session) (doc : ℕ) (kind : List ℕ) (value : ℤ) (text : List ℕ) (n : ℕ) (note : Note) (change : Change)
    (s' : Session) → verdict (AddNote doc kind value text) s t ≡ None → n ≡ length t.notes
    → note ≡ record {
      num = record { 0 = n + 1 };
      doc = record { 0 = doc };
      author = user_of s;
      kind = kind;
      value = value;
      arrival = moment_or_zero s;
      text = text;
    } → change ≡ OneNote note → s' ≡ s
    → Answers t s (AddNote doc kind value text) (NoteAdded note.num) (Some change) s'
answers-note t s doc kind value text n note change s' none count is-note is-change is-s =
    let accepted = answers-accepted t s (AddNote doc kind value text) none in
    let same : note ≡ next_note t s doc kind value text = is-note ∙ ap (λ n. record {
      num = record { 0 = n + 1 };
      doc = record { 0 = doc };
      author = user_of s;
      kind = kind;
      value = value;
      arrival = moment_or_zero s;
      text = text;
    }) count in
    record {
      fine = none;
      reply_is = ap (λ note. NoteAdded note.num) same ∙ accepted.reply_is;
      change_is = ap Some is-change ∙ ap (λ note. Some (OneNote note)) same ∙ accepted.change_is;
      session_is = is-s ∙ accepted.session_is;
    }

-- the engine with one more note
pub represents-note : (e : Engine) (t : Tables) (note : Note) → Represents e t → (e.session.moment ≡ None → ⊥)
    → Represents (record e { index = after e.index (OneNote note); votes = with_vote note e.votes; bytes = e.bytes + length note.text })
    (after t (OneNote note))
represents-note e t note represents there = record {
  rows = ap (λ rows. after rows (OneNote note)) represents.rows;
  queries = represents.queries;
  run_count = represents.run_count;
  pick_count = represents.pick_count;
  bytes = more (sum_by (λ doc. length doc.text) t.docs) (sum_by (λ note. length note.text) t.notes)
      (sum_by (λ query. length query.source) t.queries) (sum_by (λ filter. length filter.source) t.filters) _ _ (length note.text)
      represents.bytes (sum_by-append (λ note. length note.text) t.notes (note ∷ []));
  users = represents.users;
  owners = represents.owners;
  filters = represents.filters;
  votes = ap (with_vote note) represents.votes ∙ sym (tally-more t.notes note);
  greatest = λ none. absurd (there none);
} where
  more : (a b c d b' n k : ℕ) → n ≡ a + b + c + d → b' ≡ b + (0 + k) → n + k ≡ a + b' + c + d
  more a b c d b' n k is e = omega (arith, is, e)
