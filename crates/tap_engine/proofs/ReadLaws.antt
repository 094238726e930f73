-- The commands that read: when a run is next worthwhile, the scores of a kind, the digest of a run.
use Rattle.std.proofs.Common.{◌≡◌, ◌∙◌, sym, refl, ap, subst, inr, ℕ, ℤ, pos, List, [], ◌∷◌, ◌≤◌, length, Option, Some, None, true, false}
use Rattle.std.proofs.Common.{if◌then◌else◌}
use Rattle.std.specs.Prelude.{◌&&◌, nat_le}
use Rattle.std.specs.Option.{option_map, option_or}
use Rattle.tap_base.specs.declared.moments.TheConstants.{LAST_MOMENT}
use Rattle.tap_rows.specs.declared.tables.Tables.{Tables}
use Rattle.tap_rows.specs.declared.rows.Doc.{Doc}
use Rattle.tap_rows.specs.declared.rows.QueryRow.{QueryRow}
use Rattle.tap_rows.specs.declared.results.Entry.{Entry}
use Rattle.tap_rows.specs.Deliveries.{delivered}
use Rattle.tap_rows.proofs.KeptLaws.{box-is}
use Rattle.tap_rows.proofs.LaterLaws.{each-map}
use Rattle.script_lang.specs.declared.command.Command.TheVariants.{Wake, ScoresOf, DigestOf}
use Rattle.script_lang.specs.declared.refusal.Refusal.{Refusal}
use Rattle.script_lang.specs.declared.refusal.Refusal.TheVariants.{NoMoment, NoQuery, NoRun, Memory}
use Rattle.script_lang.specs.declared.reply.Reply.TheVariants.{Wake as Woken, ScoresOf as Scored, DigestOf as Digest}
use Rattle.tap_rows.specs.declared.score.Score.{Score}
use Rattle.vote_scores.specs.Tally.{tally}
use Rattle.tap_rows.specs.Votes.{scores_of, AreNumbered}
use Rattle.mail_fields.specs.Digests.{digested, digest_lines}
use Rattle.time_marks.specs.NextWake.{next_wake}
use Rattle.tap_model.specs.declared.session.Session.{Session}
use Rattle.tap_model.specs.Sessions.{or_zero, moment_or_zero, user_of}
use Rattle.tap_model.specs.Queries.{query_truth, start_of, query_named, box_of_query}
use Rattle.tap_model.specs.Sound.{IsNow, IsSound, IsSoundFor}
use Rattle.tap_model.specs.Wakes.{wake_moment}
use Rattle.tap_model.specs.Verdicts.{first_refusal, verdict, missing, no_moment, no_user, bad_name, no_run, runs_found}
use Rattle.tap_model.specs.Replies.{show_wake, show_digest, entries_in_run}
use Rattle.tap_model.specs.Stories.{Refuses}
use Rattle.tap_model.proofs.AnswerLaws.{find-in, some-none, truth-of-second}
use Rattle.tap_model.proofs.FormedRows.{placed}
use Rattle.tap_model.proofs.SoundLaws.{sound-asked}
use Rattle.tap_model.proofs.WakeLaws.{wakes-are-windows}
use Rattle.tap_rows.specs.WellFormed.{is_query_of, is_well_formed}
use Rattle.tap_kept.specs.Keeping.{cached_query, hits_since}
use Rattle.tap_kept.specs.Starting.{IsRowNumber}
use Rattle.tap_engine.specs.declared.engine.Engine.{Engine}
use Rattle.tap_engine.specs.Standing.{Represents, RefusedAfter, RefusedBy, look_refusal, wake_refusal, digest_refusal, cached_named}
use Rattle.tap_engine.specs.Standing.{cached_runs, cached_wake}
use Rattle.tap_engine.specs.Lists.{cached_digest}
use Rattle.tap_engine.specs.Answering.{Answers}
use Rattle.tap_engine.proofs.AddedRows.{docs-are}
use Rattle.tap_engine.proofs.UndoLaws.{answers-accepted, refused-after}
use Rattle.tap_engine.proofs.CheckLaws.{named-is, box-verdict}
use Rattle.tap_engine.proofs.FormedLaws.{formed}
use Rattle.tap_base.specs.Numbers.{IsMoment}

four : (a b c d : Option Refusal) → option_or a (option_or b (option_or c d)) ≡ first_refusal (a ∷ b ∷ c ∷ d ∷ [])
four (Some x) b c d = refl
four None (Some x) c d = refl
four None None (Some x) d = refl
four None None None (Some x) = refl
four None None None None = refl

three-one : (a b c d : Option Refusal) → option_or (first_refusal (a ∷ b ∷ c ∷ [])) d ≡ first_refusal (a ∷ b ∷ c ∷ d ∷ [])
three-one (Some x) b c d = refl
three-one None (Some x) c d = refl
three-one None None (Some x) d = refl
three-one None None None (Some x) = refl
three-one None None None None = refl

one : (x : Option Refusal) → first_refusal (x ∷ []) ≡ x
one None = refl
one (Some x) = refl

-- the question for the next worthwhile run is refused as its verdict says
pub wake-verdict : (e : Engine) (t : Tables) (name : List ℕ) → Represents e t → wake_refusal e name ≡ verdict (Wake name) e.session t
wake-verdict e t name represents =
    ap (option_or (no_moment e.session)) (box-verdict e t name represents)
    ∙ go (no_moment e.session) (no_user e.session) (bad_name name) (missing NoQuery (query_named (user_of e.session) name t))
  where
    go : (a b c d : Option Refusal) → option_or a (first_refusal (b ∷ c ∷ d ∷ [])) ≡ first_refusal (a ∷ b ∷ c ∷ d ∷ [])
    go (Some x) b c d = refl
    go None b c d = refl

pub wake-refuses : (e : Engine) (name : List ℕ) (refusal : Refusal) → RefusedBy (wake_refusal e name) refusal → (t : Tables)
    → Represents e t → Refuses refusal (Wake name) e.session t
wake-refuses e name refusal
    by t represents = refused-after _ _ refusal (subst (λ v. RefusedBy v refusal) (wake-verdict e t name represents) by)

some-moment : (x : Option ℤ) → Some x ≡ None → ⊥
some-moment x e = cc

moment-same : (x y : Option ℤ) → Some x ≡ Some y → x ≡ y
moment-same x y e = cc

-- the session's moment, once the question isn't refused
wake-now : (e : Engine) (t : Tables) (name : List ℕ) → wake_refusal e name ≡ None → IsSound t e.session
    → IsMoment (moment_or_zero e.session)
wake-now e t name none sound = go e.session.moment refl sound.now where
  go : (o : Option ℤ) → e.session.moment ≡ o → IsNow o t → IsMoment (moment_or_zero e.session)
  go None is now = absurd (some-none NoMoment (sym (ap (λ m. option_or (missing NoMoment m) (look_refusal e name)) is) ∙ none))
  go (Some m) is now = subst IsMoment (sym (ap or_zero is)) now.0

-- the answer is of a query that there is
pub answers-wake : (e : Engine) (t : Tables) (name : List ℕ) (moment : Option ℤ) → Represents e t → IsSoundFor (Wake name) t e.session
    → wake_refusal e name ≡ None → Some moment ≡ cached_wake e (cached_named e name)
    → Answers t e.session (Wake name) (Woken name moment) None e.session
answers-wake e t name moment represents sound-for none is = go (query_named (user_of e.session) name t) refl where
  sound : IsSound t e.session
  sound = sound-asked (Wake name) t e.session refl sound-for

  accepted : Answers t e.session (Wake name)
      (show_wake (query_named (user_of e.session) name t) name e.session t).reply (show_wake (query_named (user_of e.session) name t) name
      e.session t).change (show_wake (query_named (user_of e.session) name t) name e.session t).session
  accepted = answers-accepted t e.session (Wake name) (sym (wake-verdict e t name represents) ∙ none)

  kept : Some moment ≡ cached_wake e (option_map (cached_query t) (query_named (user_of e.session) name t))
  kept = is ∙ ap (cached_wake e) (named-is e t name represents)

  go : (o : Option QueryRow) → query_named (user_of e.session) name t ≡ o
      → Answers t e.session (Wake name) (Woken name moment) None e.session
  go None none' = absurd (some-moment moment (kept ∙ ap (λ o. cached_wake e (option_map (cached_query t) o)) none'))
  go (Some q) some =
      let now = moment_or_zero e.session in
      let same : moment ≡ next_wake now (hits_since (cached_query t q) e.index (pos LAST_MOMENT)) =
      moment-same moment _ (kept ∙ ap (λ o. cached_wake e (option_map (cached_query t) o)) some) in
      let whole : moment ≡ wake_moment q t now =
      same ∙ ap (λ rows. next_wake now (hits_since (cached_query t q) rows (pos LAST_MOMENT))) represents.rows
      ∙ wakes-are-windows t e.session q now sound (find-in (is_query_of (user_of e.session) name) t.queries q some)
      (wake-now e t name none sound) in
      record {
        fine = accepted.fine;
        reply_is = ap (Woken name) whole ∙ sym (ap (λ o. (show_wake o name e.session t).reply) some) ∙ accepted.reply_is;
        change_is = sym (ap (λ o. (show_wake o name e.session t).change) some) ∙ accepted.change_is;
        session_is = sym (ap (λ o. (show_wake o name e.session t).session) some) ∙ accepted.session_is;
      }

-- the scores of a kind are refused for the kind alone
pub scores-refuses : (e : Engine) (kind : List ℕ) (refusal : Refusal) → RefusedBy (bad_name kind) refusal → (t : Tables)
    → Refuses refusal (ScoresOf kind) e.session t
scores-refuses e kind refusal by t = refused-after _ _ refusal (subst (λ v. RefusedBy v refusal) (sym (one (bad_name kind))) by)

-- the documents of well formed tables have their places as numbers, and each note is on one of them
pub numbered-formed : (t : Tables) → is_well_formed t ≡ true → AreNumbered t
numbered-formed t is = record {
  docs = (placed t is).docs;
  notes = each-map (λ note. IsRowNumber note.doc.0 (length t.docs)) (λ note. (1 ≤ note.doc.0) × (note.doc.0 ≤ length t.docs))
      t.notes (λ note one. (one.low, one.high)) (formed t is).on;
}

pub answers-scores : (e : Engine) (t : Tables) (kind : List ℕ) (rows : List Score) → Represents e t → is_well_formed t ≡ true
    → bad_name kind ≡ None
    → ((tables : Tables) → AreNumbered tables → e.votes ≡ tally tables.notes → rows ≡ scores_of kind tables)
    → Answers t e.session (ScoresOf kind) (Scored kind rows) None e.session
answers-scores e t kind rows represents rows-formed none is =
    let accepted = answers-accepted t e.session (ScoresOf kind) (one (bad_name kind) ∙ none) in
    record {
      fine = accepted.fine;
      reply_is = ap (Scored kind) (is t (numbered-formed t rows-formed) represents.votes) ∙ accepted.reply_is;
      change_is = accepted.change_is;
      session_is = accepted.session_is;
    }

runs-same : (t : Tables) (o : Option QueryRow) → cached_runs (option_map (cached_query t) o) ≡ runs_found o t
runs-same t None = refl
runs-same t (Some q) = refl

-- a digest is refused as its verdict says
pub digest-verdict : (e : Engine) (t : Tables) (name : List ℕ) (ordinal : ℕ) → Represents e t
    → digest_refusal e name ordinal ≡ verdict (DigestOf name ordinal) e.session t
digest-verdict e t name ordinal represents =
    let o = query_named (user_of e.session) name t in
    ap (λ look. option_or look (no_run ordinal (cached_runs (cached_named e name)))) (box-verdict e t name represents)
    ∙ ap (λ runs. option_or (first_refusal (no_user e.session ∷ bad_name name ∷ missing NoQuery o ∷ [])) (no_run ordinal runs))
    (ap cached_runs (named-is e t name represents) ∙ runs-same t o)
    ∙ three-one (no_user e.session) (bad_name name) (missing NoQuery o) (no_run ordinal (runs_found o t))

pub digest-refuses : (e : Engine) (name : List ℕ) (ordinal : ℕ) (refusal : Refusal)
    → RefusedAfter (look_refusal e name) (digest_refusal e name ordinal) refusal → (t : Tables) → Represents e t
    → Refuses refusal (DigestOf name ordinal) e.session t
digest-refuses e name ordinal refusal by t represents =
    refused-after _ _ refusal
    (subst (λ x. RefusedAfter x (verdict (DigestOf name ordinal) e.session t) refusal) (box-verdict e t name represents)
    (subst (λ v. RefusedAfter (look_refusal e name) v refusal) (digest-verdict e t name ordinal represents) by))

some-lines : (x : List (List ℕ)) → Some x ≡ None → ⊥
some-lines x e = cc

lines-same : (x y : List (List ℕ)) → Some x ≡ Some y → x ≡ y
lines-same x y e = cc

pub answers-digest : (e : Engine) (t : Tables) (name : List ℕ) (ordinal : ℕ) (lines : List (List ℕ)) → Represents e t
    → IsSoundFor (DigestOf name ordinal) t e.session → digest_refusal e name ordinal ≡ None
    → Some lines ≡ cached_digest e name ordinal (cached_named e name)
    → Answers t e.session (DigestOf name ordinal) (Digest name ordinal lines) None e.session
answers-digest e t name ordinal lines represents sound none is = go (query_named (user_of e.session) name t) refl where
  accepted : Answers t e.session (DigestOf name ordinal) (show_digest (query_named (user_of e.session) name t) name ordinal
      e.session t).reply (show_digest (query_named (user_of e.session) name t) name ordinal e.session t).change
      (show_digest (query_named (user_of e.session) name t) name ordinal e.session t).session
  accepted = answers-accepted t e.session (DigestOf name ordinal) (sym (digest-verdict e t name ordinal represents) ∙ none)

  kept : Some lines ≡ cached_digest e name ordinal (option_map (cached_query t) (query_named (user_of e.session) name t))
  kept = is ∙ ap (cached_digest e name ordinal) (named-is e t name represents)

  go : (o : Option QueryRow) → query_named (user_of e.session) name t ≡ o
      → Answers t e.session (DigestOf name ordinal) (Digest name ordinal lines) None e.session
  go None none' = absurd (some-lines lines (kept ∙ ap (λ o. cached_digest e name ordinal (option_map (cached_query t) o)) none'))
  go (Some q) some =
      let text : List Doc → List Entry
      → List (List ℕ) = λ docs entries. digest_lines name ordinal (digested docs (entries_in_run ordinal entries)) in
      let same : lines ≡ text e.index.docs (delivered q.num.0 t) =
      lines-same lines _ (kept ∙ ap (λ o. cached_digest e name ordinal (option_map (cached_query t) o)) some) in
      let box = box-is query_truth start_of truth-of-second t q t.queries (find-in (is_query_of (user_of e.session) name) t.queries q some)
      (sound.kept refl).each in
      let whole : lines ≡ text t.docs (box_of_query q t) = same ∙ ap (λ docs. text docs (delivered q.num.0 t)) (docs-are represents)
      ∙ ap (text t.docs) box.box in
      record {
        fine = accepted.fine;
        reply_is = ap (Digest name ordinal) whole ∙ sym (ap (λ o. (show_digest o name ordinal e.session t).reply) some) ∙ accepted.reply_is;
        change_is = sym (ap (λ o. (show_digest o name ordinal e.session t).change) some) ∙ accepted.change_is;
        session_is = sym (ap (λ o. (show_digest o name ordinal e.session t).session) some) ∙ accepted.session_is;
      }
