-- Questions: why one is refused, and what it gives.
use Rattle.std.proofs.Common.{◌≡◌, ◌∙◌, sym, refl, ap, ℕ, ℤ, List, [], ◌∷◌, map, Bool, Option, Some, None, inl, inr}
use Rattle.std.specs.Prelude.{◌⊎◌, ◌&&◌, is_some, int_le, int_lt, filter, Ok}
use Rattle.tap_base.specs.declared.numbers.DocNum.{DocNum}
use Rattle.tap_base.specs.Numbers.{moment_of}
use Rattle.tap_rows.specs.declared.tables.Tables.{Tables}
use Rattle.tap_rows.specs.declared.rows.Doc.{Doc}
use Rattle.tap_rows.specs.Results.{is_given, snapshot}
use Rattle.script_lang.specs.declared.refusal.Refusal.{Refusal}
use Rattle.script_lang.specs.declared.refusal.Refusal.TheVariants.{BadMoment, NoMoment, NotOver, Memory}
use Rattle.script_lang.specs.declared.command.Command.TheVariants.{Ask}
use Rattle.script_lang.specs.declared.reply.Reply.TheVariants.{Asked}
use Rattle.tql_core.specs.Condition.{Condition}
use Rattle.tql_core.specs.Holds as Holds
use Rattle.tql_core.proofs.OfTheSecond.{of-the-second}
use Rattle.tql_text.specs.Texts.{condition_of}
use Rattle.row_index.specs.Rows.{rows_alone}
use Rattle.tap_model.specs.declared.session.Session.{Session}
use Rattle.tap_model.specs.Queries.{condition_in}
use Rattle.tap_model.specs.Verdicts.{first_refusal, verdict, missing, refuse_unless, no_moment, text_fault, not_over}
use Rattle.tap_model.specs.Replies.{ask_at}
use Rattle.tap_model.specs.Stories.{Refuses}
use Rattle.tap_kept.proofs.TextLaws.{read-fine}
use Rattle.tap_engine.specs.Answering.{Answers}
use Rattle.tap_engine.proofs.UndoLaws.{answers-accepted}

one : (x : Option Refusal) → first_refusal (x ∷ []) ≡ x
one None = refl
one (Some x) = refl

module _ (s : Session) (moment source : List ℕ) (m now : ℤ) (is-m : moment_of moment ≡ Some m) (is-now : s.moment ≡ Some now)
    (t : Tables) where
  -- the checks that are left once there are both moments
  left : verdict (Ask moment source) s t ≡ first_refusal (text_fault source ∷ refuse_unless (int_lt m now) (NotOver now) ∷ [])
  left =
      ap (λ o. first_refusal (missing BadMoment o ∷ no_moment s ∷ text_fault source ∷ not_over o s.moment ∷ [])) is-m
      ∙ ap (λ o. first_refusal (None ∷ missing NoMoment o ∷ text_fault source ∷ not_over (Some m) o ∷ [])) is-now

  -- the text has a fault, or reading it is out of memory
  pub ask-text : (refusal : Refusal) → (text_fault source ≡ Some refusal) ⊎ (refusal ≡ Memory) → Refuses refusal (Ask moment source) s t
  ask-text refusal (inl e) = inl (left ∙ ap (λ o. first_refusal (o ∷ refuse_unless (int_lt m now) (NotOver now) ∷ [])) e)
  ask-text refusal (inr e) =
      inr (
        e,
        ap (λ o. is_some (first_refusal (missing BadMoment o ∷ no_moment s ∷ []))) is-m
            ∙ ap (λ o. is_some (first_refusal (None ∷ missing NoMoment o ∷ []))) is-now,
      )

  fine : (c : Condition) → condition_of source ≡ Ok c → verdict (Ask moment source) s t ≡ refuse_unless (int_lt m now) (NotOver now)
  fine c e = left ∙ ap (λ o. first_refusal (o ∷ refuse_unless (int_lt m now) (NotOver now) ∷ [])) (read-fine source c e).1
      ∙ one (refuse_unless (int_lt m now) (NotOver now))

  -- the second isn't over
  pub ask-open : (c : Condition) (refusal : Refusal) → condition_of source ≡ Ok c
      → Some refusal ≡ refuse_unless (int_lt m now) (NotOver now) → Refuses refusal (Ask moment source) s t
  ask-open c refusal e is = inl (fine c e ∙ sym is)

  filter-same : (p q : Doc → Bool) (docs : List Doc) → ((doc : Doc) → p doc ≡ q doc) → filter p docs ≡ filter q docs
  filter-same p q [] same = refl
  filter-same p q (doc ∷ docs) same = rw (same doc, filter-same p q docs same) refl

  -- a condition looks at documents and notes alone
  alone-same : (c : Condition) → snapshot (Holds.truth_of c) (rows_alone t.docs t.notes) m ≡ snapshot (Holds.truth_of c) t m
  alone-same c =
      let rows = rows_alone t.docs t.notes in
      filter-same (λ doc. is_given (Holds.truth_of c) rows doc m) (λ doc. is_given (Holds.truth_of c) t doc m) t.docs
      (λ doc. ap (λ b. int_le doc.arrival m && b) (of-the-second c t rows doc m refl refl))

  -- a question that isn't refused
  pub answers-ask : (c : Condition) (rows : Tables) (nums : List DocNum) → condition_of source ≡ Ok c
      → None ≡ refuse_unless (int_lt m now) (NotOver now) → rows ≡ rows_alone t.docs t.notes
      → nums ≡ map (λ doc. doc.num) (snapshot (Holds.truth_of c) rows m) → Answers t s (Ask moment source) (Asked m nums) None s
  answers-ask c rows nums e over is-rows is =
      let accepted = answers-accepted t s (Ask moment source) (fine c e ∙ sym over) in
      let same : nums ≡ map (λ doc. doc.num) (snapshot (Holds.truth_of (condition_in source)) t m) =
      is ∙ ap (λ rows. map (λ doc. doc.num) (snapshot (Holds.truth_of c) rows m)) is-rows
      ∙ ap (map (λ doc. doc.num)) (alone-same c)
      ∙ ap (λ c. map (λ doc. doc.num) (snapshot (Holds.truth_of c) t m)) (sym (read-fine source c e).0) in
      record {
        fine = accepted.fine;
        reply_is = ap (Asked m) same ∙ sym (ap (λ o. (ask_at o source s t).reply) is-m) ∙ accepted.reply_is;
        change_is = sym (ap (λ o. (ask_at o source s t).change) is-m) ∙ accepted.change_is;
        session_is = sym (ap (λ o. (ask_at o source s t).session) is-m) ∙ accepted.session_is;
      }
