-- What a command does once its rows are committed, or aren't.
use Rattle.std.proofs.Common.{◌≡◌, ◌∙◌, sym, refl, ap, subst, true, false, ℤ, Option, Some, None, inl, inr}
use Rattle.std.specs.Prelude.{◌⊎◌, is_some, codes, Result, Ok, Err, IfOk, OnErr, OnSome}
use Rattle.keeper_core.specs.declared.fault.CommitFault.{CommitFault}
use Rattle.keeper_core.specs.declared.fault.CommitFault.TheVariants as C
use Rattle.tap_base.specs.Numbers.{moment_of}
use Rattle.tap_rows.specs.declared.tables.Tables.{Tables}
use Rattle.tap_rows.specs.declared.change.Change.{Change}
use Rattle.tap_rows.specs.Tables.{after}
use Rattle.keeper_core.specs.Keeping.{AddsRowsTo}
use Rattle.script_lang.specs.declared.command.Command.{Command}
use Rattle.script_lang.specs.declared.command.Command.TheVariants.{At, AsUser, Mail, Mbox, AddNote, Define, Run, BoxOf, ListOf, Filter}
use Rattle.script_lang.specs.declared.command.Command.TheVariants.{Explain, Ask, Wake, ScoresOf, DigestOf, Find, Bad}
use Rattle.script_lang.specs.declared.refusal.Refusal.{Refusal}
use Rattle.script_lang.specs.declared.refusal.Refusal.TheVariants.{Memory}
use Rattle.script_lang.specs.declared.reply.Reply.{Reply}
use Rattle.script_lang.specs.declared.reply.Reply.TheVariants.{No}
use Rattle.script_lang.specs.Proper.{is_proper}
use Rattle.script_lang.specs.Replies.{first_text, is_accepted}
use Rattle.tap_model.specs.declared.session.Session.{Session}
use Rattle.tap_model.specs.Verdicts.{checks, verdict, is_spared}
use Rattle.tap_model.specs.Replies.{answer_of, answer_by, tables_after, set_moment}
use Rattle.tap_model.specs.Stories.{StoryStep, GivesUp, Refuses, next_tables}
use Rattle.tap_model.specs.Sound.{IsSoundFor}
use Rattle.tap_model.proofs.AnswerLaws.{some-none}
use Rattle.tap_model.proofs.FitLaws.{accepted_fits}
use Rattle.tap_model.proofs.SomeRows.{change-rows}
use Rattle.tap_model.proofs.NextLaws.{next-is}
use Rattle.tap_model.proofs.MemoryLaws.{answers-apart}
use Rattle.query_eval.specs.Hits.{HitsWithRoom}
use Rattle.tap_engine.proofs.MemoryRefusals.{first-none}
use Rattle.tap_engine.specs.Standing.{Represents}
use Rattle.tap_engine.specs.declared.engine.Engine.{Engine}
use Rattle.tap_engine.specs.declared.fault.EngineFault.{EngineFault}
use Rattle.tap_engine.specs.declared.undo.Undo.{Undo}
use Rattle.tap_engine.specs.Answering.{Answers, IsUnchangedButHits, UndoRestores, fault_answer, fault_engine}

no-change : (change : Change) → None ≡ Some change → ⊥
no-change change e = cc

moment-alone : (moment : Option ℤ) (s : Session) → (set_moment moment s).change ≡ None
moment-alone None s = refl
moment-alone (Some second) s = refl

-- a command that adds rows takes memory
unspared : (c : Command) (s : Session) (t : Tables) (change : Change) → verdict c s t ≡ None → (answer_of c s t).change ≡ Some change
    → is_spared c s t ≡ false
unspared (At text) s t change none is =
    absurd (no-change change (sym (moment-alone (moment_of text) s) ∙ sym (ap (λ v. (answer_by v (At text) s t).change) none) ∙ is))
unspared (Find lookup) s t change none is = absurd (no-change change (sym (ap (λ v. (answer_by v (Find lookup) s t).change) none) ∙ is))
unspared (Bad refusal) s t change none is = absurd (some-none refusal none)
unspared (Ask moment source) s t change none is = ap is_some (first-none 2 (checks (Ask moment source) s t) none)
unspared (AsUser name) s t change none is = ap is_some none
unspared (Mail block) s t change none is = ap is_some none
unspared (Mbox block) s t change none is = ap is_some (first-none 1 (checks (Mbox block) s t) none)
unspared (AddNote doc kind value text) s t change none is = ap is_some none
unspared (Define name source) s t change none is = ap is_some (first-none 4 (checks (Define name source) s t) none)
unspared (Run name) s t change none is = ap is_some none
unspared (BoxOf name) s t change none is = ap is_some none
unspared (ListOf name) s t change none is = ap is_some none
unspared (Filter block) s t change none is = ap is_some (first-none 6 (checks (Filter block) s t) none)
unspared (Explain name) s t change none is = ap is_some none
unspared (Wake name) s t change none is = ap is_some none
unspared (ScoresOf kind) s t change none is = ap is_some none
unspared (DigestOf name ordinal) s t change none is = ap is_some (first-none 3 (checks (DigestOf name ordinal) s t) none)

-- a command at whose rows the keeper is out of memory
pub memory-gives : (t : Tables) (s : Session) (c : Command) (reply : Reply) (change : Change) (s' : Session)
    → Answers t s c reply (Some change) s' → GivesUp t s c (No Memory) t s
memory-gives t s c reply change s' answers = record {
  reply_is = refl;
  tables_are = refl;
  session_is = refl;
  not_spared = unspared c s t change answers.fine (sym answers.change_is);
}

pub memory-step : (t : Tables) (s : Session) (c : Command) (reply : Reply) (change : Change) (s' : Session)
    → Answers t s c reply (Some change) s' → StoryStep t s c (No Memory) t s
memory-step t s c reply change s' answers = inr (memory-gives t s c reply change s' answers)

-- the rows of a command follow those of the tables in order
pub rows-fit : (t : Tables) (s : Session) (c : Command) (reply : Reply) (change : Change) (s' : Session) → IsSoundFor c t s
    → Answers t s c reply (Some change) s' → AddsRowsTo change t
rows-fit t s c reply change s' sound answers =
    record {
      formed = sound.formed;
      fits = accepted_fits t s c change sound (sym answers.change_is);
      some = change-rows c s t change (sym answers.change_is);
    }

-- the tables with the rows of a command
pub rows-next : (t : Tables) (s : Session) (c : Command) (reply : Reply) (change : Change) (s' : Session)
    → Answers t s c reply (Some change) s' → after t change ≡ next_tables c reply s t
rows-next t s c reply change s' answers = ap (λ change. tables_after change t) answers.change_is
    ∙ sym (next-is c reply s t answers.reply_is)

-- the step if the keeper didn't commit
pub fault-step : (fault : CommitFault) (t : Tables) (e back e' : Engine) (c : Command) (result : Result Reply EngineFault) → result
    ≡ fault_answer fault → e' ≡ fault_engine fault back → back.session ≡ e.session → StoryStep t e.session c (No Memory) t e.session
    → IfOk result (λ reply. StoryStep t e.session c reply (next_tables c reply e.session t) e'.session)
fault-step C.Memory t e back e' c result is to same step =
    subst (λ r. IfOk r (λ reply. StoryStep t e.session c reply (next_tables c reply e.session t) e'.session)) (sym is)
    (subst (λ s. StoryStep t e.session c (No Memory) t s) (sym (ap (λ k. k.session) to ∙ same)) step)
fault-step C.Failed t e back e' c result is to same step =
    subst (λ r. IfOk r (λ reply. StoryStep t e.session c reply (next_tables c reply e.session t) e'.session)) (sym is) tt

-- the step if the keeper was out of memory
pub fault-gives : (fault : CommitFault) (t : Tables) (e back e' : Engine) (c : Command) (result : Result Reply EngineFault)
    → result ≡ fault_answer fault → e' ≡ fault_engine fault back → back.session ≡ e.session → GivesUp t e.session c (No Memory) t e.session
    → IfOk result (λ reply. first_text reply ≡ codes "no 18" → GivesUp t e.session c reply (next_tables c reply e.session t) e'.session)
fault-gives C.Memory t e back e' c result is to same gives = subst
    (λ r. IfOk r (λ reply. first_text reply ≡ codes "no 18" → GivesUp t e.session c reply (next_tables c reply e.session t) e'.session))
    (sym is) (λ _. subst (λ s. GivesUp t e.session c (No Memory) t s) (sym (ap (λ k. k.session) to ∙ same)) gives)
fault-gives C.Failed t e back e' c result is to same gives = subst (λ r. IfOk r
    (λ reply. first_text reply ≡ codes "no 18" → GivesUp t e.session c reply (next_tables c reply e.session t) e'.session)) (sym is) tt

-- a proper command that was prepared isn't answered by `no 18`
pub prepared-apart : (t : Tables) (s : Session) (c : Command) (reply : Reply) (change : Option Change) (s' : Session) → is_proper c ≡ true
    → Answers t s c reply change s' → first_text reply ≡ codes "no 18" → ⊥
prepared-apart t s c reply change s' proper answers e = answers-apart.apart t s c proper (sym (ap first_text answers.reply_is) ∙ e)

-- a proper command that is refused by `no 18` is out of memory
pub refused-gives : (t : Tables) (s : Session) (c : Command) (refusal : Refusal) (s' : Session) → is_proper c ≡ true → Refuses refusal c s t
    → s' ≡ s → first_text (No refusal) ≡ codes "no 18" → GivesUp t s c (No refusal) t s'
refused-gives t s c refusal s' proper (inl is) same e =
    absurd (answers-apart.apart t s c proper (ap (λ v. first_text (answer_by v c s t).reply) is ∙ e))
refused-gives t s c refusal s' proper (inr out) same e =
    record { reply_is = ap No out.0; tables_are = refl; session_is = same; not_spared = out.1 }

abbrev not_done : CommitFault → Result (Unit {0}) CommitFault
not_done fault = Err fault

-- what the keeper tells if it was out of memory
pub fault-kept : (fault : CommitFault) (P : Tables → Type 0) (t : Tables) (s : Session) (c : Command) (result : Result Reply EngineFault)
    → result ≡ fault_answer fault → (not_done fault ≡ not_done C.Memory → P t) → IfOk result (λ reply. P (next_tables c reply s t))
fault-kept C.Memory P t s c result is kept = subst (λ r. IfOk r (λ reply. P (next_tables c reply s t))) (sym is) (kept refl)
fault-kept C.Failed P t s c result is kept = subst (λ r. IfOk r (λ reply. P (next_tables c reply s t))) (sym is) tt

-- what the keeper tells if it was out of memory, whatever the tables are
pub fault-untouched : (fault : CommitFault) (P : Type 0) (result : Result Reply EngineFault) → result ≡ fault_answer fault
    → (not_done fault ≡ not_done C.Memory → P) → IfOk result (λ reply. is_accepted reply ≡ false → P)
fault-untouched C.Memory P result is kept = subst (λ r. IfOk r (λ reply. is_accepted reply ≡ false → P)) (sym is) (λ _. kept refl)
fault-untouched C.Failed P result is kept = subst (λ r. IfOk r (λ reply. is_accepted reply ≡ false → P)) (sym is) tt

-- what holds whatever the result is
pub on-err : {P : Type 0} (result : Result Reply EngineFault) → P → OnErr result P
on-err (Ok reply) p = tt
on-err (Err fault) p = p

-- the tables before the command or those with its rows
pub one-of : (t x : Tables) (s : Session) (c : Command) (reply : Reply) (change : Change) (s' : Session)
    → Answers t s c reply (Some change) s' → (x ≡ t) ⊎ (x ≡ after t change) → (x ≡ t) ⊎ (x ≡ tables_after (answer_of c s t).change t)
one-of t x s c reply change s' answers (inl e) = inl e
one-of t x s c reply change s' answers (inr e) = inr (e ∙ ap (λ change. tables_after change t) answers.change_is)

pub taken-there : (undo : Undo) (new old : Engine) (change : Option Change) (rows : Change) → change ≡ Some rows
    → OnSome change (UndoRestores undo new old) → UndoRestores undo new old
taken-there undo new old change rows is takes = subst (λ change. OnSome change (UndoRestores undo new old)) is takes

-- the hits have no part in what an engine represents
represents-hits : (e : Engine) (t : Tables) (h : HitsWithRoom) → Represents e t → Represents (record e { hits = h }) t
represents-hits e t h represents = record {
  rows = represents.rows;
  queries = represents.queries;
  filters = represents.filters;
  votes = represents.votes;
  run_count = represents.run_count;
  pick_count = represents.pick_count;
  bytes = represents.bytes;
  users = represents.users;
  owners = represents.owners;
  greatest = represents.greatest;
}

-- what the engine represents if the keeper didn't commit
pub fault-represents : (fault : CommitFault) (t : Tables) (e back e' : Engine) (c : Command) (result : Result Reply EngineFault)
    → result ≡ fault_answer fault → e' ≡ fault_engine fault back → IsUnchangedButHits back e → Represents e t
    → IfOk result (λ reply. Represents e' (next_tables c reply e.session t))
fault-represents C.Memory t e back e' c result is to still represents =
    subst (λ r. IfOk r (λ reply. Represents e' (next_tables c reply e.session t))) (sym is)
    (subst (λ k. Represents k t) (sym (to ∙ still.same)) (represents-hits e t back.hits represents))
fault-represents C.Failed t e back e' c result is to still represents =
    subst (λ r. IfOk r (λ reply. Represents e' (next_tables c reply e.session t))) (sym is) tt
