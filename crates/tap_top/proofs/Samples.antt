-- A sample's commands go on, and what their replies come to.
use Rattle.std.proofs.Common.{◌≡◌, ◌∙◌, sym, ap, refl, subst, arith, ℕ, List, [], ◌∷◌, ◌++◌, ◌+◌, length, Bool, true, false, Option, None}
use Rattle.std.proofs.Common.{if◌then◌else◌}
use Rattle.std.specs.Prelude.{◌⊎◌, ◌≢◌, ◌&&◌, ◌==◌}
use Rattle.std.specs.List.{list_all}
use Rattle.std.specs.Io.KnownBytes.{Appends}
use Rattle.std.proofs.lemmas.List.{append_assoc, append-nil}
use Rattle.tap_rows.specs.declared.tables.Tables.{Tables}
use Rattle.script_lang.specs.declared.command.Command.{Command}
use Rattle.script_lang.specs.declared.refusal.Refusal.TheVariants.{Memory}
use Rattle.script_lang.specs.declared.reply.Reply.{Reply}
use Rattle.script_lang.specs.declared.reply.Reply.TheVariants.{No}
use Rattle.script_lang.specs.Replies.{is_accepted}
use Rattle.tap_model.specs.declared.session.Session.{Session}
use Rattle.keeper_core.specs.Keeping.{IsDurable}
use Rattle.tap_model.specs.Sessions.{no_session}
use Rattle.tap_model.specs.Sound.{IsSound}
use Rattle.tap_model.specs.Verdicts.{verdict}
use Rattle.tap_model.specs.Replies.{answer_of, tables_after}
use Rattle.tap_model.specs.Stories.{StoryStep}
use Rattle.tap_model.proofs.SoundLaws.{step-sound}
use Rattle.tap_top.specs.declared.tally.Tally.{Tally}
use Rattle.tap_engine.specs.declared.engine.Engine.{Engine}
use Rattle.tap_engine.specs.Answering.{AddsRows}
use Rattle.tap_top.specs.Points.{EngineMatchesKeeper}
use Rattle.tap_top.specs.Answers.{MayHaveCommitted}
use Rattle.sample_gen.specs.Samples.{sample_of}
use Rattle.sample_gen.specs.Summaries.{summary_lines}
use Rattle.sample_gen.specs.declared.summary.Summary.{Summary}
use Rattle.tap_top.specs.Samples.{refusals_in, hits_in, reply_total, summary_of, Performed, NeverOutOfMemory, Counted, Adds}
use Rattle.tap_top.specs.Samples.{LastOutOfMemory, FirstPerformed, NextUncommitted, FrontPut, Sampled, SampledCut}
use Rattle.tap_top.proofs.Stories.{Story-then, Story-sound, first-sound}
use Rattle.tap_base.specs.Prefixes.{IsPrefix}

total-append : (count : Reply → ℕ) (xs ys : List Reply) → reply_total count (xs ++ ys) ≡ reply_total count xs + reply_total count ys
total-append count [] ys = zero-more (reply_total count ys) where
  zero-more : (n : ℕ) → n ≡ 0 + n
  zero-more n = omega arith
total-append count (x ∷ xs) ys = ap (λ n. count x + n) (total-append count xs ys)
    ∙ sum (count x) (reply_total count xs) (reply_total count ys) where
      sum : (a b c : ℕ) → a + (b + c) ≡ a + b + c
      sum a b c = omega arith

each-append : (xs ys : List Reply) → NeverOutOfMemory xs → NeverOutOfMemory ys → NeverOutOfMemory (xs ++ ys)
each-append [] ys none more = more
each-append (x ∷ xs) ys none more = (none.0, each-append xs ys none.1 more)

-- nothing refuses if and only if all replies are accepted
none-refused : (b : Bool) (n : ℕ) (rest : Bool) → (n == 0) ≡ rest → (((if b then 0 else 1) + n) == 0) ≡ (b && rest)
none-refused true n rest is = ap (λ m. m == 0) (zero-more n) ∙ is where
  zero-more : (n : ℕ) → 0 + n ≡ n
  zero-more n = omega arith
none-refused false n rest is = some n where
  some : (n : ℕ) → (1 + n == 0) ≡ false
  some n = grind arith

pub all-accepted : (replies : List Reply) → (reply_total refusals_in replies == 0) ≡ list_all is_accepted replies
all-accepted [] = refl
all-accepted (r ∷ rs) = none-refused (is_accepted r) (reply_total refusals_in rs) (list_all is_accepted rs) (all-accepted rs)

pub Counted-none : (tally : Tally) → tally.refused ≡ 0 → tally.delivered ≡ 0 → Counted tally []
Counted-none tally refused delivered = record { refused = refused; delivered = delivered; none = tt }

pub Adds-one : (before after : Tally) (r : Reply) → after.refused ≡ before.refused + refusals_in r
    → after.delivered ≡ before.delivered + hits_in r → (r ≢ No Memory) → Adds before after (r ∷ [])
Adds-one before after r refused delivered none = record {
  refused = refused ∙ ap (λ n. before.refused + n) (plain (refusals_in r));
  delivered = delivered ∙ ap (λ n. before.delivered + n) (plain (hits_in r));
  none = (none, tt);
} where
  plain : (n : ℕ) → n ≡ n + 0
  plain n = omega arith

Counted-then : (before after : Tally) (xs ys : List Reply) → Counted before xs → Adds before after ys → Counted after (xs ++ ys)
Counted-then before after xs ys one two = record {
  refused = two.refused ∙ ap (λ n. n + reply_total refusals_in ys) one.refused ∙ sym (total-append refusals_in xs ys);
  delivered = two.delivered ∙ ap (λ n. n + reply_total hits_in ys) one.delivered ∙ sym (total-append hits_in xs ys);
  none = each-append xs ys one.none two.none;
}

pub Performed-none : (t : Tables) (s : Session) (Ends : List Reply → Tables → Type 0) → IsSound t s → Ends [] t → Performed t s [] Ends s
Performed-none t s Ends sound ends = record { replies = []; tables' = t; story = (refl, refl); sound = sound; ends = ends }

pub Performed-one : (t : Tables) (s : Session) (c : Command) (r : Reply) (Ends : List Reply → Tables → Type 0) (t' : Tables) (s' : Session)
    → IsSound t s → StoryStep t s c r t' s' → Ends (r ∷ []) t' → Performed t s (c ∷ []) Ends s'
Performed-one t s c r Ends t' s' sound step ends = record {
  replies = r ∷ [];
  tables' = t';
  story = (t', s', step, (refl, refl));
  sound = (sound, step-sound t s c r t' s' step sound);
  ends = ends;
}

pub Performed-then : (t : Tables) (s : Session) (xs : List Command) (Mid : List Reply → Tables → Type 0) (s1 : Session) (ys : List Command)
    (Ends Both : List Reply → Tables → Type 0) (s2 : Session) → (one : Performed t s xs Mid s1)
    → (two : Performed one.tables' s1 ys Ends s2) → Both (one.replies ++ two.replies) two.tables' → Performed t s (xs ++ ys) Both s2
Performed-then t s xs Mid s1 ys Ends Both s2 one two ends =
    let story = Story-then t s xs one.replies one.tables' s1 ys two.replies two.tables' s2 one.story two.story in record {
      replies = one.replies ++ two.replies;
      tables' = two.tables';
      story = story;
      sound = Story-sound t s (xs ++ ys) (one.replies ++ two.replies) two.tables' s2 story
          (first-sound t s xs one.replies one.tables' s1 one.story one.sound);
      ends = ends;
    }

pub Performed-with : (t : Tables) (s : Session) (xs : List Command) (Ends Less : List Reply → Tables → Type 0) (s1 : Session)
    → (one : Performed t s xs Ends s1) → Less one.replies one.tables' → Performed t s xs Less s1
Performed-with t s xs Ends Less s1 one less =
    record { replies = one.replies; tables' = one.tables'; story = one.story; sound = one.sound; ends = less }

-- a command for which there may have been no memory
pub FirstPerformed-one : (t : Tables) (s : Session) (c : Command) (r : Reply) (Ends : Tables → Type 0) (t' : Tables) (s' : Session)
    → IsSound t s → StoryStep t s c r t' s' → Ends t' → FirstPerformed t s (c ∷ []) Ends
FirstPerformed-one t s c r Ends t' s' sound step ends =
    let last : LastOutOfMemory (r ∷ []) = record { most = []; last = r ∷ []; split = refl; none = tt; few = omega arith } in record {
      done = c ∷ [];
      first = record { rest = []; is = refl };
      session' = s';
      performed = Performed-one t s c r (λ replies x. LastOutOfMemory replies × Ends x) t' s' sound step (last, ends);
    }

-- nothing was performed
pub FirstPerformed-none : (t : Tables) (s : Session) (commands : List Command) (Ends : Tables → Type 0) → IsSound t s → Ends t
    → FirstPerformed t s commands Ends
FirstPerformed-none t s commands Ends sound ends =
    let last : LastOutOfMemory [] = record { most = []; last = []; split = refl; none = tt; few = omega arith } in record {
      done = [];
      first = record { rest = commands; is = refl };
      session' = s;
      performed = Performed-none t s (λ replies x. LastOutOfMemory replies × Ends x) sound (last, ends);
    }

-- the commit of a command failed
pub NextUncommitted-one : (t : Tables) (s : Session) (c : Command) (leaves : Tables → Type 0) → IsSound t s → verdict c s t ≡ None
    → AddsRows c s t → ((x : Tables) → leaves x → (x ≡ t) ⊎ (x ≡ tables_after (answer_of c s t).change t))
    → NextUncommitted t s (c ∷ []) leaves
NextUncommitted-one t s c leaves sound accepted adds either =
    let may : MayHaveCommitted leaves c s t = record { accepted = accepted; adds = adds; either = either } in record {
      done = [];
      next = c;
      first = record { rest = []; is = refl };
      session' = s;
      performed = Performed-none t s (λ replies x. NeverOutOfMemory replies × MayHaveCommitted leaves c s x) sound (tt, may);
    }

-- a loop over commands: those that were performed, and those that are left
pub record Performing (all left : List Command) (t : Tables) (s : Session) (Ends : Tables → Type 0) (tally : Tally) (s1 : Session) :
    Type 0 where
  pub done : List Command
  pub split : all ≡ done ++ left
  pub performed : Performed t s done (λ replies x. Ends x × Counted tally replies) s1

pub Performing-start : (all : List Command) (t : Tables) (s : Session) (Ends : Tables → Type 0) (tally : Tally) → IsSound t s → Ends t
    → tally.refused ≡ 0 → tally.delivered ≡ 0 → Performing all all t s Ends tally s
Performing-start all t s Ends tally sound ends refused delivered = record {
  done = [];
  split = refl;
  performed = Performed-none t s (λ replies x. Ends x × Counted tally replies) sound (ends, Counted-none tally refused delivered);
}

pub Performing-more : (all left : List Command) (c : Command) (rest : List Command) (t : Tables) (s : Session) (Mid : Tables → Type 0)
    (tally : Tally) (s1 : Session) (Ends : Tables → Type 0) (after : Tally) (s2 : Session) → Performing all left t s Mid tally s1
    → left ≡ c ∷ rest → ((x : Tables) → Mid x → Performed x s1 (c ∷ []) (λ replies y. Ends y × Adds tally after replies) s2)
    → Performing all rest t s Ends after s2
Performing-more all left c rest t s Mid tally s1 Ends after s2 before next one =
    let p = before.performed in let q = one p.tables' p.ends.0 in record {
      done = before.done ++ c ∷ [];
      split = before.split ∙ ap (λ xs. before.done ++ xs) next ∙ sym (append_assoc before.done (c ∷ []) rest);
      performed = Performed-then t s before.done (λ replies x. Mid x × Counted tally replies) s1 (c ∷ [])
          (λ replies y. Ends y × Adds tally after replies) (λ replies y. Ends y × Counted after replies) s2 p q
          (q.ends.0, Counted-then tally after p.replies q.replies p.ends.1 q.ends.1);
    }

pub Performing-end : (all left : List Command) (t : Tables) (s : Session) (Ends : Tables → Type 0) (tally : Tally) (s1 : Session)
    → Performing all left t s Ends tally s1 → left ≡ [] → Performed t s all (λ replies x. Ends x × Counted tally replies) s1
Performing-end all left t s Ends tally s1 before none = subst (λ cs. Performed t s cs (λ replies x. Ends x × Counted tally replies) s1)
    (sym (before.split ∙ ap (λ xs. before.done ++ xs) none ∙ append-nil before.done)) before.performed

longer-front : (all left done c rest : List Command) → all ≡ done ++ left → left ≡ c ++ rest → (front : List Command) → IsPrefix front c
    → IsPrefix (done ++ front) all
longer-front all left done c rest split next front first = record {
  rest = first.rest ++ rest;
  is = split ∙ ap (λ xs. done ++ xs) (next ∙ ap (λ xs. xs ++ rest) first.is ∙ append_assoc front first.rest rest)
      ∙ sym (append_assoc done front (first.rest ++ rest));
}

-- there was no memory for the next command
pub Performing-short : (all left : List Command) (c : Command) (rest : List Command) (t : Tables) (s : Session) (Mid : Tables → Type 0)
    (tally : Tally) (s1 : Session) (Ends : Tables → Type 0) → Performing all left t s Mid tally s1 → left ≡ c ∷ rest
    → ((x : Tables) → Mid x → FirstPerformed x s1 (c ∷ []) Ends) → FirstPerformed t s all Ends
Performing-short all left c rest t s Mid tally s1 Ends before next one =
    let p = before.performed in
    let q = one p.tables' p.ends.0 in
    let r = q.performed in
    let l = r.ends.0 in
    let last : LastOutOfMemory (p.replies ++ r.replies) =
    record {
      most = p.replies ++ l.most;
      last = l.last;
      split = ap (λ xs. p.replies ++ xs) l.split
          ∙ sym (append_assoc p.replies l.most l.last);
      none = each-append p.replies l.most p.ends.1.none l.none;
      few = l.few;
    } in
    record {
      done = before.done ++ q.done;
      first = longer-front all left before.done (c ∷ []) rest before.split next q.done q.first;
      session' = q.session';
      performed = Performed-then t s before.done (λ replies x. Mid x × Counted tally replies) s1 q.done
          (λ replies x. LastOutOfMemory replies × Ends x) (λ replies x. LastOutOfMemory replies × Ends x) q.session' p r (last, r.ends.1);
    }

-- the commit of the next command failed
pub Performing-uncommitted : (all left : List Command) (c : Command) (rest : List Command) (t : Tables) (s : Session)
    (Mid : Tables → Type 0) (tally : Tally) (s1 : Session) (leaves : Tables → Type 0) → Performing all left t s Mid tally s1
    → left ≡ c ∷ rest → ((x : Tables) → Mid x → NextUncommitted x s1 (c ∷ []) leaves) → NextUncommitted t s all leaves
Performing-uncommitted all left c rest t s Mid tally s1 leaves before next one =
    let p = before.performed in
    let q = one p.tables' p.ends.0 in
    let r = q.performed in record {
      done = before.done ++ q.done;
      next = q.next;
      first = subst (λ cs. IsPrefix cs all) (sym (append_assoc before.done q.done (q.next ∷ [])))
          (longer-front all left before.done (c ∷ []) rest before.split next (q.done ++ q.next ∷ []) q.first);
      session' = q.session';
      performed = Performed-then t s before.done (λ replies x. Mid x × Counted tally replies) s1
          q.done (λ replies x. NeverOutOfMemory replies × MayHaveCommitted leaves q.next q.session' x)
          (λ replies x. NeverOutOfMemory replies × MayHaveCommitted leaves q.next q.session' x) q.session' p r
          (each-append p.replies r.replies p.ends.1.none r.ends.0, r.ends.1);
    }

pub none-left : (xs : List Command) → length xs ≡ 0 → xs ≡ []
none-left [] none = refl
none-left (x ∷ xs) none = absurd (omega (arith, none))

-- the counts of a sample's summary
Summary-of : (summary : Summary) (n commands refused docs notes delivered : ℕ) (replies : List Reply) (t : Tables)
    → summary ≡ record { messages = n; commands = commands; refused = refused; documents = docs; notes = notes; delivered = delivered }
    → commands ≡ length (sample_of n) → refused ≡ reply_total refusals_in replies → docs ≡ length t.docs → notes ≡ length t.notes
    → delivered ≡ reply_total hits_in replies → summary ≡ summary_of n replies t
Summary-of summary n commands refused docs notes delivered replies t is a b c d e = is ∙ rw (a, b, c, d, e) refl

-- what holds of a new session and of a sample's commands
pub at-start : (P : Session → List Command → Type 0) (s : Session) (cs : List Command) (n : ℕ) → s ≡ no_session → cs ≡ sample_of n → P s cs
    → P no_session (sample_of n)
at-start P s cs n new all holds = subst (λ ds. P no_session ds) all (subst (λ x. P x cs) new holds)

-- all commands were performed by an engine, and these are their counts
abbrev pub AllPerformed : Tables → Session → List Command → Engine → (Tables → Type 0) → (Tables → Type 0) → Tally → Session → Type 0
AllPerformed t s cs engine tells leaves tally s' =
    Performed t s cs (λ replies x. EngineMatchesKeeper engine tells leaves x × Counted tally replies) s'

summed : (t : Tables) (n : ℕ) (cs : List Command) (engine : Engine) (tells leaves : Tables → Type 0) (tally : Tally) (s' : Session)
    (summary : Summary) (count : ℕ) → count ≡ length cs → cs ≡ sample_of n
    → (one : AllPerformed t no_session (sample_of n) engine tells leaves tally s') → summary ≡ record {
      messages = n;
      commands = count;
      refused = tally.refused;
      documents = length engine.index.docs;
      notes = length engine.index.notes;
      delivered = tally.delivered;
    }
    → summary ≡ summary_of n one.replies one.tables'
summed t n cs engine tells leaves tally s' summary count long all one is =
    Summary-of summary n count tally.refused (length engine.index.docs) (length engine.index.notes) tally.delivered one.replies one.tables'
    is (long ∙ ap length all) one.ends.1.refused (ap (λ rows. length rows.docs) one.ends.0.represents.rows)
    (ap (λ rows. length rows.notes) one.ends.0.represents.rows) one.ends.1.delivered

ended : (t : Tables) (n : ℕ) (engine : Engine) (tells leaves : Tables → Type 0) (tally : Tally) (s' : Session)
    → AllPerformed t no_session (sample_of n) engine tells leaves tally s'
    → Performed t no_session (sample_of n) (λ replies x. NeverOutOfMemory replies × IsDurable tells leaves x) s'
ended t n engine tells leaves tally s' one =
    Performed-with t no_session (sample_of n) (λ replies x. EngineMatchesKeeper engine tells leaves x × Counted tally replies)
    (λ replies x. NeverOutOfMemory replies × IsDurable tells leaves x) s' one (one.ends.1.none, one.ends.0.holds)

pub Sampled-put : (t : Tables) (n : ℕ) (s : Session) (cs : List Command) (engine : Engine) (tells leaves : Tables → Type 0) (tally : Tally)
    (s' : Session) (summary : Summary) (count : ℕ) (out out' : Option (List ℕ)) (ok : Bool) → count ≡ length cs → s ≡ no_session
    → cs ≡ sample_of n → AllPerformed t s cs engine tells leaves tally s' → summary ≡ record {
      messages = n;
      commands = count;
      refused = tally.refused;
      documents = length engine.index.docs;
      notes = length engine.index.notes;
      delivered = tally.delivered;
    }
    → Appends out out' (summary_lines summary) → ok ≡ (summary.refused == 0) → Sampled t n out out' (IsDurable tells leaves) ok
unfolding ended at-start Performed-with
Sampled-put t n s cs engine tells leaves tally s' summary count out out' ok long new all one is put fine =
    let moved = at-start (λ x ds. AllPerformed t x ds engine tells leaves tally s') s cs n new all one in
    let e = summed t n cs engine tells leaves tally s' summary count long all moved is in record {
      session' = s';
      performed = ended t n engine tells leaves tally s' moved;
      written = subst (λ y. Appends out out' (summary_lines y)) e put;
      ok = fine ∙ ap (λ y. y.refused == 0) e ∙ all-accepted moved.replies;
    }

pub Sampled-cut : (t : Tables) (n : ℕ) (s : Session) (cs : List Command) (engine : Engine) (tells leaves : Tables → Type 0) (tally : Tally)
    (s' : Session) (summary : Summary) (count : ℕ) (out out' : Option (List ℕ)) → count ≡ length cs → s ≡ no_session → cs ≡ sample_of n
    → AllPerformed t s cs engine tells leaves tally s' → summary ≡ record {
      messages = n;
      commands = count;
      refused = tally.refused;
      documents = length engine.index.docs;
      notes = length engine.index.notes;
      delivered = tally.delivered;
    }
    → FrontPut (summary_lines summary) out out' → SampledCut t n out out' (IsDurable tells leaves)
unfolding ended at-start Performed-with
Sampled-cut t n s cs engine tells leaves tally s' summary count out out' long new all one is cut =
    let moved = at-start (λ x ds. AllPerformed t x ds engine tells leaves tally s') s cs n new all one in
    let e = summed t n cs engine tells leaves tally s' summary count long all moved is in record {
      session' = s';
      performed = ended t n engine tells leaves tally s' moved;
      cut = subst (λ y. FrontPut (summary_lines y) out out') e cut;
    }
