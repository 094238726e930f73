-- What a crash leaves after each end of a run.
use Rattle.std.proofs.Common.{◌≡◌, ◌∙◌, sym, ap, refl, subst, arith, ℕ, suc, zero, ℤ, pos, List, [], ◌∷◌, ◌++◌, ◌-◌, length, take, drop}
use Rattle.std.proofs.Common.{Bool, true, Option, inl, inr, ◌≤◌, ◌<◌}
use Rattle.std.specs.Prelude.{◌⊎◌}
use Rattle.std.specs.List.{flat_map}
use Rattle.std.specs.Io.KnownBytes.{Consumes, Appends}
use Rattle.std.proofs.lemmas.List.{append-nil, append_assoc, length-append, take_all, take-append-drop}
use Rattle.std.proofs.lemmas.List.Concat.{flat_map-append}
use Rattle.std.proofs.Math.Seq.{take-length, take-append_seam}
use Rattle.tap_rows.specs.declared.tables.Tables.{Tables}
use Rattle.script_lang.specs.declared.command.Command.{Command}
use Rattle.script_lang.specs.declared.reply.Reply.{Reply}
use Rattle.script_lang.specs.Replies.{reply_bytes, first_text, rest_lines}
use Rattle.script_lang.specs.Script.{script, complete}
use Rattle.tap_edges.proofs.Puts.{Appends-none}
use Rattle.tap_model.specs.declared.session.Session.{Session}
use Rattle.tap_model.specs.Sessions.{no_session}
use Rattle.tap_model.specs.Sound.{IsSound, IsStore}
use Rattle.tap_model.specs.Replies.{answer_of, tables_after}
use Rattle.tap_model.specs.Stories.{Story}
use Rattle.tap_model.proofs.SoundLaws.{sound-store}
use Rattle.keeper_core.specs.Keeping.{IsDurable}
use Rattle.tap_engine.specs.declared.engine.Engine.{Engine}
use Rattle.tap_engine.specs.Standing.{Represents}
use Rattle.tap_top.specs.declared.top.TheConstants.{SCRIPT_LIMIT}
use Rattle.tap_top.specs.Points.{SoundAlong, EngineMatchesKeeper}
use Rattle.tap_top.specs.Answers.{Answered}
use Rattle.tap_top.specs.Statuses.{AreFirst, Whole, ReadCut, TooLong, OutOfMemory, PutCut, KeeperCut}
use Rattle.tap_top.specs.Crashes.{IsPrefixOfStory, AreFullyWritten, AreWrittenReplies, LeavesPrefix}
use Rattle.tap_top.proofs.Stories.{Story-then, Story-sound, Answered-none}
use Rattle.tap_top.proofs.Runs.{Consumes-none, same-front}
use Rattle.tap_base.specs.Prefixes.{IsPrefix}

-- as many replies as commands
pub story-lengths : (t : Tables) (s : Session) (cs : List Command) (rs : List Reply) (t' : Tables) (s' : Session) → Story t s cs rs t' s'
    → length rs ≡ length cs
story-lengths t s [] [] t' s' story = refl
story-lengths t s (c ∷ cs) (r ∷ rs) t' s' story = ap suc (story-lengths story.0 story.1 cs rs t' s' story.3)
story-lengths t s [] (r ∷ rs) t' s' story = absurd story
story-lengths t s (c ∷ cs) [] t' s' story = absurd story

-- the end of a story is a prefix
pub whole-prefix : (t : Tables) (cs : List Command) (rs : List Reply) (t' : Tables) (s' : Session) (n : ℕ) (x : Tables)
    → Story t no_session cs rs t' s' → n ≤ length rs → x ≡ t' → IsPrefixOfStory t cs rs n x
whole-prefix t cs rs t' s' n x story few is =
    let same = story-lengths t no_session cs rs t' s' story in record {
      k = length cs;
      enough = subst (λ m. n ≤ m) same few;
      within = omega arith;
      session = s';
      story = subst (λ y. Story t no_session (take (length cs) cs) (take (length cs) rs) y s') (sym is)
          (subst (λ ds. Story t no_session ds (take (length cs) rs) t' s') (sym (take-length cs))
          (subst (λ qs. Story t no_session cs qs t' s') (sym (ap (λ m. take m rs) (sym same) ∙ take-length rs)) story));
    }

-- the first of some replies lie whole in the bytes of all
first-whole : (n : ℕ) (rs : List Reply) → AreFullyWritten n rs (flat_map reply_bytes rs)
first-whole n rs = record {
  rest = flat_map reply_bytes (drop n rs);
  is = ap (flat_map reply_bytes) (sym (take-append-drop n rs)) ∙ flat_map-append reply_bytes (take n rs) (drop n rs);
}

-- all replies were written
all-said : (rs : List Reply) → AreWrittenReplies rs (flat_map reply_bytes rs)
all-said rs = record { rest = []; front = sym (append-nil (flat_map reply_bytes rs)); most = first-whole (length rs - 1) rs }

-- all replies but the last were written, and a front of its bytes
cut-said : (rs : List Reply) (r : Reply) (front back : List ℕ) → front ++ back ≡ reply_bytes r
    → AreWrittenReplies (rs ++ r ∷ []) (flat_map reply_bytes rs ++ front)
cut-said rs r front back split =
    let all = flat_map reply_bytes rs in
    let l = length-append rs (r ∷ []) in
    let but : length (rs ++ r ∷ []) - 1 ≡ length rs = omega arith in
    let last : flat_map reply_bytes (r ∷ []) ≡ front ++ back = append-nil (reply_bytes r) ∙ sym split in
    let firsts : take (length (rs ++ r ∷ []) - 1) (rs ++ r ∷ []) ≡ rs = ap (λ n. take n (rs ++ r ∷ [])) but
    ∙ take-append_seam rs (r ∷ []) in
    record {
      rest = back;
      front = flat_map-append reply_bytes rs (r ∷ []) ∙ ap (λ xs. all ++ xs) last ∙ sym (append_assoc all front back);
      most = record { rest = front; is = ap (λ qs. flat_map reply_bytes qs ++ front) (sym firsts) };
    }

-- all replies but the last were written
next-said : (rs : List Reply) (r : Reply) → AreWrittenReplies (rs ++ r ∷ []) (flat_map reply_bytes rs)
next-said rs r =
    subst (λ bytes. AreWrittenReplies (rs ++ r ∷ []) bytes) (append-nil (flat_map reply_bytes rs)) (cut-said rs r [] (reply_bytes r) refl)

-- a story whose end alone a crash leaves
story-leaves : (t : Tables) (left left' out out' : Option (List ℕ)) (versions : ℤ → Type 0) (leaves : Tables → Type 0) (bytes : List ℕ)
    (cs : List Command) (rs : List Reply) (t' : Tables) (s' : Session) (written : List ℕ) → Consumes left left' bytes
    → AreFirst cs (take SCRIPT_LIMIT bytes) left' → Story t no_session cs rs t' s' → Appends out out' written
    → ((v : ℤ) → versions v → (v ≡ pos 1) ⊎ (v ≡ pos 2) → AreWrittenReplies rs written) → ((x : Tables) → leaves x → x ≡ t')
    → LeavesPrefix t left left' out out' versions leaves
story-leaves t left left' out out' versions leaves bytes cs rs t' s' written taken first story put said exact = record {
  bytes = bytes;
  taken = taken;
  commands = cs;
  first = first;
  replies = rs;
  tables' = t';
  session' = s';
  story = story;
  written = written;
  put = put;
  said = said;
  each = λ n few lie x may. whole-prefix t cs rs t' s' n x story few (exact x may);
}

-- nothing was read
pub none-leaves : (t : Tables) (left left' out out' : Option (List ℕ)) (versions : ℤ → Type 0) (leaves : Tables → Type 0) (written : List ℕ)
    → left' ≡ left → Appends out out' written → ((v : ℤ) → versions v → (v ≡ pos 1) ⊎ (v ≡ pos 2) → AreWrittenReplies [] written)
    → ((x : Tables) → leaves x → x ≡ t) → LeavesPrefix t left left' out out' versions leaves
none-leaves t left left' out out' versions leaves written unread put said exact =
    story-leaves t left left' out out' versions leaves [] [] [] t no_session written
    (subst (λ l. Consumes left l []) (sym unread) (Consumes-none left))
    (inl (record { rest = complete (take SCRIPT_LIMIT []); is = refl })) (refl, refl) put said exact

pub nothing-leaves : (t : Tables) (left left' out out' : Option (List ℕ)) (versions : ℤ → Type 0) (leaves : Tables → Type 0) → left' ≡ left
    → out' ≡ out → ((x : Tables) → leaves x → x ≡ t) → LeavesPrefix t left left' out out' versions leaves
nothing-leaves t left left' out out' versions leaves unread unwritten exact = none-leaves t left left' out out' versions leaves [] unread
    (subst (λ o. Appends out o []) (sym unwritten) (Appends-none out)) (λ v has known. all-said []) exact

answered-leaves : (t : Tables) (left left' out out' : Option (List ℕ)) (versions : ℤ → Type 0) (tells leaves : Tables → Type 0)
    (bytes : List ℕ) (cs : List Command) (s' : Session) (ok : Bool) → Consumes left left' bytes
    → AreFirst cs (take SCRIPT_LIMIT bytes) left' → Answered t no_session cs out out' (IsDurable tells leaves) s' ok
    → LeavesPrefix t left left' out out' versions leaves
answered-leaves t left left' out out' versions tells leaves bytes cs s' ok taken first one =
    story-leaves t left left' out out' versions leaves bytes cs one.replies one.tables' s' (flat_map reply_bytes one.replies) taken first
    one.story one.written (λ v has known. all-said one.replies) one.ends.exact

pub all-of : (cs : List Command) → IsPrefix cs cs
all-of cs = record { rest = []; is = sym (append-nil cs) }

whole-leaves : (t : Tables) (left left' out out' : Option (List ℕ)) (versions : ℤ → Type 0) (tells leaves : Tables → Type 0) (ok : Bool)
    → Whole t left left' out out' (IsDurable tells leaves) ok → LeavesPrefix t left left' out out' versions leaves
whole-leaves t left left' out out' versions tells leaves ok run =
    answered-leaves t left left' out out' versions tells leaves run.bytes (script run.bytes) run.session ok
    run.taken (inr (
      run.ended,
      subst (λ xs. IsPrefix (script run.bytes) (script xs)) (sym (same-front SCRIPT_LIMIT run.bytes run.fits))
          (all-of (script run.bytes)),
    )) run.answered

read-leaves : (t : Tables) (left left' out out' : Option (List ℕ)) (versions : ℤ → Type 0) (tells leaves : Tables → Type 0)
    → ReadCut t left left' out out' (IsDurable tells leaves) → LeavesPrefix t left left' out out' versions leaves
read-leaves t left left' out out' versions tells leaves run =
    answered-leaves t left left' out out' versions tells leaves run.bytes (complete run.bytes)
    run.session run.all_ok run.taken (inl (subst (λ xs. IsPrefix (complete run.bytes) (complete xs))
    (sym (same-front SCRIPT_LIMIT run.bytes run.fits)) (all-of (complete run.bytes)))) run.answered

long-leaves : (t : Tables) (left left' out out' : Option (List ℕ)) (versions : ℤ → Type 0) (tells leaves : Tables → Type 0)
    → TooLong t left left' out out' (IsDurable tells leaves) → LeavesPrefix t left left' out out' versions leaves
long-leaves t left left' out out' versions tells leaves run =
    answered-leaves t left left' out out' versions tells leaves run.long.bytes (complete (take SCRIPT_LIMIT run.long.bytes))
    run.session run.all_ok run.long.taken (inl (all-of (complete (take SCRIPT_LIMIT run.long.bytes)))) run.answered

memory-leaves : (t : Tables) (left left' out out' : Option (List ℕ)) (versions : ℤ → Type 0) (tells leaves : Tables → Type 0)
    → OutOfMemory t left left' out out' (IsDurable tells leaves) → LeavesPrefix t left left' out out' versions leaves
memory-leaves t left left' out out' versions tells leaves run = answered-leaves t left left' out out' versions tells leaves
    run.bytes run.commands run.session run.all_ok run.taken (inl run.first) run.answered

put-leaves : (t : Tables) (left left' out out' : Option (List ℕ)) (versions : ℤ → Type 0) (tells leaves : Tables → Type 0)
    → PutCut t left left' out out' (IsDurable tells leaves) → LeavesPrefix t left left' out out' versions leaves
put-leaves t left left' out out' versions tells leaves run =
    let cut = run.cut in
    story-leaves t left left' out out' versions leaves run.bytes (run.done ++ run.last ∷ []) (cut.replies ++ cut.reply ∷ [])
    cut.tables' cut.session' (flat_map reply_bytes cut.replies ++ take cut.n (reply_bytes cut.reply))
    run.taken run.first cut.story cut.written (λ v has known. cut-said cut.replies cut.reply (take cut.n (reply_bytes cut.reply))
    (drop cut.n (reply_bytes cut.reply)) (take-append-drop cut.n (reply_bytes cut.reply))) cut.ends.exact

-- no reply is empty
some-bytes : (r : Reply) → 0 < length (reply_bytes r)
some-bytes r =
    let l = length-append (first_text r ++ 10 ∷ []) (rest_lines r) in
    let m = length-append (first_text r) (10 ∷ []) in
    omega arith

le-or : (a b : ℕ) → a ≤ b ⊎ b < a
le-or zero b = inl (omega arith)
le-or (suc a) zero = inr (omega arith)
le-or (suc a) (suc b) = elim (le-or a b) [ inl le ↦ inl (omega arith) | inr lt ↦ inr (omega arith) ]

-- the reply to a command whose commit failed isn't whole
not-whole : (rs : List Reply) (r : Reply) (n : ℕ) → n ≤ length (rs ++ r ∷ []) → AreFullyWritten n (rs ++ r ∷ []) (flat_map reply_bytes rs)
    → n ≤ length rs
not-whole rs r n few lie = elim (le-or n (length rs)) [
  | inl le ↦ le
  | inr lt ↦
      let l = length-append rs (r ∷ []) in
      let all : length (rs ++ r ∷ []) ≤ n = omega arith in
      let e : flat_map reply_bytes rs ≡ (flat_map reply_bytes rs ++ (reply_bytes r ++ [])) ++ lie.rest =
      lie.is ∙ ap (λ qs. flat_map reply_bytes qs ++ lie.rest) (take_all n (rs ++ r ∷ []) all)
      ∙ ap (λ xs. xs ++ lie.rest) (flat_map-append reply_bytes rs (r ∷ [])) in
      absurd (longer (flat_map reply_bytes rs) (reply_bytes r) lie.rest (some-bytes r) e)
] where
  longer : (xs ys zs : List ℕ) → 0 < length ys → xs ≡ (xs ++ (ys ++ [])) ++ zs → ⊥
  longer xs ys zs some e =
      let a = ap length e in
      let b = length-append (xs ++ (ys ++ [])) zs in
      let c = length-append xs (ys ++ []) in
      let d = length-append ys [] in
      omega arith

-- the first commands of a story that goes on
pub front-prefix : (t : Tables) (cs : List Command) (c : Command) (rs : List Reply) (r : Reply) (t' : Tables) (s' : Session) (n : ℕ)
    (x : Tables) → Story t no_session cs rs t' s' → n ≤ length rs → x ≡ t' → IsPrefixOfStory t (cs ++ c ∷ []) (rs ++ r ∷ []) n x
front-prefix t cs c rs r t' s' n x story few is =
    let same = story-lengths t no_session cs rs t' s' story in record {
      k = length cs;
      enough = subst (λ m. n ≤ m) same few;
      within = (let l = length-append cs (c ∷ []) in omega arith);
      session = s';
      story = subst (λ y. Story t no_session (take (length cs) (cs ++ c ∷ [])) (take (length cs) (rs ++ r ∷ [])) y s') (sym is)
          (subst (λ ds. Story t no_session ds (take (length cs) (rs ++ r ∷ [])) t' s') (sym (take-append_seam cs (c ∷ [])))
          (subst (λ qs. Story t no_session cs qs t' s') (sym (ap (λ m. take m (rs ++ r ∷ [])) (sym same) ∙ take-append_seam rs (r ∷ [])))
          story));
    }

-- a commit failed
uncommitted-leaves : (t : Tables) (left left' out out' : Option (List ℕ)) (versions : ℤ → Type 0) (leaves : Tables → Type 0)
    → KeeperCut t left left' out out' leaves → LeavesPrefix t left left' out out' versions leaves
uncommitted-leaves t left left' out out' versions leaves run =
    let one = run.cut.answered in
    let s1 = run.cut.session' in
    let answer = answer_of run.last s1 one.tables' in
    let story : Story t no_session (run.done ++ run.last ∷ []) (one.replies ++ answer.reply ∷ []) (tables_after answer.change one.tables')
    answer.session =
    Story-then t no_session run.done one.replies one.tables' s1 (run.last ∷ []) (answer.reply ∷ []) (tables_after answer.change one.tables')
    answer.session one.story (
      tables_after answer.change one.tables',
      answer.session,
      inl (record { reply_is = refl; tables_are = refl; session_is = refl }),
      (refl, refl),
    ) in record {
      bytes = run.bytes;
      taken = run.taken;
      commands = run.done ++ run.last ∷ [];
      first = run.first;
      replies = one.replies ++ answer.reply ∷ [];
      tables' = tables_after answer.change one.tables';
      session' = answer.session;
      story = story;
      written = flat_map reply_bytes one.replies;
      put = one.written;
      said = λ v has known. next-said one.replies answer.reply;
      each = λ n few lie x may. elim (one.ends.either x may) [
        | inl before ↦ front-prefix t run.done run.last one.replies answer.reply one.tables' s1 n x
            one.story (not-whole one.replies answer.reply n few lie) before
        | inr after ↦ whole-prefix t (run.done ++ run.last ∷ []) (one.replies ++ answer.reply ∷ []) (tables_after answer.change one.tables')
            answer.session n x story few after
      ];
    }

-- each end of a run
pub run-leaves : (t : Tables) (left left' out out' : Option (List ℕ)) (versions : ℤ → Type 0) (tells leaves : Tables → Type 0) (ok : Bool)
    (status : ℕ) → (status ≤ 1 ⊎ (status ≡ 3 ⊎ (status ≡ 4 ⊎ (status ≡ 5 ⊎ (status ≡ 7 ⊎ status ≡ 8)))))
    → (status ≤ 1 → Whole t left left' out out' (IsDurable tells leaves) ok)
    → (status ≡ 3 → ReadCut t left left' out out' (IsDurable tells leaves))
    → (status ≡ 4 → PutCut t left left' out out' (IsDurable tells leaves)) → (status ≡ 5 → KeeperCut t left left' out out' leaves)
    → (status ≡ 7 → OutOfMemory t left left' out out' (IsDurable tells leaves))
    → (status ≡ 8 → TooLong t left left' out out' (IsDurable tells leaves)) → LeavesPrefix t left left' out out' versions leaves
run-leaves t left left' out out' versions tells leaves ok status (inl low) whole read put cut short long =
    whole-leaves t left left' out out' versions tells leaves ok (whole low)
run-leaves t left left' out out' versions tells leaves ok status (inr (inl is)) whole read put cut short long =
    read-leaves t left left' out out' versions tells leaves (read is)
run-leaves t left left' out out' versions tells leaves ok status (inr (inr (inl is))) whole read put cut short long =
    put-leaves t left left' out out' versions tells leaves (put is)
run-leaves t left left' out out' versions tells leaves ok status (inr (inr (inr (inl is)))) whole read put cut short long =
    uncommitted-leaves t left left' out out' versions leaves (cut is)
run-leaves t left left' out out' versions tells leaves ok status (inr (inr (inr (inr (inl is))))) whole read put cut short long =
    memory-leaves t left left' out out' versions tells leaves (short is)
run-leaves t left left' out out' versions tells leaves ok status (inr (inr (inr (inr (inr is))))) whole read put cut short long =
    long-leaves t left left' out out' versions tells leaves (long is)

last-sound : (t : Tables) (s : Session) (cs : List Command) (rs : List Reply) (t' : Tables) (s' : Session) (story : Story t s cs rs t' s')
    → SoundAlong t s cs rs t' s' story → IsSound t' s'
last-sound t s [] [] t' s' story along = along
last-sound t s (c ∷ cs) (r ∷ rs) t' s' story along = last-sound story.0 story.1 cs rs t' s' story.3 along.1
last-sound t s [] (r ∷ rs) t' s' story along = absurd story
last-sound t s (c ∷ cs) [] t' s' story along = absurd story

-- a story that begins with a store leads to one
pub story-store : (t : Tables) (cs : List Command) (rs : List Reply) (t' : Tables) (s' : Session) → Story t no_session cs rs t' s'
    → IsStore t → IsStore t'
story-store t cs rs t' s' story store =
    let sound = last-sound t no_session cs rs t' s' story (Story-sound t no_session cs rs t' s' story store) in sound-store t' s' sound

-- what a crash leaves is a store
pub leaves-stores : (t : Tables) (left left' out out' : Option (List ℕ)) (versions : ℤ → Type 0) (leaves : Tables → Type 0) → IsStore t
    → LeavesPrefix t left left' out out' versions leaves → (x : Tables) → leaves x → IsStore x
leaves-stores t left left' out out' versions leaves store crash x may =
    let front = crash.each 0 (omega arith) (record { rest = crash.written; is = refl }) x may in
    story-store t (take front.k crash.commands) (take front.k crash.replies) x front.session front.story store

-- a run begins over a store
pub opened-at : (engine : Engine) (tells leaves : Tables → Type 0) (t : Tables) → engine.session ≡ no_session → Represents engine t
    → IsDurable tells leaves t → IsStore t → EngineMatchesKeeper engine tells leaves t
opened-at engine tells leaves t new represents holds store =
    record { represents = represents; sound = subst (λ s. IsSound t s) (sym new) store; holds = holds }

-- no memory to open a store
pub OutOfMemory-none : (t : Tables) (left left' out out' : Option (List ℕ)) (Ends : Tables → Type 0) → left' ≡ left → out' ≡ out → IsStore t
    → Ends t → OutOfMemory t left left' out out' Ends
OutOfMemory-none t left left' out out' Ends unread unwritten store ends = record {
  bytes = [];
  taken = subst (λ l. Consumes left l []) (sym unread) (Consumes-none left);
  few = omega arith;
  commands = [];
  first = record { rest = complete (take SCRIPT_LIMIT []); is = refl };
  session = no_session;
  all_ok = true;
  answered =
      subst (λ o. Answered t no_session [] out o Ends no_session true) (sym unwritten) (Answered-none t no_session out Ends store ends);
}
