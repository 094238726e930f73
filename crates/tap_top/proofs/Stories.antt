-- A story goes on, and is sound at each point.
use Rattle.std.proofs.Common.{◌≡◌, ◌∙◌, sym, ap, refl, subst, ℕ, List, [], ◌∷◌, ◌++◌, take, Bool, true, false, Option, None}
use Rattle.std.specs.Prelude.{◌&&◌, ◌⊎◌}
use Rattle.std.specs.List.{flat_map, list_all}
use Rattle.std.specs.Io.KnownBytes.{Appends}
use Rattle.std.proofs.lemmas.List.{append_assoc, append-nil}
use Rattle.std.proofs.lemmas.List.Concat.{flat_map-append}
use Rattle.tap_rows.specs.declared.tables.Tables.{Tables}
use Rattle.script_lang.specs.declared.command.Command.{Command}
use Rattle.script_lang.specs.declared.reply.Reply.{Reply}
use Rattle.script_lang.specs.Replies.{reply_bytes, is_accepted}
use Rattle.tap_edges.specs.Puts.{TookSome}
use Rattle.tap_edges.proofs.Puts.{Appends-more, Appends-none}
use Rattle.tap_edges.specs.declared.edges.PutFailed.{PutFailed}
use Rattle.tap_model.specs.declared.session.Session.{Session}
use Rattle.tap_model.specs.Sound.{IsSound}
use Rattle.tap_model.specs.Verdicts.{verdict}
use Rattle.tap_model.specs.Replies.{answer_of, tables_after}
use Rattle.tap_model.specs.Stories.{StoryStep, Story}
use Rattle.tap_model.proofs.SoundLaws.{step-sound}
use Rattle.tap_engine.specs.Answering.{AddsRows}
use Rattle.tap_top.specs.Points.{SoundAlong}
use Rattle.tap_top.specs.Answers.{Answered, CutOff, MayHaveCommitted, Uncommitted}

pub Story-then : (t : Tables) (s : Session) (xs : List Command) (rs : List Reply) (t1 : Tables) (s1 : Session) (ys : List Command)
    (qs : List Reply) (t2 : Tables) (s2 : Session) → Story t s xs rs t1 s1 → Story t1 s1 ys qs t2 s2 → Story t s (xs ++ ys) (rs ++ qs) t2 s2
Story-then t s [] [] t1 s1 ys qs t2 s2 same more =
    subst (λ t. Story t s ys qs t2 s2) same.0 (subst (λ s. Story t1 s ys qs t2 s2) same.1 more)
Story-then t s (x ∷ xs) (r ∷ rs) t1 s1 ys qs t2 s2 story more =
    (story.0, story.1, story.2, Story-then story.0 story.1 xs rs t1 s1 ys qs t2 s2 story.3 more)
Story-then t s [] (r ∷ rs) t1 s1 ys qs t2 s2 story more = absurd story
Story-then t s (x ∷ xs) [] t1 s1 ys qs t2 s2 story more = absurd story

-- a story that begins sound is sound at each point
pub Story-sound : (t : Tables) (s : Session) (xs : List Command) (rs : List Reply) (t1 : Tables) (s1 : Session)
    (story : Story t s xs rs t1 s1) → IsSound t s → SoundAlong t s xs rs t1 s1 story
Story-sound t s [] [] t1 s1 story sound = subst (λ x. IsSound x s1) (sym story.0) (subst (λ y. IsSound t y) (sym story.1) sound)
Story-sound t s (x ∷ xs) (r ∷ rs) t1 s1 story sound =
    (sound, Story-sound story.0 story.1 xs rs t1 s1 story.3 (step-sound t s x r story.0 story.1 story.2 sound))
Story-sound t s [] (r ∷ rs) t1 s1 story sound = absurd story
Story-sound t s (x ∷ xs) [] t1 s1 story sound = absurd story

-- it began so
pub first-sound : (t : Tables) (s : Session) (xs : List Command) (rs : List Reply) (t1 : Tables) (s1 : Session)
    (story : Story t s xs rs t1 s1) → SoundAlong t s xs rs t1 s1 story → IsSound t s
first-sound t s [] [] t1 s1 story along = subst (λ x. IsSound x s) story.0 (subst (λ y. IsSound t1 y) story.1 along)
first-sound t s (x ∷ xs) (r ∷ rs) t1 s1 story along = along.0
first-sound t s [] (r ∷ rs) t1 s1 story along = absurd story
first-sound t s (x ∷ xs) [] t1 s1 story along = absurd story

list_all-append : (xs ys : List Reply) → list_all is_accepted (xs ++ ys) ≡ (list_all is_accepted xs && list_all is_accepted ys)
list_all-append [] ys = refl
list_all-append (x ∷ xs) ys = elim (is_accepted x) as (λ b. (b && list_all is_accepted (xs ++ ys))
    ≡ ((b && list_all is_accepted xs) && list_all is_accepted ys)) [ true ↦ list_all-append xs ys | false ↦ refl ]

-- nothing is answered yet
pub Answered-none : (t : Tables) (s : Session) (out : Option (List ℕ)) (Ends : Tables → Type 0) → IsSound t s → Ends t
    → Answered t s [] out out Ends s true
Answered-none t s out Ends sound ends =
    record { replies = []; tables' = t; story = (refl, refl); sound = sound; written = Appends-none out; ok = refl; ends = ends }

-- one command is answered
pub Answered-one : (t : Tables) (s : Session) (c : Command) (r : Reply) (out out' : Option (List ℕ)) (Ends : Tables → Type 0) (t' : Tables)
    (s' : Session) (ok : Bool) → IsSound t s → StoryStep t s c r t' s' → Appends out out' (reply_bytes r) → ok ≡ is_accepted r → Ends t'
    → Answered t s (c ∷ []) out out' Ends s' ok
Answered-one t s c r out out' Ends t' s' ok sound step written is ends = record {
  replies = r ∷ [];
  tables' = t';
  story = (t', s', step, (refl, refl));
  sound = (sound, step-sound t s c r t' s' step sound);
  written = subst (λ xs. Appends out out' xs) (sym (append-nil (reply_bytes r))) written;
  ok = is ∙ and_true (is_accepted r);
  ends = ends;
} where
  and_true : (b : Bool) → b ≡ (b && true)
  and_true true = refl
  and_true false = refl

pub Answered-then : (t : Tables) (s : Session) (xs : List Command) (out mid : Option (List ℕ)) (Mid : Tables → Type 0) (s1 : Session)
    (a : Bool) (ys : List Command) (new : Option (List ℕ)) (Ends : Tables → Type 0) (s2 : Session) (b : Bool)
    → (one : Answered t s xs out mid Mid s1 a) → Answered one.tables' s1 ys mid new Ends s2 b
    → Answered t s (xs ++ ys) out new Ends s2 (a && b)
Answered-then t s xs out mid Mid s1 a ys new Ends s2 b one two = record {
  replies = one.replies ++ two.replies;
  tables' = two.tables';
  story = Story-then t s xs one.replies one.tables' s1 ys two.replies two.tables' s2 one.story two.story;
  sound = Story-sound t s (xs ++ ys) (one.replies ++ two.replies) two.tables' s2
      (Story-then t s xs one.replies one.tables' s1 ys two.replies two.tables' s2 one.story two.story)
      (first-sound t s xs one.replies one.tables' s1 one.story one.sound);
  written = subst (λ xs. Appends out new xs) (sym (flat_map-append reply_bytes one.replies two.replies))
      (Appends-more out mid new _ _ one.written two.written);
  ok = ap (λ x. x && b) one.ok ∙ ap (λ y. list_all is_accepted one.replies && y) two.ok ∙ sym (list_all-append one.replies two.replies);
  ends = two.ends;
}

-- what is known of the end may be less
pub Answered-less : (t : Tables) (s : Session) (xs : List Command) (out new : Option (List ℕ)) (Ends Less : Tables → Type 0) (s1 : Session)
    (a : Bool) → ((x : Tables) → Ends x → Less x) → Answered t s xs out new Ends s1 a → Answered t s xs out new Less s1 a
Answered-less t s xs out new Ends Less s1 a less one = record {
  replies = one.replies;
  tables' = one.tables';
  story = one.story;
  sound = one.sound;
  written = one.written;
  ok = one.ok;
  ends = less one.tables' one.ends;
}

-- one command's reply is cut off
pub CutOff-one : (t : Tables) (s : Session) (c : Command) (r : Reply) (out out' : Option (List ℕ)) (Ends : Tables → Type 0) (t' : Tables)
    (s' : Session) (failed : PutFailed) → IsSound t s → StoryStep t s c r t' s' → TookSome 0 out out' (reply_bytes r) failed → Ends t'
    → CutOff t s [] c out out' Ends
CutOff-one t s c r out out' Ends t' s' failed sound step cut ends = record {
  replies = [];
  reply = r;
  tables' = t';
  session' = s';
  story = (t', s', step, (refl, refl));
  sound = (sound, step-sound t s c r t' s' step sound);
  n = cut.n;
  within = cut.within;
  written = cut.written;
  ends = ends;
}

-- a reply is cut off after commands that were answered
pub CutOff-then : (t : Tables) (s : Session) (xs : List Command) (out mid : Option (List ℕ)) (Mid : Tables → Type 0) (s1 : Session)
    (a : Bool) (done : List Command) (last : Command) (new : Option (List ℕ)) (Ends : Tables → Type 0)
    → (one : Answered t s xs out mid Mid s1 a) → CutOff one.tables' s1 done last mid new Ends → CutOff t s (xs ++ done) last out new Ends
CutOff-then t s xs out mid Mid s1 a done last new Ends one cut =
    let story : Story t s ((xs ++ done) ++ last ∷ []) ((one.replies ++ cut.replies) ++ cut.reply ∷ []) cut.tables' cut.session' =
    subst (λ cs. Story t s cs ((one.replies ++ cut.replies) ++ cut.reply ∷ []) cut.tables' cut.session')
    (sym (append_assoc xs done (last ∷ [])))
    (subst (λ rs. Story t s (xs ++ (done ++ last ∷ [])) rs cut.tables' cut.session')
    (sym (append_assoc one.replies cut.replies (cut.reply ∷ [])))
    (Story-then t s xs one.replies one.tables' s1 (done ++ last ∷ []) (cut.replies ++ cut.reply ∷ [])
    cut.tables' cut.session' one.story cut.story)) in record {
      replies = one.replies ++ cut.replies;
      reply = cut.reply;
      tables' = cut.tables';
      session' = cut.session';
      story = story;
      sound = Story-sound t s ((xs ++ done) ++ last ∷ []) ((one.replies ++ cut.replies) ++ cut.reply ∷ []) cut.tables' cut.session' story
          (first-sound t s xs one.replies one.tables' s1 one.story one.sound);
      n = cut.n;
      within = cut.within;
      written = subst (λ xs. Appends out new xs) (joined (flat_map reply_bytes one.replies) (flat_map reply_bytes cut.replies)
          (take cut.n (reply_bytes cut.reply)) (flat_map-append reply_bytes one.replies cut.replies))
          (Appends-more out mid new _ _ one.written cut.written);
      ends = cut.ends;
    } where
      joined : (a b c : List ℕ) {ab : List ℕ} → ab ≡ a ++ b → a ++ (b ++ c) ≡ ab ++ c
      joined a b c e = sym (append_assoc a b c) ∙ ap (λ xs. xs ++ c) (sym e)

-- the commit of a command failed
pub Uncommitted-one : (t : Tables) (s : Session) (c : Command) (out : Option (List ℕ)) (leaves : Tables → Type 0) → IsSound t s
    → verdict c s t ≡ None → AddsRows c s t → ((x : Tables) → leaves x → (x ≡ t) ⊎ (x ≡ tables_after (answer_of c s t).change t))
    → Uncommitted t s [] c out out leaves
Uncommitted-one t s c out leaves sound accepted adds either =
    let may : MayHaveCommitted leaves c s t = record { accepted = accepted; adds = adds; either = either } in
    record { session' = s; all_ok = true; answered = Answered-none t s out (MayHaveCommitted leaves c s) sound may }

-- a commit failed after commands that were answered
pub Uncommitted-then : (t : Tables) (s : Session) (xs : List Command) (out mid : Option (List ℕ)) (Mid : Tables → Type 0) (s1 : Session)
    (a : Bool) (done : List Command) (next : Command) (new : Option (List ℕ)) (leaves : Tables → Type 0)
    → (one : Answered t s xs out mid Mid s1 a) → Uncommitted one.tables' s1 done next mid new leaves
    → Uncommitted t s (xs ++ done) next out new leaves
Uncommitted-then t s xs out mid Mid s1 a done next new leaves one cut = record {
  session' = cut.session';
  all_ok = a && cut.all_ok;
  answered =
      Answered-then t s xs out mid Mid s1 a done new (MayHaveCommitted leaves next cut.session') cut.session' cut.all_ok one cut.answered;
}
