-- One step, seen by one user.
use Rattle.std.proofs.Common.{◌≡◌, ◌∙◌, sym, ap, refl, subst, ℕ, ℤ, List, true, Option, Some, None, inl, inr}
use Rattle.std.specs.Prelude.{◌⊎◌}
use Rattle.tap_base.specs.Numbers.{moment_of}
use Rattle.tap_rows.specs.declared.tables.Tables.{Tables}
use Rattle.tap_rows.specs.Kept.{IsKept}
use Rattle.tap_rows.specs.WellFormed.{is_well_formed}
use Rattle.script_lang.specs.declared.command.Command.{Command}
use Rattle.script_lang.specs.declared.command.Command.TheVariants.{At, Mail, Mbox}
use Rattle.script_lang.specs.declared.refusal.Refusal.{Refusal}
use Rattle.script_lang.specs.declared.reply.Reply.{Reply}
use Rattle.tap_model.specs.declared.session.Session.{Session}
use Rattle.tap_model.specs.Queries.{query_truth, start_of}
use Rattle.tap_model.specs.Verdicts.{verdict}
use Rattle.tap_model.specs.Replies.{answer_of, answer_by, set_moment}
use Rattle.tap_model.specs.Stories.{Follows, GivesUp, StoryStep}
use Rattle.tap_model.specs.Sound.{IsSound, IsNow}
use Rattle.tap_model.specs.Privacy.{is_shared_reply, concerns, giver, Deed, deed_of, view_of, Move}
use Rattle.tap_model.proofs.SoundLaws.{step-sound}
use Rattle.tap_model.proofs.ViewLaws.{Brief, brief_of, brief-same, view-same}
use Rattle.tap_model.proofs.AlikeLaws.{IsShared, twin, AreTwins}
use Rattle.tap_model.proofs.PrivateLaws.{Told, told, told-alike}

-- a command for which it doesn't matter who gives it
abbrev IsFree : Command → Type 0
IsFree (At text) = Unit {0}
IsFree (Mail block) = Unit {0}
IsFree (Mbox block) = Unit {0}
IsFree command = ⊥

abbrev session_by : Option ℤ → Option (List ℕ) → Session
session_by m u = record { moment = m; user = u }

by-giver : (c : Command) (m : Option ℤ) (u v : Option (List ℕ)) → giver (session_by m u) c ≡ giver (session_by m v) c → (u ≡ v) ⊎ IsFree c
by-giver (At text) m u v same = inr tt
by-giver (Mail block) m u v same = inr tt
by-giver (Mbox block) m u v same = inr tt
by-giver c m u v same = inl same

free-verdict : (c : Command) (m : Option ℤ) (u v : Option (List ℕ)) (t : Tables) → IsFree c
    → verdict c (session_by m u) t ≡ verdict c (session_by m v) t
free-verdict (At text) m u v t free = refl
free-verdict (Mail block) m u v t free = refl
free-verdict (Mbox block) m u v t free = refl
free-verdict c m u v t free = absurd free

moment-told : (user : List ℕ) (moment m : Option ℤ) (u v : Option (List ℕ)) (t : Tables)
    → told user t (set_moment moment (session_by m u)) ≡ told user t (set_moment moment (session_by m v))
moment-told user None m u v t = refl
moment-told user (Some second) m u v t = refl

free-told : (user : List ℕ) (verdict : Option Refusal) (c : Command) (m : Option ℤ) (u v : Option (List ℕ)) (t : Tables) → IsFree c
    → told user t (answer_by verdict c (session_by m u) t) ≡ told user t (answer_by verdict c (session_by m v) t)
free-told user (Some refusal) c m u v t free = refl
free-told user None (At text) m u v t free = moment-told user (moment_of text) m u v t
free-told user None (Mail block) m u v t free = refl
free-told user None (Mbox block) m u v t free = refl
free-told user None c m u v t free = absurd free

-- whoever gives a command, where that doesn't matter
giver-verdict : (c : Command) (m : Option ℤ) (u v : Option (List ℕ)) (t : Tables) → giver (session_by m u) c ≡ giver (session_by m v) c
    → verdict c (session_by m u) t ≡ verdict c (session_by m v) t
giver-verdict c m u v t same = elim (by-giver c m u v same) [
  | inl e ↦ ap (λ u. verdict c (session_by m u) t) e
  | inr free ↦ free-verdict c m u v t free
]

giver-told : (user : List ℕ) (c : Command) (m : Option ℤ) (u v : Option (List ℕ)) (t : Tables) → giver (session_by m u) c
    ≡ giver (session_by m v) c → told user t (answer_of c (session_by m u) t) ≡ told user t (answer_of c (session_by m v) t)
giver-told user c m u v t same = elim (by-giver c m u v same) [
  | inl e ↦ ap (λ u. told user t (answer_of c (session_by m u) t)) e
  | inr free ↦ ap (λ r. told user t (answer_by r c (session_by m u) t)) (free-verdict c m u v t free)
      ∙ free-told user (verdict c (session_by m v) t) c m u v t free
]

-- two verdicts of which one is shared, or what both tell is the same
abbrev Ends : List ℕ → Command → Session → Tables → Session → Tables → Type 0
Ends user c s t s' t' = IsShared (verdict c s t)
    ⊎ (IsShared (verdict c s' t') ⊎ (told user t (answer_of c s t) ≡ told user t' (answer_of c s' t')))

-- the same by another giver
ends-giver : (user : List ℕ) (c : Command) (s : Session) (t : Tables) (m : Option ℤ) (u v : Option (List ℕ)) (t' : Tables)
    → giver (session_by m u) c ≡ giver (session_by m v) c → Ends user c s t (session_by m u) t' → Ends user c s t (session_by m v) t'
ends-giver user c s t m u v t' same (inl shared) = inl shared
ends-giver user c s t m u v t' same (inr (inl shared)) = inr (inl (subst IsShared (giver-verdict c m u v t' same) shared))
ends-giver user c s t m u v t' same (inr (inr e)) = inr (inr (e ∙ giver-told user c m u v t' same))

-- at two points with equal views, with one command
pub ends-same : (user : List ℕ) (c : Command) (s s' : Session) (t t' : Tables) (m : ℤ) → s.moment ≡ Some m → concerns user s c ≡ true
    → brief_of user s t ≡ brief_of user s' t' → giver s c ≡ giver s' c → IsSound t s → IsSound t' s' → Ends user c s t s' t'
ends-same user c s s' t t' m at by same giver-is sound sound' =
    let docs : t'.docs ≡ t.docs = sym (ap (λ (b : Brief). b.docs) same) in
    let notes : t'.notes ≡ t.notes = sym (ap (λ (b : Brief). b.notes) same) in
    let moment : s'.moment ≡ s.moment = sym (ap (λ (b : Brief). b.moment) same) in
    let tables : t' ≡ twin t t' =
    ap (λ d. record { docs = d; notes = t'.notes; queries = t'.queries; runs = t'.runs; picks = t'.picks; filters = t'.filters }) docs
    ∙ ap (λ n. twin (record t { notes = n }) t') notes in
    let session : s' ≡ session_by s.moment s'.user = ap (λ m. session_by m s'.user) moment in
    let kept : IsKept query_truth start_of (twin t t') = subst (λ t'. IsKept query_truth start_of t') tables sound'.kept in
    let now : IsNow s.moment (twin t t') = subst (λ m. IsNow m (twin t t')) moment (subst (λ t'. IsNow s'.moment t') tables sound'.now) in
    let there : IsSound (twin t t') s = record {
      kept = kept;
      now = now;
      formed = subst (λ t'. is_well_formed t' ≡ true) tables sound'.formed;
      sources = sound'.sources;
      rules = sound'.rules;
      user = sound.user;
    } in
    let twins : AreTwins user t t' = record { queries = ap (λ (b : Brief). b.queries) same; filter = ap (λ (b : Brief). b.filter) same } in
    let gives : giver (session_by s.moment s.user) c ≡ giver (session_by s.moment s'.user) c = giver-is ∙ ap (λ s. giver s c) session in
    let ends : Ends user c s t (session_by s.moment s'.user) (twin t t') =
    ends-giver user c s t s.moment s.user s'.user (twin t t') gives (told-alike c user s t t' m at by twins sound there) in
    subst (λ s'. Ends user c s t s' t') (sym session) (subst (λ t'. Ends user c s t (session_by s.moment s'.user) t') (sym tables) ends)

-- a shared verdict is a shared reply
shared-reply : (v : Option Refusal) (c : Command) (s : Session) (t : Tables) → IsShared v → is_shared_reply (answer_by v c s t).reply ≡ true
shared-reply None c s t shared = absurd shared
shared-reply (Some refusal) c s t shared = shared

-- two steps, by what their commands tell
abbrev Ended : List ℕ → Reply → Session → Tables → Reply → Session → Tables → Type 0
Ended user r s t r' s' t' = (is_shared_reply r ≡ true)
    ⊎ ((is_shared_reply r' ≡ true) ⊎ ((r ≡ r') × (view_of user s t ≡ view_of user s' t')))

gives-up : (t : Tables) (s : Session) (c : Command) (r : Reply) (t' : Tables) (s' : Session) → GivesUp t s c r t' s'
    → is_shared_reply r ≡ true
gives-up t s c r t' s' stays = ap is_shared_reply stays.reply_is

follows-told : (user : List ℕ) (t : Tables) (s : Session) (c : Command) (r : Reply) (t' : Tables) (s' : Session) → Follows t s c r t' s'
    → brief_of user s' t' ≡ (told user t (answer_of c s t)).brief
follows-told user t s c r t' s' follows = ap (λ s. brief_of user s t') follows.session_is
    ∙ ap (λ t'. brief_of user (answer_of c s t).session t') follows.tables_are

both-follow : (user : List ℕ) (a b : Move) (c : Command) → Follows a.tables a.session c a.reply a.tables' a.session'
    → Follows b.tables b.session c b.reply b.tables' b.session' → IsSound a.tables' a.session' → IsSound b.tables' b.session'
    → Ends user c a.session a.tables b.session b.tables → Ended user a.reply a.session' a.tables' b.reply b.session' b.tables'
both-follow user a b c f g sound sound' (inl shared) =
    inl (ap is_shared_reply f.reply_is ∙ shared-reply (verdict c a.session a.tables) c a.session a.tables shared)
both-follow user a b c f g sound sound' (inr (inl shared)) =
    inr (inl (ap is_shared_reply g.reply_is ∙ shared-reply (verdict c b.session b.tables) c b.session b.tables shared))
both-follow user a b c f g sound sound' (inr (inr same)) = inr (inr (
  f.reply_is ∙ ap (λ (x : Told). x.reply) same ∙ sym g.reply_is,
  view-same user a.session' b.session' a.tables' b.tables' sound sound'
      (follows-told user a.tables a.session c a.reply a.tables' a.session' f ∙ ap (λ (x : Told). x.brief) same
      ∙ sym (follows-told user b.tables b.session c b.reply b.tables' b.session' g)),
))

-- one deed, from two sound points that look alike to the user
pub step-same : (user : List ℕ) (moment : ℤ) (a b : Move) → a.session.moment ≡ Some moment → view_of user a.session a.tables
    ≡ view_of user b.session b.tables → deed_of a.session a.command ≡ deed_of b.session b.command → concerns user a.session a.command ≡ true
    → Ended user a.reply a.session' a.tables' b.reply b.session' b.tables'
step-same user moment a b at same deed by = go a.step b.step where
  c : Command
  c = a.command

  is : b.command ≡ c
  is = sym (ap (λ (d : Deed). d.command) deed)

  after : IsSound a.tables' a.session'
  after = step-sound a.tables a.session a.command a.reply a.tables' a.session' a.step a.sound

  after' : IsSound b.tables' b.session'
  after' = step-sound b.tables b.session b.command b.reply b.tables' b.session' b.step b.sound

  ends : Ends user c a.session a.tables b.session b.tables
  ends = ends-same user c a.session b.session a.tables b.tables moment at by (brief-same user a.session b.session a.tables b.tables same)
      (ap (λ (d : Deed). d.giver) deed ∙ ap (λ c. giver b.session c) is) a.sound b.sound

  go : StoryStep a.tables a.session a.command a.reply a.tables' a.session'
      → StoryStep b.tables b.session b.command b.reply b.tables' b.session'
      → Ended user a.reply a.session' a.tables' b.reply b.session' b.tables'
  go (inr stays) g = inl (gives-up a.tables a.session a.command a.reply a.tables' a.session' stays)
  go (inl f) (inr stays) = inr (inl (gives-up b.tables b.session b.command b.reply b.tables' b.session' stays))
  go (inl f) (inl g) =
      both-follow user a b c f (subst (λ c. Follows b.tables b.session c b.reply b.tables' b.session') is g) after after' ends
