-- Whole stories, seen by one user.
use Rattle.std.proofs.Common.{◌≡◌, ◌∙◌, sym, ap, refl, subst, ℕ, ℤ, List, [], ◌∷◌, Bool, true, false, Option, Some, None, inl, inr}
use Rattle.std.proofs.Common.{if◌then◌else◌}
use Rattle.tap_base.specs.Numbers.{moment_of}
use Rattle.tap_rows.specs.declared.tables.Tables.{Tables}
use Rattle.tap_rows.specs.declared.rows.QueryRow.{QueryRow}
use Rattle.tap_rows.specs.Kept.{Each}
use Rattle.script_lang.specs.declared.command.Command.{Command}
use Rattle.script_lang.specs.declared.command.Command.TheVariants.{At, Run, BoxOf, ListOf, Ask, Explain, Wake, DigestOf}
use Rattle.script_lang.specs.declared.refusal.Refusal.{Refusal}
use Rattle.script_lang.specs.declared.reply.Reply.{Reply}
use Rattle.tap_model.specs.declared.session.Session.{Session}
use Rattle.tap_model.specs.Sessions.{user_of}
use Rattle.tap_model.specs.Queries.{query_named}
use Rattle.tap_model.specs.Verdicts.{verdict}
use Rattle.tap_model.specs.Replies.{answer_by, accepted, set_moment, run_query, show_box, show_list, show_lines, show_wake, show_digest}
use Rattle.tap_model.specs.Replies.{ask_at}
use Rattle.tap_model.specs.Stories.{StoryStep, Story}
use Rattle.tap_model.specs.Sound.{IsSound}
use Rattle.tap_model.specs.Privacy.{view_of, is_shared_reply, concerns, Deed, deed_of, Act, Move, Tale, acts_along, acts_of, deeds}
use Rattle.tap_model.specs.Privacy.{replies_in}
use Rattle.tap_model.proofs.HeldLaws.{Present}
use Rattle.tap_model.proofs.SoundLaws.{step-sound}
use Rattle.tap_model.proofs.StepLaws.{step-same}
use Rattle.tap_model.proofs.OthersLaws.{step-other}

-- a moment stays
moment-set : (moment : Option ℤ) (s : Session) → Present s → Present (set_moment moment s).session
moment-set None s there = there
moment-set (Some m) s there = record { m = m; is = refl }

run-stays : (q : Option QueryRow) (s : Session) (t : Tables) → Present s → Present (run_query q s t).session
run-stays None s t there = there
run-stays (Some q) s t there = there

box-stays : (q : Option QueryRow) (name : List ℕ) (s : Session) (t : Tables) → Present s → Present (show_box q name s t).session
box-stays None name s t there = there
box-stays (Some q) name s t there = there

list-stays : (q : Option QueryRow) (name : List ℕ) (s : Session) (t : Tables) → Present s → Present (show_list q name s t).session
list-stays None name s t there = there
list-stays (Some q) name s t there = there

lines-stays : (q : Option QueryRow) (name : List ℕ) (s : Session) (t : Tables) → Present s → Present (show_lines q name s t).session
lines-stays None name s t there = there
lines-stays (Some q) name s t there = there

wake-stays : (q : Option QueryRow) (name : List ℕ) (s : Session) (t : Tables) → Present s → Present (show_wake q name s t).session
wake-stays None name s t there = there
wake-stays (Some q) name s t there = there

digest-stays : (q : Option QueryRow) (name : List ℕ) (ordinal : ℕ) (s : Session) (t : Tables) → Present s
    → Present (show_digest q name ordinal s t).session
digest-stays None name ordinal s t there = there
digest-stays (Some q) name ordinal s t there = there

ask-stays : (second : Option ℤ) (source : List ℕ) (s : Session) (t : Tables) → Present s → Present (ask_at second source s t).session
ask-stays None source s t there = there
ask-stays (Some second) source s t there = there

accepted-stays : (c : Command) (s : Session) (t : Tables) → Present s → Present (accepted c s t).session
accepted-stays (At text) s t there = moment-set (moment_of text) s there
accepted-stays (Run name) s t there = run-stays (query_named (user_of s) name t) s t there
accepted-stays (BoxOf name) s t there = box-stays (query_named (user_of s) name t) name s t there
accepted-stays (ListOf name) s t there = list-stays (query_named (user_of s) name t) name s t there
accepted-stays (Explain name) s t there = lines-stays (query_named (user_of s) name t) name s t there
accepted-stays (Wake name) s t there = wake-stays (query_named (user_of s) name t) name s t there
accepted-stays (DigestOf name ordinal) s t there = digest-stays (query_named (user_of s) name t) name ordinal s t there
accepted-stays (Ask moment source) s t there = ask-stays (moment_of moment) source s t there
accepted-stays c s t there = record { m = there.m; is = there.is }

answer-stays : (v : Option Refusal) (c : Command) (s : Session) (t : Tables) → Present s → Present (answer_by v c s t).session
answer-stays None c s t there = accepted-stays c s t there
answer-stays (Some refusal) c s t there = there

moment-stays : (t : Tables) (s : Session) (c : Command) (r : Reply) (t' : Tables) (s' : Session) → StoryStep t s c r t' s' → Present s
    → Present s'
moment-stays t s c r t' s' (inl follows) there = subst Present (sym follows.session_is) (answer-stays (verdict c s t) c s t there)
moment-stays t s c r t' s' (inr stays) there = subst Present (sym stays.session_is) there

abbrev Unshared : List Act → Type 0
Unshared acts = Each (λ act. is_shared_reply act.reply ≡ false) acts

no-act : (deed : Deed) (others : List Deed) → deed ∷ others ≡ [] → ⊥
no-act deed others e = cc

one-more : (deed : Deed) (others : List Deed) → [] ≡ deed ∷ others → ⊥
one-more deed others e = cc

first-deed : (d e : Deed) (ds es : List Deed) → d ∷ ds ≡ e ∷ es → d ≡ e
first-deed d e ds es same = cc

other-deeds : (d e : Deed) (ds es : List Deed) → d ∷ ds ≡ e ∷ es → ds ≡ es
other-deeds d e ds es same = cc

both-replies : (r q : Reply) (rs qs : List Reply) → r ≡ q → rs ≡ qs → r ∷ rs ≡ q ∷ qs
both-replies r q rs qs e f = rw (e, f) refl

not-both : (b : Bool) → b ≡ true → b ≡ false → ⊥
not-both b t f = cc

abbrev move_of : (t : Tables) (s : Session) (c : Command) (r : Reply) (t' : Tables) (s' : Session) → StoryStep t s c r t' s' → IsSound t s
    → Move
move_of t s c r t' s' step sound =
    record { tables = t; session = s; command = c; reply = r; tables' = t'; session' = s'; sound = sound; step = step }

-- a story without an act that concerns the user leaves what the user sees
no-acts : (user : List ℕ) (t : Tables) (s : Session) (cs : List Command) (rs : List Reply) (t' : Tables) (s' : Session)
    (story : Story t s cs rs t' s') → IsSound t s → deeds (acts_along user t s cs rs t' s' story) ≡ []
    → (replies_in (acts_along user t s cs rs t' s' story) ≡ []) × (view_of user s' t' ≡ view_of user s t)
no-acts user t s [] [] t' s' story sound none = (refl, ap (λ s. view_of user s t') story.1 ∙ ap (view_of user s) story.0)
no-acts user t s [] (r ∷ rs) t' s' story sound none = absurd story
no-acts user t s (c ∷ cs) [] t' s' story sound none = absurd story
no-acts user t s (c ∷ cs) (r ∷ rs) t' s' story sound none =
    go (concerns user s c) refl none
    (no-acts user story.0 story.1 cs rs t' s' story.3 (step-sound t s c r story.0 story.1 story.2 sound)) where
      act : Act
      act = record { deed = deed_of s c; reply = r }

      rest : List Act
      rest = acts_along user story.0 story.1 cs rs t' s' story.3

      go : (b : Bool) → concerns user s c ≡ b → deeds (if b then act ∷ rest else rest) ≡ []
          → (deeds rest ≡ [] → (replies_in rest ≡ []) × (view_of user s' t' ≡ view_of user story.1 story.0))
          → (replies_in (if b then act ∷ rest else rest) ≡ []) × (view_of user s' t' ≡ view_of user s t)
      go true e none left = absurd (no-act act.deed (deeds rest) none)
      go false e none left = let is = left none in (is.0, is.1 ∙ step-other user (move_of t s c r story.0 story.1 story.2 sound) e)

-- some acts, and what is seen at their end, are those of each story from a point that looks alike, with the same deeds
abbrev AgreesWithAll : List ℕ → List Act → Session → Tables → Session → Tables → Type 0
AgreesWithAll user acts s t s' t' =
    (u : Tables) (v : Session) (ds : List Command) (qs : List Reply) (u' : Tables) (v' : Session) (story : Story u v ds qs u' v')
    → IsSound u v → view_of user s t ≡ view_of user v u → deeds acts ≡ deeds (acts_along user u v ds qs u' v' story)
    → Unshared (acts_along user u v ds qs u' v' story)
    → (replies_in acts ≡ replies_in (acts_along user u v ds qs u' v' story)) × (view_of user s' t' ≡ view_of user v' u')

-- an act before them
act-before : (user : List ℕ) (a : Move) (acts : List Act) (s' : Session) (t' : Tables) → concerns user a.session a.command ≡ true
    → Present a.session → is_shared_reply a.reply ≡ false
    → AgreesWithAll user acts a.session' a.tables' s' t'
    → AgreesWithAll user (record { deed = deed_of a.session a.command; reply = a.reply } ∷ acts) a.session a.tables s' t'
act-before user a acts s' t'
    by there plain rest u v [] [] u' v' story sound same deed plain' = absurd (no-act (deed_of a.session a.command) (deeds acts) deed)
act-before user a acts s' t' by there plain rest u v [] (q ∷ qs) u' v' story sound same deed plain' = absurd story
act-before user a acts s' t' by there plain rest u v (d ∷ ds) [] u' v' story sound same deed plain' = absurd story
act-before user a acts s' t' by there plain rest u v (d ∷ ds) (q ∷ qs) u' v' story sound same deed plain' =
    go (concerns user v d) refl deed plain' (act-before user a acts s' t' by there plain rest story.0 story.1 ds qs u' v' story.3 mid) where
      b : Move
      b = move_of u v d q story.0 story.1 story.2 sound

      mid : IsSound story.0 story.1
      mid = step-sound u v d q story.0 story.1 story.2 sound

      act : Act
      act = record { deed = deed_of a.session a.command; reply = a.reply }

      act' : Act
      act' = record { deed = deed_of v d; reply = q }

      acts' : List Act
      acts' = acts_along user story.0 story.1 ds qs u' v' story.3

      go : (is : Bool) → concerns user v d ≡ is → deeds (act ∷ acts) ≡ deeds (if is then act' ∷ acts' else acts')
          → Unshared (if is then act' ∷ acts' else acts')
          → (view_of user a.session a.tables ≡ view_of user story.1 story.0 → deeds (act ∷ acts) ≡ deeds acts' → Unshared acts'
          → (replies_in (act ∷ acts) ≡ replies_in acts') × (view_of user s' t' ≡ view_of user v' u'))
          → (replies_in (act ∷ acts) ≡ replies_in (if is then act' ∷ acts' else acts')) × (view_of user s' t' ≡ view_of user v' u')
      go false e deed plain' later = later (same ∙ sym (step-other user b e)) deed plain'
      go true e deed plain' later =
          elim (step-same user there.m a b there.is same (first-deed act.deed act'.deed (deeds acts) (deeds acts') deed) by) [
            | inl shared ↦ absurd (not-both (is_shared_reply a.reply) shared plain)
            | inr other ↦ elim other [
              | inl shared ↦ absurd (not-both (is_shared_reply q) shared plain'.0)
              | inr both ↦
                  let is =
                  rest story.0 story.1 ds qs u' v' story.3 mid both.1 (other-deeds act.deed act'.deed (deeds acts) (deeds acts') deed)
                  plain'.1 in
                  (both-replies a.reply q (replies_in acts) (replies_in acts') both.0 is.0, is.1)
            ]
          ]

-- the acts of a story agree with those of each other one
agrees : (user : List ℕ) (t : Tables) (s : Session) (cs : List Command) (rs : List Reply) (t' : Tables) (s' : Session)
    (story : Story t s cs rs t' s') → IsSound t s → Present s → Unshared (acts_along user t s cs rs t' s' story)
    → AgreesWithAll user (acts_along user t s cs rs t' s' story) s t s' t'
agrees user t s [] [] t' s' story sound there plain = λ u v ds qs u' v' story' sound' same deed plain'.
    let none = no-acts user u v ds qs u' v' story' sound' (sym deed) in
    (sym none.0, ap (λ s. view_of user s t') story.1 ∙ ap (view_of user s) story.0 ∙ same ∙ sym none.1)
agrees user t s [] (r ∷ rs) t' s' story sound there plain = absurd story
agrees user t s (c ∷ cs) [] t' s' story sound there plain = absurd story
agrees user t s (c ∷ cs) (r ∷ rs) t' s' story sound there plain =
    go (concerns user s c) refl plain (agrees user story.0 story.1 cs rs t' s' story.3 (step-sound t s c r story.0 story.1 story.2 sound)
    (moment-stays t s c r story.0 story.1 story.2 there)) where
      a : Move
      a = move_of t s c r story.0 story.1 story.2 sound

      act : Act
      act = record { deed = deed_of s c; reply = r }

      rest : List Act
      rest = acts_along user story.0 story.1 cs rs t' s' story.3

      go : (b : Bool) → concerns user s c ≡ b → Unshared (if b then act ∷ rest else rest)
          → (Unshared rest → AgreesWithAll user rest story.1 story.0 s' t') → AgreesWithAll user (if b then act ∷ rest else rest) s t s' t'
      go true e plain later = act-before user a rest s' t' e there plain.0 (later plain.1)
      go false e plain later = λ u v ds qs u' v' story' sound' same deed plain'.
          later plain u v ds qs u' v' story' sound' (step-other user a e ∙ same) deed plain'

-- two stories with the same deeds
pub tales-same : (user : List ℕ) (moment : ℤ) (a b : Tale) → a.session.moment ≡ Some moment
    → view_of user a.session a.tables ≡ view_of user b.session b.tables → deeds (acts_of user a) ≡ deeds (acts_of user b)
    → Unshared (acts_of user a) → Unshared (acts_of user b) → (replies_in (acts_of user a) ≡ replies_in (acts_of user b))
    × (view_of user a.session' a.tables' ≡ view_of user b.session' b.tables')
tales-same user moment a b at same deed plain plain' =
    agrees user a.tables a.session a.commands a.replies a.tables' a.session' a.story a.sound (record { m = moment; is = at }) plain
    b.tables b.session b.commands b.replies b.tables' b.session' b.story b.sound same deed plain'
