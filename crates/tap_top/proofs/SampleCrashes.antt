-- What a crash leaves after each end of a sample.
use Rattle.std.proofs.Common.{◌≡◌, refl, arith, ℕ, List, [], ◌∷◌, ◌++◌, length, Bool, Option, inl, inr, ◌≤◌}
use Rattle.std.specs.Prelude.{◌⊎◌}
use Rattle.tap_rows.specs.declared.tables.Tables.{Tables}
use Rattle.script_lang.specs.declared.command.Command.{Command}
use Rattle.script_lang.specs.declared.reply.Reply.{Reply}
use Rattle.sample_gen.specs.Samples.{sample_of}
use Rattle.tap_model.specs.declared.session.Session.{Session}
use Rattle.tap_model.specs.Sessions.{no_session}
use Rattle.tap_model.specs.Sound.{IsStore}
use Rattle.tap_model.specs.Replies.{answer_of, tables_after}
use Rattle.tap_model.specs.Stories.{Story}
use Rattle.keeper_core.specs.Keeping.{IsDurable}
use Rattle.tap_top.specs.Samples.{Performed, FirstPerformed, NextUncommitted, Sampled, SampledCut, LeavesFirst, LeavesOnly}
use Rattle.tap_top.proofs.Stories.{Story-then}
use Rattle.tap_top.proofs.Crashes.{whole-prefix, front-prefix, story-store, all-of}
use Rattle.tap_base.specs.Prefixes.{IsPrefix}

no-less : (n : ℕ) → 0 ≤ n
no-less n = omega arith

-- the end of these commands alone
performed-leaves : (t : Tables) (cs done : List Command) (Ends : List Reply → Tables → Type 0) (s' : Session) (leaves : Tables → Type 0)
    → IsPrefix done cs → (one : Performed t no_session done Ends s') → LeavesOnly one.tables' leaves → LeavesFirst t cs leaves
performed-leaves t cs done Ends s' leaves first one exact = record {
  done = done;
  first = first;
  replies = one.replies;
  tables' = one.tables';
  session' = s';
  story = one.story;
  each = λ x may. whole-prefix t done one.replies one.tables' s' 0 x one.story (no-less (length one.replies)) (exact x may);
}

pub exact-leaves : (t : Tables) (cs : List Command) (leaves : Tables → Type 0) → LeavesOnly t leaves → LeavesFirst t cs leaves
exact-leaves t cs leaves exact = record {
  done = [];
  first = record { rest = cs; is = refl };
  replies = [];
  tables' = t;
  session' = no_session;
  story = (refl, refl);
  each = λ x may. whole-prefix t [] [] t no_session 0 x (refl, refl) (no-less 0) (exact x may);
}

next-leaves : (t : Tables) (cs : List Command) (leaves : Tables → Type 0) → NextUncommitted t no_session cs leaves → LeavesFirst t cs leaves
next-leaves t cs leaves run =
    let one = run.performed in
    let s1 = run.session' in
    let answer = answer_of run.next s1 one.tables' in
    let story : Story t no_session (run.done ++ run.next ∷ []) (one.replies ++ answer.reply ∷ []) (tables_after answer.change one.tables')
    answer.session =
    Story-then t no_session run.done one.replies one.tables' s1 (run.next ∷ []) (answer.reply ∷ []) (tables_after answer.change one.tables')
    answer.session one.story (
      tables_after answer.change one.tables',
      answer.session,
      inl (record { reply_is = refl; tables_are = refl; session_is = refl }),
      (refl, refl),
    ) in record {
      done = run.done ++ run.next ∷ [];
      first = run.first;
      replies = one.replies ++ answer.reply ∷ [];
      tables' = tables_after answer.change one.tables';
      session' = answer.session;
      story = story;
      each = λ x may. elim (one.ends.1.either x may) [
        | inl before ↦
            front-prefix t run.done run.next one.replies answer.reply one.tables' s1 0 x one.story (no-less (length one.replies)) before
        | inr after ↦ whole-prefix t (run.done ++ run.next ∷ []) (one.replies ++ answer.reply ∷ []) (tables_after answer.change one.tables')
            answer.session 0 x story (no-less (length (one.replies ++ answer.reply ∷ []))) after
      ];
    }

-- each end of a sample
pub sample-leaves : (t : Tables) (n : ℕ) (out out' : Option (List ℕ)) (tells leaves : Tables → Type 0) (ok : Bool) (status : ℕ)
    → (status ≤ 1 ⊎ (status ≡ 4 ⊎ (status ≡ 5 ⊎ status ≡ 7))) → (status ≤ 1 → Sampled t n out out' (IsDurable tells leaves) ok)
    → (status ≡ 4 → SampledCut t n out out' (IsDurable tells leaves)) → (status ≡ 5 → NextUncommitted t no_session (sample_of n) leaves)
    → (status ≡ 7 → FirstPerformed t no_session (sample_of n) (IsDurable tells leaves)) → LeavesFirst t (sample_of n) leaves
sample-leaves t n out out' tells leaves ok status (inl low) whole cut next short =
    let run = whole low in
    performed-leaves t (sample_of n) (sample_of n) _ run.session' leaves (all-of (sample_of n)) run.performed run.performed.ends.1.exact
sample-leaves t n out out' tells leaves ok status (inr (inl is)) whole cut next short =
    let run = cut is in
    performed-leaves t (sample_of n) (sample_of n) _ run.session' leaves (all-of (sample_of n)) run.performed run.performed.ends.1.exact
sample-leaves t n out out' tells leaves ok status (inr (inr (inl is))) whole cut next short = next-leaves t (sample_of n) leaves (next is)
sample-leaves t n out out' tells leaves ok status (inr (inr (inr is))) whole cut next short =
    let run = short is in
    performed-leaves t (sample_of n) run.done _ run.session' leaves run.first run.performed run.performed.ends.1.exact

-- what a crash leaves is a store
pub first-stores : (t : Tables) (cs : List Command) (leaves : Tables → Type 0) → IsStore t → LeavesFirst t cs leaves → (x : Tables)
    → leaves x → IsStore x
first-stores t cs leaves store crash x may = let one = crash.each x may in story-store t _ _ x one.session one.story store
