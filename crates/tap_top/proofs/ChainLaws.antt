-- What sessions in a row leave.
use Rattle.std.proofs.Common.{◌≡◌, ◌∙◌, sym, ap, refl, subst, ℕ, List, [], ◌∷◌, ◌++◌, take, Option, Some, None, inl, inr}
use Rattle.std.proofs.lemmas.List.{append-nil, append_assoc}
use Rattle.tap_rows.specs.declared.tables.Tables.{Tables}
use Rattle.tap_rows.specs.declared.change.Change.{Change}
use Rattle.tap_rows.specs.declared.change.Change.TheVariants.{Docs, OneNote, OneQuery, RunDone, OneFilter}
use Rattle.tap_rows.specs.Tables.{after}
use Rattle.script_lang.specs.declared.command.Command.{Command}
use Rattle.script_lang.specs.declared.reply.Reply.{Reply}
use Rattle.tap_model.specs.declared.session.Session.{Session}
use Rattle.tap_model.specs.Replies.{answer_of, tables_after}
use Rattle.tap_model.specs.Sound.{IsStore}
use Rattle.tap_model.specs.Stories.{StoryStep, Story}
use Rattle.tap_top.specs.Chains.{PastSession, IsChain, HasMore, OnlyAdds}
use Rattle.tap_top.proofs.Crashes.{story-store}

same-rows : {A : Type 0} (rows : List A) → HasMore rows rows
same-rows rows = ([], sym (append-nil rows))

more-rows : {A : Type 0} (rows added : List A) → HasMore rows (rows ++ added)
more-rows rows added = (added, refl)

HasMore-then : {A : Type 0} (a b c : List A) → HasMore a b → HasMore b c → HasMore a c
HasMore-then a b c one two = (one.0 ++ two.0, two.1 ∙ ap (λ rows. rows ++ two.0) one.1 ∙ append_assoc a one.0 two.0)

OnlyAdds-none : (t : Tables) → OnlyAdds t t
OnlyAdds-none t = record {
  docs = same-rows t.docs;
  notes = same-rows t.notes;
  queries = same-rows t.queries;
  runs = same-rows t.runs;
  picks = same-rows t.picks;
  filters = same-rows t.filters;
}

OnlyAdds-then : (t t1 t2 : Tables) → OnlyAdds t t1 → OnlyAdds t1 t2 → OnlyAdds t t2
OnlyAdds-then t t1 t2 one two = record {
  docs = HasMore-then t.docs t1.docs t2.docs one.docs two.docs;
  notes = HasMore-then t.notes t1.notes t2.notes one.notes two.notes;
  queries = HasMore-then t.queries t1.queries t2.queries one.queries two.queries;
  runs = HasMore-then t.runs t1.runs t2.runs one.runs two.runs;
  picks = HasMore-then t.picks t1.picks t2.picks one.picks two.picks;
  filters = HasMore-then t.filters t1.filters t2.filters one.filters two.filters;
}

after-adds : (t : Tables) (change : Change) → OnlyAdds t (after t change)
after-adds t (Docs docs) =
    let none = OnlyAdds-none t in
    record {
      docs = more-rows t.docs docs;
      notes = none.notes;
      queries = none.queries;
      runs = none.runs;
      picks = none.picks;
      filters = none.filters;
    }
after-adds t (OneNote note) =
    let none = OnlyAdds-none t in
    record {
      docs = none.docs;
      notes = more-rows t.notes (note ∷ []);
      queries = none.queries;
      runs = none.runs;
      picks = none.picks;
      filters = none.filters;
    }
after-adds t (OneQuery query) =
    let none = OnlyAdds-none t in
    record {
      docs = none.docs;
      notes = none.notes;
      queries = more-rows t.queries (query ∷ []);
      runs = none.runs;
      picks = none.picks;
      filters = none.filters;
    }
after-adds t (RunDone run picks) =
    let none = OnlyAdds-none t in
    record {
      docs = none.docs;
      notes = none.notes;
      queries = none.queries;
      runs = more-rows t.runs (run ∷ []);
      picks = more-rows t.picks picks;
      filters = none.filters;
    }
after-adds t (OneFilter filter) =
    let none = OnlyAdds-none t in
    record {
      docs = none.docs;
      notes = none.notes;
      queries = none.queries;
      runs = none.runs;
      picks = none.picks;
      filters = more-rows t.filters (filter ∷ []);
    }

answer-adds : (t : Tables) (change : Option Change) → OnlyAdds t (tables_after change t)
answer-adds t None = OnlyAdds-none t
answer-adds t (Some change) = after-adds t change

step-adds : (t : Tables) (s : Session) (c : Command) (r : Reply) (t' : Tables) (s' : Session) → StoryStep t s c r t' s' → OnlyAdds t t'
step-adds t s c r t' s' (inl follows) = subst (OnlyAdds t) (sym follows.tables_are) (answer-adds t (answer_of c s t).change)
step-adds t s c r t' s' (inr gives) = subst (OnlyAdds t) (sym gives.tables_are) (OnlyAdds-none t)

story-adds : (t : Tables) (s : Session) (cs : List Command) (rs : List Reply) (t' : Tables) (s' : Session) → Story t s cs rs t' s'
    → OnlyAdds t t'
story-adds t s [] [] t' s' story = subst (OnlyAdds t) (sym story.0) (OnlyAdds-none t)
story-adds t s (c ∷ cs) (r ∷ rs) t' s' story =
    OnlyAdds-then t story.0 t' (step-adds t s c r story.0 story.1 story.2) (story-adds story.0 story.1 cs rs t' s' story.3)
story-adds t s [] (r ∷ rs) t' s' story = absurd story
story-adds t s (c ∷ cs) [] t' s' story = absurd story

pub chain-store : (t last : Tables) (sessions : List PastSession) → IsStore t → IsChain t sessions last → IsStore last
chain-store t last [] store chain = subst IsStore (sym chain) store
chain-store t last (session ∷ sessions) store chain =
    let front = chain.1 in
    let next = story-store t (take front.k session.commands) (take front.k session.replies) chain.0 front.session front.story store in
    chain-store chain.0 last sessions next chain.2

pub chain-adds : (t last : Tables) (sessions : List PastSession) → IsChain t sessions last → OnlyAdds t last
chain-adds t last [] chain = subst (OnlyAdds t) (sym chain) (OnlyAdds-none t)
chain-adds t last (session ∷ sessions) chain =
    let front = chain.1 in
    OnlyAdds-then t chain.0 last
    (story-adds t _ (take front.k session.commands) (take front.k session.replies) chain.0 front.session front.story)
    (chain-adds chain.0 last sessions chain.2)
