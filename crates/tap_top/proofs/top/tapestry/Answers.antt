use Rattle.std.proofs.Common.{rules, ◌≡◌, ◌⊎◌, ◌∙◌, refl, sym, ap, subst, inl, inr, ℕ, List, Option, Some, None}
use Rattle.clap.specs.Words.{takes}
use Rattle.command_words.specs.Options.{app}
use Rattle.command_words.specs.declared.option_fault.OptionFault.{OptionFault}
use Rattle.command_words.specs.declared.option_fault.OptionFault.TheVariants.{Refused as RefusedWords, Memory}
use Rattle.command_words.specs.Words.{sample_in}
use Rattle.command_words.proofs.Worded.{worded}
use Rattle.sample_gen.specs.Samples.{sample_of}
use Rattle.tap_model.specs.Sound.{IsStore}
use Rattle.tap_top.specs.Codes.{code_of}
use Rattle.tap_top.specs.declared.status.Status.{Status}
use Rattle.tap_top.specs.declared.status.Status.TheVariants.{OutOfMemory}
use Rattle.tap_top.specs.Ends.{SampleEnds}
use Rattle.tap_top.proofs.Refusals.{Refused-none, not-stopped}
use Rattle.tap_top.proofs.Versions.{exit-words, exit-unopened}
use Rattle.tap_top.proofs.SampleCrashes.{first-stores}
use Rattle.tap_top.proofs.Ends.{worded-ends, worded-sample, unopened-ends, unopened-sample}
use Rattle.peer_edges.proofs.Asks.{unasked}
use Rattle.tap_top.proofs.top.tapestry.Goals as goal

not-both : (x : OptionFault) → x ≡ RefusedWords → x ≡ Memory → ⊥
not-both x one two = cc

some-is : (found : Option ℕ) (n : ℕ) → found ≡ Some n → found ≡ None → ⊥
some-is found n one two = cc

same-number : (found : Option ℕ) (m n : ℕ) → found ≡ Some m → found ≡ Some n → m ≡ n
same-number found m n one two = cc

-- the path, once the words were read
placed-by : (status : Status) (code : ℕ) (now old at named : List ℕ) → code ≡ code_of status → at ≡ named
    → ((status ≡ OutOfMemory) × (now ≡ old)) ⊎ (now ≡ at) → (((code ≡ 2) ⊎ (code ≡ 7)) × (now ≡ old)) ⊎ (now ≡ named)
placed-by status code now old at named is same (inl (out, stays)) = inl (inr (is ∙ ap code_of out), stays)
placed-by status code now old at named is same (inr placed) = inr (placed ∙ same)

pub returns-in-Err-Refused-clause-ends : goal.returns-in-Err-Refused-clause-ends
returns-in-Err-Refused-clause-ends g c = record {
  untaken = λ _. not-stopped (takes app c.args.words.now) c.in-Err-Refused.ensures.taken
      (not-both c.in-Err-Refused.field-0 c.in-Err-Refused.field-0-is);
  exact = λ _. c.in-Err-Refused.ensures.refused c.in-Err-Refused.field-0-is;
  worded = λ path number named _. not-both c.in-Err-Refused.field-0 c.in-Err-Refused.field-0-is
      (c.in-Err-Refused.ensures.fine path number named);
  faulty = search rules;
  nothing = search rules;
  sample_silent = search rules;
  sample_unread = search rules;
  read_cause = search rules;
  read_calm = search rules;
  put_cause = search rules;
  put_calm = search rules;
  many = search rules;
  ended = search rules;
  statuses = search rules;
}

pub returns-in-Some-clause-ends : goal.returns-in-Some-clause-ends
returns-in-Some-clause-ends g c = record {
  untaken = search rules;
  exact = search rules;
  worded = search rules;
  faulty = search rules;
  nothing = search rules;
  sample_silent = search rules;
  sample_unread = search rules;
  read_cause = search rules;
  read_calm = search rules;
  put_cause = search rules;
  put_calm = search rules;
  many = search rules;
  ended = λ none. absurd (some-is (sample_in c.args.words.now) c.in-Some.n (sym c.in-Ok.ensures.sample ∙ c.in-Some.is) none);
  statuses = search rules;
}

pub returns-clause-ends : goal.returns-clause-ends
returns-clause-ends g c = record {
  untaken = search rules;
  exact = search rules;
  worded = search rules;
  faulty = search rules;
  nothing = search rules;
  sample_silent = search rules;
  sample_unread = search rules;
  read_cause = rw c.code-in-None.ensures c.run_store.ensures.causes.read_cause;
  read_calm = rw c.code-in-None.ensures c.run_store.ensures.causes.read_calm;
  put_cause = rw c.code-in-None.ensures c.run_store.ensures.causes.put_cause;
  put_calm = rw c.code-in-None.ensures c.run_store.ensures.causes.put_calm;
  many = search rules;
  ended = search rules;
  statuses = search rules;
}

pub returns-in-Some-clause-leaves : goal.returns-in-Some-clause-leaves
returns-in-Some-clause-leaves g c = record {
  keeper_cause = search rules;
  keeper_calm = search rules;
  stopped = search rules;
  placed = placed-by c.sample_store.result _ _ _ _ _ c.code-in-Some.ensures c.in-Ok.ensures.path c.sample_store.ensures.path;
  unattached = search rules;
}

pub returns-clause-leaves : goal.returns-clause-leaves
returns-clause-leaves g c = record {
  keeper_cause = rw c.code-in-None.ensures c.run_store.ensures.causes.keeper_cause;
  keeper_calm = c.run_store.ensures.causes.keeper_calm;
  stopped = rw c.code-in-None.ensures c.run_store.ensures.causes.stopped;
  placed = placed-by c.run_store.result _ _ _ _ _ c.code-in-None.ensures c.in-Ok.ensures.path c.run_store.ensures.path;
  unattached = search rules;
}

pub returns-in-Err-Refused-clause-over : goal.returns-in-Err-Refused-clause-over
returns-in-Err-Refused-clause-over g c = λ t honest holds. record {
  script = λ _ store. rw c.code.ensures (worded-ends t _ _ _ _ _ _ _ refl refl holds.exact);
  sample = λ n _ store. rw c.code.ensures (worded-sample t n _ _ _ _ _ holds.exact);
  prompt = λ store. unasked _ _;
  kept = λ store x may. subst IsStore (sym (holds.exact x may)) store;
  told = λ store _ x tells.
      subst IsStore (sym (holds.exact x (g.met.P.Keeper.left c.args.keeper.now x honest c.requires.free.running tells))) store;
  version = λ store. rw c.code.ensures (exit-words _);
  refused = λ v has fault is. rw c.code.ensures
      (Refused-none 2 fault _ _ _ _ _ _ t (inl refl) (λ e. cc) refl refl (λ _. holds.told) holds.exact);
  fine = search rules;
  known = search rules;
}

pub returns-in-Err-Memory-clause-over : goal.returns-in-Err-Memory-clause-over
returns-in-Err-Memory-clause-over g c = λ t honest holds. record {
  script = λ _ store. rw c.code-in-Err-Memory.ensures (unopened-ends t _ _ _ _ _ _ _ refl refl store holds);
  sample = λ n _ store. rw c.code-in-Err-Memory.ensures (unopened-sample t n _ _ _ _ _ store holds);
  prompt = λ store. unasked _ _;
  kept = λ store x may. subst IsStore (sym (holds.exact x may)) store;
  told = λ store _ x tells.
      subst IsStore (sym (holds.exact x (g.met.P.Keeper.left c.args.keeper.now x honest c.requires.free.running tells))) store;
  version = λ store. rw c.code-in-Err-Memory.ensures (exit-unopened _);
  refused = λ v has fault is. rw c.code-in-Err-Memory.ensures
      (Refused-none 7 fault _ _ _ _ _ _ t (inr (inr (inr (inr refl)))) (λ e. cc) refl refl (λ _. holds.told) holds.exact);
  fine = search rules;
  known = search rules;
}

pub returns-in-Some-clause-over : goal.returns-in-Some-clause-over
returns-in-Some-clause-over g c = λ t honest holds. record {
  script = λ none. absurd (some-is (sample_in c.args.words.now) c.in-Some.n (sym c.in-Ok.ensures.sample ∙ c.in-Some.is) none);
  sample = λ n asked store.
      let same : c.in-Some.n ≡ n =
      same-number (sample_in c.args.words.now) c.in-Some.n n (sym c.in-Ok.ensures.sample ∙ c.in-Some.is) asked in
      rw c.code-in-Some.ensures (subst (λ m. SampleEnds (code_of c.sample_store.result) t m (g.K.Sink.out c.args.sink.now)
      (g.K.Sink.out c.sample_store.new.sink) (g.P.Keeper.has_version c.args.keeper.now) (g.P.Keeper.tells c.sample_store.new.keeper)
      (g.P.Keeper.may_leave c.sample_store.new.keeper)) same (c.sample_store.ensures.sample t honest holds store));
  prompt = λ store. unasked _ _;
  kept = λ store x may. first-stores t (sample_of c.in-Some.n) _ store (c.sample_store.ensures.sample t honest holds store).crash x may;
  told = λ store runs x tells.
      first-stores t (sample_of c.in-Some.n) _ store (c.sample_store.ensures.sample t honest holds store).crash x
      (g.met.P.Keeper.left c.sample_store.new.keeper x honest (not-stopped (g.P.Keeper.stopped c.sample_store.new.keeper)
      c.sample_store.ensures.stopped.0 (λ is. runs (c.code-in-Some.ensures ∙ ap code_of is))) tells);
  version = λ store. rw c.code-in-Some.ensures (c.sample_store.ensures.version t honest holds store);
  refused = λ v has. rw c.code-in-Some.ensures ((c.sample_store.ensures.refusals _).refused t honest holds v has);
  fine = λ v has. rw c.code-in-Some.ensures ((c.sample_store.ensures.refusals None).fine t honest holds v has);
  known = λ store. rw c.code-in-Some.ensures ((c.sample_store.ensures.refusals None).known t honest holds store);
}

pub returns-clause-over : goal.returns-clause-over
returns-clause-over g c = λ t honest holds. record {
  script = λ _ store. rw c.code-in-None.ensures (c.run_store.ensures.script t honest holds store);
  sample = λ n asked. absurd (some-is (sample_in c.args.words.now) n asked (sym c.in-Ok.ensures.sample ∙ c.in-None.is));
  prompt = λ store. c.run_store.ensures.prompt t honest holds store;
  kept = λ store x may. c.run_store.ensures.kept t honest holds store x may;
  told = λ store runs x tells. c.run_store.ensures.kept t honest holds store x
      (g.met.P.Keeper.left c.run_store.new.keeper x honest (not-stopped (g.P.Keeper.stopped c.run_store.new.keeper)
      c.run_store.ensures.causes.stopped.0 (λ is. runs (c.code-in-None.ensures ∙ is))) tells);
  version = λ store. rw c.code-in-None.ensures (c.run_store.ensures.version t honest holds store);
  refused = λ v has. rw c.code-in-None.ensures (c.run_store.ensures.refusals.refused t honest holds v has);
  fine = λ v has. rw c.code-in-None.ensures (c.run_store.ensures.refusals.fine t honest holds v has);
  known = λ store. rw c.code-in-None.ensures (c.run_store.ensures.refusals.known t honest holds store);
}

pub returns-in-Err-Refused-clause-complete : goal.returns-in-Err-Refused-clause-complete
returns-in-Err-Refused-clause-complete g c = λ path named script reads puts keeps.
    absurd (not-both c.in-Err-Refused.field-0 c.in-Err-Refused.field-0-is (c.in-Err-Refused.ensures.fine path None named))

pub returns-in-Err-Refused-clause-sample_complete : goal.returns-in-Err-Refused-clause-sample_complete
returns-in-Err-Refused-clause-sample_complete g c = λ path n named puts keeps.
    absurd (not-both c.in-Err-Refused.field-0 c.in-Err-Refused.field-0-is (c.in-Err-Refused.ensures.fine path (Some n) named))

pub returns-in-Err-Memory-clause-named : goal.returns-in-Err-Memory-clause-named
returns-in-Err-Memory-clause-named g c = λ path number named. let asked = worded c.args.words.now path number named in
    (asked.place, asked.sample)

pub returns-clause-sample_complete : goal.returns-clause-sample_complete
returns-clause-sample_complete g c =
    λ path n named puts keeps. absurd (some-is c.in-Ok.asked.sample n (c.in-Ok.ensures.named path (Some n) named).1 c.in-None.is)

pub returns-clause-complete : goal.returns-clause-complete
returns-clause-complete g c =
    λ path named holds reads puts keeps. rw c.code-in-None.ensures (c.run_store.ensures.complete holds reads puts keeps)
