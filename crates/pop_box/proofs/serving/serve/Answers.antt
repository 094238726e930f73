use Rattle.std.proofs.Common.{rules, ◌≡◌, ◌⊎◌, ◌∙◌, refl, sym, subst, inl, inr, ℕ, List, Option}
use Rattle.command_words.specs.declared.option_fault.OptionFault.{OptionFault}
use Rattle.command_words.specs.declared.option_fault.OptionFault.TheVariants.{Refused as RefusedWords, Memory}
use Rattle.command_words.proofs.PopWorded.{worded-pop}
use Rattle.clap.specs.Words.{takes}
use Rattle.command_words.specs.PopOptions.{pop_app}
use Rattle.tap_top.proofs.Refusals.{Refused-none, not-stopped}
use Rattle.tap_top.proofs.Versions.{exit-words, exit-unopened}
use Rattle.pop_box.proofs.Served.{unserved, asked-words, served-words, took-quit-words}
use Rattle.peer_edges.proofs.Asks.{unasked}
use Rattle.pop_box.proofs.serving.serve.Goals as goal

not-both : (x : OptionFault) → x ≡ RefusedWords → x ≡ Memory → ⊥
not-both x one two = cc

-- the path, once the words were read
placed-by : (status : ℕ) (now old at named : List ℕ) → at ≡ named → ((status ≡ 7) × (now ≡ old)) ⊎ (now ≡ at)
    → (((status ≡ 2) ⊎ (status ≡ 7)) × (now ≡ old)) ⊎ (now ≡ named)
placed-by status now old at named same (inl (out, stays)) = inl (inr out, stays)
placed-by status now old at named same (inr placed) = inr (placed ∙ same)

pub returns-in-Err-Refused-clause-ends : goal.returns-in-Err-Refused-clause-ends
returns-in-Err-Refused-clause-ends g c = record {
  untaken = λ _. not-stopped (takes pop_app c.args.words.now) c.in-Err-Refused.ensures.taken
      (not-both c.in-Err-Refused.field-0 c.in-Err-Refused.field-0-is);
  exact = λ _. c.in-Err-Refused.ensures.refused c.in-Err-Refused.field-0-is;
  worded = λ path user name secret worded _. not-both c.in-Err-Refused.field-0 c.in-Err-Refused.field-0-is
      (c.in-Err-Refused.ensures.fine path user name secret worded);
  faulty = search rules;
  nothing = search rules;
  read_cause = search rules;
  read_calm = search rules;
  put_cause = search rules;
  put_calm = search rules;
  many = search rules;
  quit = search rules;
  ended = search rules;
  statuses = search rules;
}

pub returns-clause-ends : goal.returns-clause-ends
returns-clause-ends g c = record {
  untaken = search rules;
  exact = search rules;
  worded = search rules;
  faulty = search rules;
  nothing = search rules;
  read_cause = search rules;
  read_calm = search rules;
  put_cause = search rules;
  put_calm = search rules;
  many = search rules;
  quit = took-quit-words c.serve_box.result _ _ _ _ _ _ c.in-Ok.ensures.user c.in-Ok.ensures.secret c.serve_box.ensures.quit;
  ended = search rules;
  statuses = search rules;
}

pub returns-clause-leaves : goal.returns-clause-leaves
returns-clause-leaves g c = record {
  keeper_cause = search rules;
  keeper_calm = search rules;
  stopped = search rules;
  placed = placed-by _ _ _ _ _ c.in-Ok.ensures.path c.serve_box.ensures.path;
  unattached = search rules;
}

pub returns-in-Err-Refused-clause-over : goal.returns-in-Err-Refused-clause-over
returns-in-Err-Refused-clause-over g c = λ t honest holds. record {
  session = λ store. unserved 2 _ _ _ _ _ _ _ _ (inl refl) (λ e. cc) refl refl;
  prompt = λ store. unasked _ _;
  unchanged = record { exact = holds.exact; told = λ _. holds.told };
  version = exit-words _;
  refused = λ v has fault is. Refused-none 2 fault _ _ _ _ _ _ t (inl refl) (λ e. cc) refl refl (λ _. holds.told) holds.exact;
  fine = search rules;
  known = search rules;
}

pub returns-in-Err-Memory-clause-over : goal.returns-in-Err-Memory-clause-over
returns-in-Err-Memory-clause-over g c = λ t honest holds. record {
  session = λ store. unserved 7 _ _ _ _ _ _ _ _ (inr (inr (inr refl))) (λ e. cc) refl refl;
  prompt = λ store. unasked _ _;
  unchanged = record { exact = holds.exact; told = λ _. holds.told };
  version = exit-unopened _;
  refused = λ v has fault is. Refused-none 7 fault _ _ _ _ _ _ t (inr (inr (inr (inr refl)))) (λ e. cc) refl refl
      (λ _. holds.told) holds.exact;
  fine = search rules;
  known = search rules;
}

pub returns-clause-over : goal.returns-clause-over
returns-clause-over g c = λ t honest holds. record {
  session = λ store. served-words c.serve_box.result t _ _ _ _ _ _ _ _ _ _ _
      c.in-Ok.ensures.user c.in-Ok.ensures.name c.in-Ok.ensures.secret (c.serve_box.ensures.session t honest holds store);
  prompt = λ store. asked-words t _ _ _ _ _ _ _ _ _ _
      c.in-Ok.ensures.user c.in-Ok.ensures.name c.in-Ok.ensures.secret (c.serve_box.ensures.prompt t honest holds store);
  unchanged = c.serve_box.ensures.unchanged t honest holds;
  version = c.serve_box.ensures.version t honest holds;
  refused = λ v has. c.serve_box.ensures.refusals.refused t honest holds v has;
  fine = λ v has. c.serve_box.ensures.refusals.fine t honest holds v has;
  known = λ store. c.serve_box.ensures.refusals.known t honest holds store;
}

pub returns-in-Err-Refused-clause-complete : goal.returns-in-Err-Refused-clause-complete
returns-in-Err-Refused-clause-complete g c = λ path user name secret worded reads puts keeps.
    absurd (not-both c.in-Err-Refused.field-0 c.in-Err-Refused.field-0-is (c.in-Err-Refused.ensures.fine path user name secret worded))

pub returns-in-Err-Memory-clause-named : goal.returns-in-Err-Memory-clause-named
returns-in-Err-Memory-clause-named g c = λ path user name secret worded.
    let asked = worded-pop c.args.words.now path user name secret worded in (asked.place, (asked.user_is, (asked.name_is, asked.secret_is)))

pub returns-clause-complete : goal.returns-clause-complete
returns-clause-complete g c = λ path user name secret worded reads puts keeps. c.serve_box.ensures.complete reads puts keeps

pub returns-in-Err-Refused-clause-named : goal.returns-in-Err-Refused-clause-named
returns-in-Err-Refused-clause-named g c = λ path user name secret worded.
    let asked = worded-pop c.args.words.now path user name secret worded in (asked.place, (asked.user_is, (asked.name_is, asked.secret_is)))

pub returns-clause-named : goal.returns-clause-named
returns-clause-named g c = λ path user name secret worded.
    let asked = worded-pop c.args.words.now path user name secret worded in (asked.place, (asked.user_is, (asked.name_is, asked.secret_is)))
