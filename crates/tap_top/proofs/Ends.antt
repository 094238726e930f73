-- How a run ended, from what holds at its status.
use Rattle.std.proofs.Common.{◌≡◌, ap, arith, ℕ, ℤ, List, Option, ◌≤◌, inl, inr}
use Rattle.std.specs.Prelude.{◌⊎◌}
use Rattle.std.specs.Io.KnownBytes.{Appends}
use Rattle.keeper_core.specs.Keeping.{IsDurable}
use Rattle.tap_rows.specs.declared.tables.Tables.{Tables}
use Rattle.sample_gen.specs.Samples.{sample_of}
use Rattle.tap_model.specs.Sessions.{no_session}
use Rattle.tap_model.specs.Sound.{IsStore}
use Rattle.tap_top.specs.declared.status.Status.{Status}
use Rattle.tap_top.specs.declared.status.Status.TheVariants as s
use Rattle.tap_top.specs.Codes.{code_of, PerformedAll, is_all_ok, IsOfClose, IsOfRun}
use Rattle.tap_top.specs.Premises.{IfKnown}
use Rattle.tap_top.specs.Statuses.{Whole, ReadCut, PutCut, KeeperCut, OutOfMemory, TooLong}
use Rattle.tap_top.specs.Samples.{Sampled, SampledCut, FirstPerformed, NextUncommitted, LeavesOnly}
use Rattle.tap_top.specs.Ends.{EngineScriptEnds, ScriptEnds, EngineSampleEnds, SampleEnds}
use Rattle.tap_top.proofs.Codes.{same-code, not-done, run-code, close-code}
use Rattle.tap_top.proofs.Crashes.{run-leaves, none-leaves, nothing-leaves, OutOfMemory-none}
use Rattle.tap_top.proofs.Samples.{FirstPerformed-none}
use Rattle.tap_top.proofs.SampleCrashes.{exact-leaves, sample-leaves}

-- a read failed
pub read-ends : (t : Tables) (left left' out out' : Option (List ℕ)) (tells leaves : Tables → Type 0)
    → ReadCut t left left' out out' (IsDurable tells leaves) → EngineScriptEnds s.ReadFailed t left left' out out' tells leaves
read-ends t left left' out out' tells leaves run = record {
  whole = λ low. absurd (omega (arith, low));
  read = λ _. run;
  put = λ is. absurd cc;
  uncommitted = λ is. absurd cc;
  memory = λ is. absurd cc;
  long = λ is. absurd cc;
}

-- a put failed
pub put-ends : (t : Tables) (left left' out out' : Option (List ℕ)) (tells leaves : Tables → Type 0)
    → PutCut t left left' out out' (IsDurable tells leaves) → EngineScriptEnds s.PutFailed t left left' out out' tells leaves
put-ends t left left' out out' tells leaves run = record {
  whole = λ low. absurd (omega (arith, low));
  read = λ is. absurd cc;
  put = λ _. run;
  uncommitted = λ is. absurd cc;
  memory = λ is. absurd cc;
  long = λ is. absurd cc;
}

-- a commit failed
pub uncommitted-ends : (t : Tables) (left left' out out' : Option (List ℕ)) (tells leaves : Tables → Type 0)
    → KeeperCut t left left' out out' leaves → EngineScriptEnds s.KeeperFailed t left left' out out' tells leaves
uncommitted-ends t left left' out out' tells leaves run = record {
  whole = λ low. absurd (omega (arith, low));
  read = λ is. absurd cc;
  put = λ is. absurd cc;
  uncommitted = λ _. run;
  memory = λ is. absurd cc;
  long = λ is. absurd cc;
}

-- a reader was out of memory
pub memory-ends : (t : Tables) (left left' out out' : Option (List ℕ)) (tells leaves : Tables → Type 0)
    → OutOfMemory t left left' out out' (IsDurable tells leaves) → EngineScriptEnds s.OutOfMemory t left left' out out' tells leaves
memory-ends t left left' out out' tells leaves run = record {
  whole = λ low. absurd (omega (arith, low));
  read = λ is. absurd cc;
  put = λ is. absurd cc;
  uncommitted = λ is. absurd cc;
  memory = λ _. run;
  long = λ is. absurd cc;
}

-- the script was too long
pub long-ends : (t : Tables) (left left' out out' : Option (List ℕ)) (tells leaves : Tables → Type 0)
    → TooLong t left left' out out' (IsDurable tells leaves) → EngineScriptEnds s.ScriptTooLong t left left' out out' tells leaves
long-ends t left left' out out' tells leaves run = record {
  whole = λ low. absurd (omega (arith, low));
  read = λ is. absurd cc;
  put = λ is. absurd cc;
  uncommitted = λ is. absurd cc;
  memory = λ is. absurd cc;
  long = λ _. run;
}

not-read : (status : Status) → IsOfClose status → status ≡ s.ReadFailed → ⊥
not-read status (inl low) is = not-done 3 (λ e. omega (arith, e)) status (ap code_of is) low
not-read status (inr (inl four)) is = cc
not-read status (inr (inr (inl five))) is = cc
not-read status (inr (inr (inr seven))) is = cc

not-long : (status : Status) → IsOfClose status → status ≡ s.ScriptTooLong → ⊥
not-long status (inl low) is = not-done 8 (λ e. omega (arith, e)) status (ap code_of is) low
not-long status (inr (inl four)) is = cc
not-long status (inr (inr (inl five))) is = cc
not-long status (inr (inr (inr seven))) is = cc

-- the input was read to its end
pub closed-ends : (t : Tables) (left left' out out' : Option (List ℕ)) (tells leaves : Tables → Type 0) (status : Status) → IsOfClose status
    → (PerformedAll status → Whole t left left' out out' (IsDurable tells leaves) (is_all_ok status))
    → (status ≡ s.PutFailed → PutCut t left left' out out' (IsDurable tells leaves))
    → (status ≡ s.KeeperFailed → KeeperCut t left left' out out' leaves)
    → (status ≡ s.OutOfMemory → OutOfMemory t left left' out out' (IsDurable tells leaves))
    → EngineScriptEnds status t left left' out out' tells leaves
closed-ends t left left' out out' tells leaves status one whole put uncommitted memory = record {
  whole = whole;
  read = λ is. absurd (not-read status one is);
  put = put;
  uncommitted = uncommitted;
  memory = memory;
  long = λ is. absurd (not-long status one is);
}

-- an engine was started over a store, and performed a script
pub script-ends : (t : Tables) (left left' out out' : Option (List ℕ)) (versions : ℤ → Type 0) (tells leaves : Tables → Type 0)
    (status : Status) → IsOfRun status → EngineScriptEnds status t left left' out out' tells leaves
    → ScriptEnds (code_of status) t left left' out out' versions tells leaves
script-ends t left left' out out' versions tells leaves status one run = record {
  whole = run.whole;
  read = read;
  put = λ is v has known. put is;
  keeper = λ is. inr (uncommitted is);
  memory = memory;
  long = long;
  crash = run-leaves t left left' out out' versions tells leaves (is_all_ok status) (code_of status) (run-code status one) run.whole read
      put uncommitted memory long;
} where
  read : code_of status ≡ 3 → ReadCut t left left' out out' (IsDurable tells leaves)
  read is = run.read (same-code status s.ReadFailed is)

  put : code_of status ≡ 4 → PutCut t left left' out out' (IsDurable tells leaves)
  put is = run.put (same-code status s.PutFailed is)

  uncommitted : code_of status ≡ 5 → KeeperCut t left left' out out' leaves
  uncommitted is = run.uncommitted (same-code status s.KeeperFailed is)

  memory : code_of status ≡ 7 → OutOfMemory t left left' out out' (IsDurable tells leaves)
  memory is = run.memory (same-code status s.OutOfMemory is)

  long : code_of status ≡ 8 → TooLong t left left' out out' (IsDurable tells leaves)
  long is = run.long (same-code status s.ScriptTooLong is)

low-not : (status : ℕ) → (status ≡ 6 ⊎ status ≡ 4) → status ≤ 1 → ⊥
low-not status (inl six) low = omega arith
low-not status (inr four) low = omega arith

not-other : (status n : ℕ) → (status ≡ 6 ⊎ status ≡ 4) → status ≡ n → (n ≡ 6 → ⊥) → (n ≡ 4 → ⊥) → ⊥
not-other status n (inl six) is from-six from-four = from-six (omega arith)
not-other status n (inr four) is from-six from-four = from-four (omega arith)

-- a store was refused
pub refused-ends : (t : Tables) (left left' out out' : Option (List ℕ)) (versions : ℤ → Type 0) (tells leaves : Tables → Type 0)
    (status : ℕ) (written : List ℕ) → (status ≡ 6 ⊎ status ≡ 4) → IfKnown versions ⊥ → left' ≡ left → Appends out out' written
    → LeavesOnly t leaves → ScriptEnds status t left left' out out' versions tells leaves
refused-ends t left left' out out' versions tells leaves status written one never unread put exact = record {
  whole = λ low. absurd (low-not status one low);
  read = λ is. absurd (not-other status 3 one is (λ e. omega (arith, e)) (λ e. omega (arith, e)));
  put = λ _ v has known. absurd (never v has known);
  keeper = λ is. absurd (not-other status 5 one is (λ e. omega (arith, e)) (λ e. omega (arith, e)));
  memory = λ is. absurd (not-other status 7 one is (λ e. omega (arith, e)) (λ e. omega (arith, e)));
  long = λ is. absurd (not-other status 8 one is (λ e. omega (arith, e)) (λ e. omega (arith, e)));
  crash = none-leaves t left left' out out' versions leaves written unread put (λ v has known. absurd (never v has known)) exact;
}

-- a store could not be attached
pub failed-ends : (t : Tables) (left left' out out' : Option (List ℕ)) (versions : ℤ → Type 0) (tells leaves : Tables → Type 0)
    → left' ≡ left → out' ≡ out → LeavesOnly t leaves → ScriptEnds 5 t left left' out out' versions tells leaves
failed-ends t left left' out out' versions tells leaves unread unwritten exact = record {
  whole = λ low. absurd (omega (arith, low));
  read = λ is. absurd (omega (arith, is));
  put = λ is. absurd (omega (arith, is));
  keeper = λ _. inl (record { unread = unread; unwritten = unwritten; exact = exact });
  memory = λ is. absurd (omega (arith, is));
  long = λ is. absurd (omega (arith, is));
  crash = nothing-leaves t left left' out out' versions leaves unread unwritten exact;
}

-- there was no memory to open a store
pub unopened-ends : (t : Tables) (left left' out out' : Option (List ℕ)) (versions : ℤ → Type 0) (tells leaves : Tables → Type 0)
    → left' ≡ left → out' ≡ out → IsStore t → IsDurable tells leaves t → ScriptEnds 7 t left left' out out' versions tells leaves
unopened-ends t left left' out out' versions tells leaves unread unwritten store holds = record {
  whole = λ low. absurd (omega (arith, low));
  read = λ is. absurd (omega (arith, is));
  put = λ is. absurd (omega (arith, is));
  keeper = λ is. absurd (omega (arith, is));
  memory = λ _. OutOfMemory-none t left left' out out' (IsDurable tells leaves) unread unwritten store holds;
  long = λ is. absurd (omega (arith, is));
  crash = nothing-leaves t left left' out out' versions leaves unread unwritten holds.exact;
}

-- the words were refused
pub worded-ends : (t : Tables) (left left' out out' : Option (List ℕ)) (versions : ℤ → Type 0) (tells leaves : Tables → Type 0)
    → left' ≡ left → out' ≡ out → LeavesOnly t leaves → ScriptEnds 2 t left left' out out' versions tells leaves
worded-ends t left left' out out' versions tells leaves unread unwritten exact = record {
  whole = λ low. absurd (omega (arith, low));
  read = λ is. absurd (omega (arith, is));
  put = λ is. absurd (omega (arith, is));
  keeper = λ is. absurd (omega (arith, is));
  memory = λ is. absurd (omega (arith, is));
  long = λ is. absurd (omega (arith, is));
  crash = nothing-leaves t left left' out out' versions leaves unread unwritten exact;
}

-- a sample for which there was no memory
pub memory-run : (t : Tables) (n : ℕ) (out out' : Option (List ℕ)) (tells leaves : Tables → Type 0)
    → FirstPerformed t no_session (sample_of n) (IsDurable tells leaves) → EngineSampleEnds s.OutOfMemory t n out out' tells leaves
memory-run t n out out' tells leaves run = record {
  whole = λ low. absurd (omega (arith, low));
  put = λ is. absurd cc;
  uncommitted = λ is. absurd cc;
  memory = λ _. run;
}

-- a sample of which a commit failed
pub uncommitted-run : (t : Tables) (n : ℕ) (out out' : Option (List ℕ)) (tells leaves : Tables → Type 0)
    → NextUncommitted t no_session (sample_of n) leaves → EngineSampleEnds s.KeeperFailed t n out out' tells leaves
uncommitted-run t n out out' tells leaves run = record {
  whole = λ low. absurd (omega (arith, low));
  put = λ is. absurd cc;
  uncommitted = λ _. run;
  memory = λ is. absurd cc;
}

not-five : (status : Status) → (PerformedAll status ⊎ status ≡ s.PutFailed) → status ≡ s.KeeperFailed → ⊥
not-five status (inl low) is = not-done 5 (λ e. omega (arith, e)) status (ap code_of is) low
not-five status (inr four) is = cc

not-seven : (status : Status) → (PerformedAll status ⊎ status ≡ s.PutFailed) → status ≡ s.OutOfMemory → ⊥
not-seven status (inl low) is = not-done 7 (λ e. omega (arith, e)) status (ap code_of is) low
not-seven status (inr four) is = cc

-- a sample whose summary was put, or a part of it
pub summed-run : (t : Tables) (n : ℕ) (out out' : Option (List ℕ)) (tells leaves : Tables → Type 0) (status : Status)
    → (PerformedAll status ⊎ status ≡ s.PutFailed)
    → (PerformedAll status → Sampled t n out out' (IsDurable tells leaves) (is_all_ok status))
    → (status ≡ s.PutFailed → SampledCut t n out out' (IsDurable tells leaves)) → EngineSampleEnds status t n out out' tells leaves
summed-run t n out out' tells leaves status one whole put = record {
  whole = whole;
  put = put;
  uncommitted = λ is. absurd (not-five status one is);
  memory = λ is. absurd (not-seven status one is);
}

-- an engine was started over a store, and performed a sample
pub sample-ends :
    (t : Tables) (n : ℕ) (out out' : Option (List ℕ)) (versions : ℤ → Type 0) (tells leaves : Tables → Type 0) (status : Status)
    → IsOfClose status → EngineSampleEnds status t n out out' tells leaves → SampleEnds (code_of status) t n out out' versions tells leaves
sample-ends t n out out' versions tells leaves status one run = record {
  whole = run.whole;
  put = λ is v has known. put is;
  keeper = λ is. inr (uncommitted is);
  memory = memory;
  crash =
      sample-leaves t n out out' tells leaves (is_all_ok status) (code_of status) (close-code status one) run.whole put uncommitted memory;
} where
  put : code_of status ≡ 4 → SampledCut t n out out' (IsDurable tells leaves)
  put is = run.put (same-code status s.PutFailed is)

  uncommitted : code_of status ≡ 5 → NextUncommitted t no_session (sample_of n) leaves
  uncommitted is = run.uncommitted (same-code status s.KeeperFailed is)

  memory : code_of status ≡ 7 → FirstPerformed t no_session (sample_of n) (IsDurable tells leaves)
  memory is = run.memory (same-code status s.OutOfMemory is)

-- a store was refused
pub refused-sample : (t : Tables) (n : ℕ) (out out' : Option (List ℕ)) (versions : ℤ → Type 0) (tells leaves : Tables → Type 0) (status : ℕ)
    → (status ≡ 6 ⊎ status ≡ 4) → IfKnown versions ⊥ → LeavesOnly t leaves → SampleEnds status t n out out' versions tells leaves
refused-sample t n out out' versions tells leaves status one never exact = record {
  whole = λ low. absurd (low-not status one low);
  put = λ _ v has known. absurd (never v has known);
  keeper = λ is. absurd (not-other status 5 one is (λ e. omega (arith, e)) (λ e. omega (arith, e)));
  memory = λ is. absurd (not-other status 7 one is (λ e. omega (arith, e)) (λ e. omega (arith, e)));
  crash = exact-leaves t (sample_of n) leaves exact;
}

-- a store could not be attached
pub failed-sample : (t : Tables) (n : ℕ) (out out' : Option (List ℕ)) (versions : ℤ → Type 0) (tells leaves : Tables → Type 0)
    → LeavesOnly t leaves → SampleEnds 5 t n out out' versions tells leaves
failed-sample t n out out' versions tells leaves exact = record {
  whole = λ low. absurd (omega (arith, low));
  put = λ is. absurd (omega (arith, is));
  keeper = λ _. inl exact;
  memory = λ is. absurd (omega (arith, is));
  crash = exact-leaves t (sample_of n) leaves exact;
}

-- there was no memory to open a store
pub unopened-sample : (t : Tables) (n : ℕ) (out out' : Option (List ℕ)) (versions : ℤ → Type 0) (tells leaves : Tables → Type 0) → IsStore t
    → IsDurable tells leaves t → SampleEnds 7 t n out out' versions tells leaves
unopened-sample t n out out' versions tells leaves store holds = record {
  whole = λ low. absurd (omega (arith, low));
  put = λ is. absurd (omega (arith, is));
  keeper = λ is. absurd (omega (arith, is));
  memory = λ _. FirstPerformed-none t no_session (sample_of n) (IsDurable tells leaves) store holds;
  crash = exact-leaves t (sample_of n) leaves holds.exact;
}

-- the words were refused
pub worded-sample : (t : Tables) (n : ℕ) (out out' : Option (List ℕ)) (versions : ℤ → Type 0) (tells leaves : Tables → Type 0)
    → LeavesOnly t leaves → SampleEnds 2 t n out out' versions tells leaves
worded-sample t n out out' versions tells leaves exact = record {
  whole = λ low. absurd (omega (arith, low));
  put = λ is. absurd (omega (arith, is));
  keeper = λ is. absurd (omega (arith, is));
  memory = λ is. absurd (omega (arith, is));
  crash = exact-leaves t (sample_of n) leaves exact;
}
