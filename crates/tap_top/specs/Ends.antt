-- How a run ended: what holds by its status, and what a crash leaves then.
use Rattle.std.specs.Prelude.{ℕ, ℤ, ◌≡◌, ◌≤◌, ◌⊎◌, ◌==◌, List, Option}
use Rattle.keeper_core.specs.Keeping.{IsDurable}
use Rattle.tap_rows.specs.declared.tables.Tables.{Tables}
use Rattle.sample_gen.specs.Samples.{sample_of}
use Rattle.tap_model.specs.Sessions.{no_session}
use Rattle.tap_top.specs.declared.status.Status.{Status}
use Rattle.tap_top.specs.declared.status.Status.TheVariants as s
use Rattle.tap_top.specs.Codes.{PerformedAll, is_all_ok}
use Rattle.tap_top.specs.Premises.{IfKnown}
use Rattle.tap_top.specs.Statuses.{Whole, ReadCut, PutCut, KeeperCut, Unattached, OutOfMemory, TooLong}
use Rattle.tap_top.specs.Crashes.{LeavesPrefix}
use Rattle.tap_top.specs.Samples.{Sampled, SampledCut, FirstPerformed, NextUncommitted, LeavesFirst, LeavesOnly}

-- how a script ended that an engine performed over these tables, by the status
pub record EngineScriptEnds (status : Status) (tables : Tables) (left left' out out' : Option (List ℕ))
    (tells leaves : Tables → Type 0) : Type 0 where
  pub whole : PerformedAll status → Whole tables left left' out out' (IsDurable tells leaves) (is_all_ok status)
  pub read : status ≡ s.ReadFailed → ReadCut tables left left' out out' (IsDurable tells leaves)
  pub put : status ≡ s.PutFailed → PutCut tables left left' out out' (IsDurable tells leaves)
  pub uncommitted : status ≡ s.KeeperFailed → KeeperCut tables left left' out out' leaves
  pub memory : status ≡ s.OutOfMemory → OutOfMemory tables left left' out out' (IsDurable tells leaves)
  pub long : status ≡ s.ScriptTooLong → TooLong tables left left' out out' (IsDurable tells leaves)

-- how a script ended over the store of these tables, by the status; and what a crash leaves, with every status: the tables
-- after some first commands, all acknowledged ones among them
pub record ScriptEnds (status : ℕ) (tables : Tables) (left left' out out' : Option (List ℕ))
    (versions : ℤ → Type 0) (tells leaves : Tables → Type 0) : Type 0 where
  pub whole : status ≤ 1 → Whole tables left left' out out' (IsDurable tells leaves) (status == 0)
  pub read : status ≡ 3 → ReadCut tables left left' out out' (IsDurable tells leaves)
  pub put : status ≡ 4 → IfKnown versions (PutCut tables left left' out out' (IsDurable tells leaves))
  pub keeper : status ≡ 5 → Unattached tables left left' out out' leaves ⊎ KeeperCut tables left left' out out' leaves
  pub memory : status ≡ 7 → OutOfMemory tables left left' out out' (IsDurable tells leaves)
  pub long : status ≡ 8 → TooLong tables left left' out out' (IsDurable tells leaves)
  pub crash : LeavesPrefix tables left left' out out' versions leaves

-- how a sample of n messages ended that an engine performed over these tables, by the status
pub record EngineSampleEnds (status : Status) (tables : Tables) (n : ℕ) (out out' : Option (List ℕ))
    (tells leaves : Tables → Type 0) : Type 0 where
  pub whole : PerformedAll status → Sampled tables n out out' (IsDurable tells leaves) (is_all_ok status)
  pub put : status ≡ s.PutFailed → SampledCut tables n out out' (IsDurable tells leaves)
  pub uncommitted : status ≡ s.KeeperFailed → NextUncommitted tables no_session (sample_of n) leaves
  pub memory : status ≡ s.OutOfMemory → FirstPerformed tables no_session (sample_of n) (IsDurable tells leaves)

-- how a sample of n messages ended over the store of these tables, by the status; and what a crash leaves, with every status:
-- the tables after some first commands
pub record SampleEnds (status : ℕ) (tables : Tables) (n : ℕ) (out out' : Option (List ℕ))
    (versions : ℤ → Type 0) (tells leaves : Tables → Type 0) : Type 0 where
  pub whole : status ≤ 1 → Sampled tables n out out' (IsDurable tells leaves) (status == 0)
  pub put : status ≡ 4 → IfKnown versions (SampledCut tables n out out' (IsDurable tells leaves))
  pub keeper : status ≡ 5 → LeavesOnly tables leaves ⊎ NextUncommitted tables no_session (sample_of n) leaves
  pub memory : status ≡ 7 → FirstPerformed tables no_session (sample_of n) (IsDurable tells leaves)
  pub crash : LeavesFirst tables (sample_of n) leaves
