-- What the keepers in memory represent.
use Rattle.std.specs.Prelude.{ℕ, ℤ, pos, List, Bool, true, false, ◌||◌}
use Rattle.std.specs.Prelude.{Option, Some, None, [], ◌∷◌, ◌==◌, if◌then◌else◌, Result, Ok, Err}
use Rattle.std.specs.Ordering.{int_eq}
use Rattle.tap_base.specs.Counts.{next_count}
use Rattle.tap_rows.specs.declared.tables.Tables.{Tables}
use Rattle.tap_rows.specs.declared.change.Change.{Change}
use Rattle.tap_rows.specs.Tables.{after}
use Rattle.keeper_core.specs.declared.fault.AttachFault.{AttachFault}
use Rattle.keeper_core.specs.declared.fault.AttachFault.TheVariants.{Alien, Failed}
use Rattle.keeper_core.specs.declared.fault.CommitFault.{CommitFault}
use Rattle.keeper_core.specs.declared.fault.CommitFault.TheVariants as commit
use Rattle.keeper_core.specs.declared.mem_keeper.KeepPlan.{KeepPlan}

-- a keeper in memory: its tables and their version, what a crash leaves, the plan of its failures, and its state
pub record Stored : Type 0 where
  pub tables : Tables
  pub version : ℤ
  pub left : Tables
  pub fails : List KeepPlan
  pub calls : ℕ
  pub attached : Bool
  pub stopped : Bool
  pub path : List ℕ
  pub faults : ℕ

-- a keeper in memory that never fails
pub record Sure : Type 0 where
  pub tables : Tables
  pub attached : Bool
  pub path : List ℕ

-- if the plan lets this call fail, whether a crash then leaves the new tables
abbrev pub planned_fault : List KeepPlan → ℕ → Option Bool
planned_fault [] call = None
planned_fault (plan ∷ plans) call = if plan.call == call then Some plan.kept else planned_fault plans call

-- a store of this version can be attached
abbrev pub is_attachable : ℤ → Bool
is_attachable version = int_eq version (pos 1) || int_eq version (pos 2)

-- the tables that a crash leaves after a failed commit, by the plan
abbrev pub left_by : Bool → Tables → Change → Tables
left_by true tables change = after tables change
left_by false tables change = tables

-- what a crash leaves now: its tables, or what a failed call left
abbrev pub left_now : Stored → Tables
left_now keeper = if keeper.stopped then keeper.left else keeper.tables

-- the keeper after a call that failed by the plan
abbrev pub stopped_with : Tables → Stored → Stored
stopped_with left keeper =
    record keeper { left = left; calls = next_count keeper.calls; stopped = true; faults = next_count keeper.faults }

-- a keeper in memory after an attach, by what its plan says of that call
abbrev pub attached_at : List ℕ → Option Bool → Stored → Stored
attached_at path (Some kept) keeper = stopped_with keeper.left (record keeper { path = path })
attached_at path None keeper =
    record keeper {
      version = if is_attachable keeper.version then pos 2 else keeper.version;
      calls = next_count keeper.calls;
      attached = is_attachable keeper.version;
      path = path;
    }

-- what an attach returns
abbrev pub attach_answer : Option Bool → Stored → Result Tables AttachFault
attach_answer (Some kept) keeper = Err Failed
attach_answer None keeper = if is_attachable keeper.version then Ok keeper.tables else Err (Alien keeper.version)

-- a keeper in memory after a commit, by what its plan says of that call
abbrev pub committed : Change → Option Bool → Stored → Stored
committed change (Some kept) keeper = stopped_with (left_by kept keeper.tables change) keeper
committed change None keeper =
    record keeper { tables = after keeper.tables change; left = after keeper.tables change; calls = next_count keeper.calls }

-- what a commit returns
abbrev pub commit_answer : Option Bool → Result (Unit {0}) CommitFault
commit_answer (Some kept) = Err commit.Failed
commit_answer None = Ok tt
