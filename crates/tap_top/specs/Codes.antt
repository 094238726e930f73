-- The exit status of a run.
use Rattle.std.specs.Prelude.{ℕ, Bool, ◌≡◌, ◌≤◌, ◌⊎◌, ◌==◌}
use Rattle.tap_top.specs.declared.status.Status.{Status}
use Rattle.tap_top.specs.declared.status.Status.TheVariants as s

-- the number of a status
abbrev pub code_of : Status → ℕ
code_of s.AllOk = 0
code_of s.SomeRefused = 1
code_of s.WordsRefused = 2
code_of s.ReadFailed = 3
code_of s.PutFailed = 4
code_of s.KeeperFailed = 5
code_of s.StoreRefused = 6
code_of s.OutOfMemory = 7
code_of s.ScriptTooLong = 8

-- all commands were performed
abbrev pub PerformedAll : Status → Type 0
PerformedAll status = code_of status ≤ 1

-- does every reply begin `ok`, if all commands were performed?
abbrev pub is_all_ok : Status → Bool
is_all_ok status = code_of status == 0

-- the statuses that a run may end with if it reached the end of its input or had none
abbrev pub IsOfClose : Status → Type 0
IsOfClose status = PerformedAll status ⊎ (status ≡ s.PutFailed ⊎ (status ≡ s.KeeperFailed ⊎ status ≡ s.OutOfMemory))

-- the statuses that a run may end with over a store that was opened
abbrev pub IsOfRun : Status → Type 0
IsOfRun status =
    PerformedAll status
    ⊎ (status ≡ s.ReadFailed ⊎ (status ≡ s.PutFailed ⊎ (status ≡ s.KeeperFailed ⊎ (status ≡ s.OutOfMemory ⊎ status ≡ s.ScriptTooLong))))

-- the statuses that a run may end with over a store that was refused
abbrev pub IsOfRefusal : Status → Type 0
IsOfRefusal status = status ≡ s.StoreRefused ⊎ status ≡ s.PutFailed
