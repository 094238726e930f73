-- What a crash leaves of a keeper in memory that hasn't failed.
use Rattle.std.proofs.Common.{◌≡◌, false, if◌then◌else◌, ap}
use Rattle.keeper_core.specs.Stored.{Stored, left_now}

pub left_running : (k : Stored) → k.stopped ≡ false → left_now k ≡ k.tables
left_running k running = ap (λ b. if b then k.left else k.tables) running
