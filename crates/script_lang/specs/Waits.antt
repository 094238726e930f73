-- Bytes of a reply that wait to be put together with those that follow.
use Rattle.std.specs.Prelude.{ℕ, ◌≡◌, List, [], Result, Ok, OnOk}
use Rattle.tap_edges.specs.Puts.{PutBehind}
use Rattle.tap_edges.specs.declared.edges.PutFailed.{PutFailed}
use Rattle.tap_edges.specs.declared.edges.Sink.{Ghosts}

-- either all of these bytes wait and nothing was put, or a put appended to the first bytes of a reply ended as `PutBehind` says,
-- and if it succeeded none waits
pub data Waits {K : Type 0} (g : Ghosts K) (start : ℕ) (bytes waiting : List ℕ) (old new : K) (result : Result ℕ PutFailed) : Type 0 where
  all_wait : waiting ≡ bytes → result ≡ Ok start → new ≡ old → Waits g start bytes waiting old new result
  none_waits : OnOk result (waiting ≡ []) → PutBehind g start bytes old new result → Waits g start bytes waiting old new result
