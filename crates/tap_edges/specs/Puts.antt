-- What a put of the next bytes of a reply did.
use Rattle.std.specs.Prelude.{ℕ, ◌≡◌, ◌≤◌, ◌-◌, ◌+◌, ◌^◌, min, List, length, take, Option, Result, OnOk, IfOk, IfErr}
use Rattle.std.specs.Io.KnownBytes.{Appends}
use Rattle.tap_edges.specs.Edges.{HasCause}
use Rattle.tap_edges.specs.declared.edges.PutFailed.{PutFailed}
use Rattle.tap_edges.specs.declared.edges.Sink.{Ghosts}

-- a count of 64 bits, which stays at its greatest value
abbrev pub counted : ℕ → ℕ
counted n = min n (2 ^ 64 - 1)

-- a failed put appended the first n of these bytes; its count is of these n and the `start` bytes before them
pub record TookSome (start : ℕ) (old new : Option (List ℕ)) (bytes : List ℕ) (failed : PutFailed) : Type 0 where
  pub n : ℕ
  pub within : n ≤ length bytes
  pub count : failed.out ≡ counted (start + n)
  pub written : Appends old new (take n bytes)

-- these bytes were appended to the first `start` bytes of a reply, and the result counts both; or the put failed, and a front of
-- them was put; it fails only if a fault is counted
pub record PutBehind {K : Type 0} (g : Ghosts K) (start : ℕ) (bytes : List ℕ) (old new : K) (result : Result ℕ PutFailed) : Type 0 where
  pub count : IfOk result (λ done. done ≡ counted (start + length bytes))
  pub ok : OnOk result (Appends (g.out old) (g.out new) bytes)
  pub err : IfErr result (λ failed. TookSome start (g.out old) (g.out new) bytes failed)
  pub cause : HasCause (g.faults old) (g.faults new) result
