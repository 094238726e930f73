-- The replies are up to date whenever the source is asked for more.
use Rattle.std.proofs.Common.{◌≡◌, refl, ℕ, List, Bool, Option, Some, None, ◌≤◌}
use Rattle.std.specs.Prelude.{⊤}
use Rattle.std.specs.Io.KnownBytes.{Keeps}
use Rattle.tap_rows.specs.declared.tables.Tables.{Tables}
use Rattle.script_lang.specs.Script.{Reading}
use Rattle.tap_model.specs.declared.session.Session.{Session}
use Rattle.peer_edges.specs.Asks.{AskedOnlyWhen}
use Rattle.peer_edges.proofs.Asks.{asked_more}
use Rattle.tap_top.specs.declared.top.TheConstants.{SCRIPT_LIMIT}
use Rattle.tap_top.specs.Prompt.{IsUpToDate}
use Rattle.tap_top.proofs.Runs.{Running, Running-read}

Keeps-same : (a : Option (List ℕ)) → Keeps a a
Keeps-same None = tt
Keeps-same (Some xs) = refl

-- the source is asked once more
pub Running-asked : (left mid : Option (List ℕ)) (taken : ℕ) (now : Reading) (t : Tables) (out out1 : Option (List ℕ))
    (Ends : Tables → Type 0) (s1 : Session) (ok : Bool)
    (asked before asked' : Option (List ℕ) → Option (List ℕ) → Type 0)
    → AskedOnlyWhen (λ l o. IsUpToDate t left l out o) asked before → Running left mid taken now t out out1 Ends s1 ok
    → taken ≤ SCRIPT_LIMIT
    → AskedOnlyWhen (λ l o. (l ≡ mid) × (o ≡ out1)) before asked' → AskedOnlyWhen (λ l o. IsUpToDate t left l out o) asked asked'
Running-asked left mid taken now t out out1 Ends s1 ok asked before asked' so_far running le once =
    asked_more (λ l o. IsUpToDate t left l out o) mid out1 asked before asked' so_far
    (Running-read left mid mid taken now t out out1 Ends (λ x. ⊤) s1 ok (λ x there. tt) running le (Keeps-same mid)) once
