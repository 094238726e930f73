use Rattle.delta_rewrite.proofs.Deltas.{delta_keeps_scopes}
use Rattle.delta_rewrite.proofs.laws.delta_windows_keep_scopes.Goals as goal

pub returns : goal.returns
returns c = delta_keeps_scopes
