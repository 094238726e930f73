use Rattle.monotone_rewrite.proofs.Scopes.{is_window_probe}
use Rattle.monotone_rewrite.proofs.laws.probes_keep_scopes.Goals as goal

pub returns : goal.returns
returns c = is_window_probe
