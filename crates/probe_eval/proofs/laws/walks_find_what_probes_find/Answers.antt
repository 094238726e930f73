use Rattle.probe_eval.proofs.Founds.{query_found}
use Rattle.probe_eval.proofs.laws.walks_find_what_probes_find.Goals as goal

pub returns : goal.returns
returns c = query_found
