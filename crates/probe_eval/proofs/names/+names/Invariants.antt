use Rattle.probe_eval.proofs.names.+names.Given as goal

abbrev pub decreases-names : goal.decreases-names
decreases-names l = l.body.0
