use Rattle.probe_eval.proofs.cuts.+cut_docs.Given as goal

abbrev pub decreases-cut_docs : goal.decreases-cut_docs
decreases-cut_docs l = l.id.0
