use Rattle.delta_rewrite.proofs.renamed.+renamed_body.Given as goal

abbrev pub decreases-renamed_body : goal.decreases-renamed_body
decreases-renamed_body l = l.id.0
