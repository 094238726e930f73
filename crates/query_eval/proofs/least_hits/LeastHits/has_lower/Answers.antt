use Rattle.std.proofs.Common.{◌∙◌, sym}
use Rattle.query_eval.proofs.KeptLower.{found_place}
use Rattle.query_eval.proofs.least_hits.LeastHits.has_lower.Goals as goal

pub returns-else-has_place-clause-found : goal.returns-else-has_place-clause-found
returns-else-has_place-clause-found c = λ h. sym c.if-has_place.false
    ∙ (c.has_place.ensures ∙ found_place c.args.self.now.hits.items c.args.self.now.places.items c.args.hit c.requires.placed h)
