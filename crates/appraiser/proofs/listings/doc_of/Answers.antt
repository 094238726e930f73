use Rattle.std.proofs.Common.{◌∙◌, arith}
use Rattle.std.specs.Option.{option_copied}
use Rattle.appraiser.proofs.DocPlaces.{doc-placed, one-at-most}
use Rattle.appraiser.proofs.listings.doc_of.Goals as goal

pub returns-clause-doc : goal.returns-clause-doc
returns-clause-doc g c = c.doc.ensures.doc ∙ doc-placed c.args.num.0 c.args.index.now.docs c.docs-docs.ensures.places.numbered

pub returns-clause-steps : goal.returns-clause-steps
returns-clause-steps g c = omega (arith, c.doc.ensures.steps, one-at-most (option_copied c.doc.result))
