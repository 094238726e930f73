use Rattle.std.proofs.Common.{◌∙◌}
use Rattle.tql_core.proofs.WordLaws.{held-same}
use Rattle.tql_core.proofs.atoms.holds_word.Goals as goal

pub returns : goal.returns
returns c = c.holds.ensures ∙ held-same c.args.words.now c.args.text.now
