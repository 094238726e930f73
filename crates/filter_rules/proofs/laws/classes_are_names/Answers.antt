use Rattle.filter_rules.proofs.Classes.{listing_named}
use Rattle.filter_rules.proofs.laws.classes_are_names.Goals as goal

pub returns : goal.returns
returns c = listing_named
