use Rattle.std.proofs.Common.{[]}
use Rattle.std.specs.List.{flat_map}
use Rattle.tap_base.proofs.Missing.{both_held}
use Rattle.mail_fields.proofs.laws.distinct_entries_are_the_entries.Goals as goal

pub returns : goal.returns
returns c = λ entries values text. both_held [] (flat_map entries values) text
