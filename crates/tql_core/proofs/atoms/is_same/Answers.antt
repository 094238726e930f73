use Rattle.std.proofs.Common.{rules}
use Rattle.std.proofs.lemmas.Map.Text.{is_eq-slice_cmp}
use Rattle.tql_core.proofs.atoms.is_same.Goals as goal

pub returns : goal.returns
returns c = let by = is_eq-slice_cmp in search (rules, by)
