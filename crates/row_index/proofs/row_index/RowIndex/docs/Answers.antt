use Rattle.std.proofs.Common.{rules}
use Rattle.row_index.proofs.InPlaces.{arrived_of}
use Rattle.row_index.proofs.row_index.RowIndex.docs.Goals as goal

pub returns-clause-arrived : goal.returns-clause-arrived
returns-clause-arrived c = arrived_of _ (search rules)
