use Rattle.tap_top.proofs.ChainLaws.{chain-store, chain-adds}
use Rattle.tap_top.proofs.laws.sessions_in_a_row_are_safe.Goals as goal

pub returns : goal.returns
returns c = record { kept = chain-store; added = chain-adds }
