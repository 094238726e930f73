use Rattle.tap_model.proofs.StoreLaws.{store-boxed, boxed-store}
use Rattle.tap_model.proofs.laws.stores_are_boxed.Goals as goal

pub returns : goal.returns
returns c = λ tables. (store-boxed tables, boxed-store tables)
