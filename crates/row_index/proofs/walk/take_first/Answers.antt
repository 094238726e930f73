use Rattle.std.proofs.Common.{◌∙◌, ap, refl}
use Rattle.row_index.specs.Walks.{left_in}
use Rattle.row_index.proofs.PlaceLists.{none_picked, end_picked, row_picked}
use Rattle.row_index.proofs.walk.take_first.Goals as goal

pub returns-in-None-take_place-clause-none : goal.returns-in-None-take_place-clause-none
returns-in-None-take_place-clause-none g c = λ e. ap left_in c.in-Picked.is ∙ none_picked _ _ (c.in-None-take_place.ensures.end refl)

pub returns-in-Some-take_place-clause-none : goal.returns-in-Some-take_place-clause-none
returns-in-Some-take_place-clause-none g c = λ e. ap left_in c.in-Picked.is
    ∙ end_picked _ _ _ _ _ c.in-Some-take_place.ensures.places c.row_at.ensures e

pub returns-in-Some-take_place-clause-some : goal.returns-in-Some-take_place-clause-some
returns-in-Some-take_place-clause-some g c =
    row_picked _ _ _ _ _ _ (ap left_in c.in-Picked.is) c.in-Some-take_place.ensures.places c.row_at.ensures
