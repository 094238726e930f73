use Rattle.std.proofs.Common.{rules}
use Rattle.std.specs.Ordering.{int_eq}
use Rattle.row_index.proofs.Entries.{under_some, under_nothing}
use Rattle.row_index.proofs.number_places.NumberPlaces.under.Goals as goal

pub returns-in-Some : goal.returns-in-Some
returns-in-Some c =
    under_some int_eq (λ k. k) c.args.key c.self.inside.places.entries _ c.in-Some.places.now _ c.self.view_is (search rules) (search rules)

pub returns-in-None : goal.returns-in-None
returns-in-None c = under_nothing int_eq (λ k. k) c.args.key c.self.inside.places.entries _ c.self.view_is (search rules)
