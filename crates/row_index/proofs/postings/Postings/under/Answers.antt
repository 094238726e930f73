use Rattle.std.proofs.Common.{rules}
use Rattle.std.specs.Str.{bytes_eq}
use Rattle.row_index.proofs.Entries.{under_some, under_nothing}
use Rattle.row_index.proofs.postings.Postings.under.Goals as goal

pub returns-in-Some : goal.returns-in-Some
returns-in-Some c = under_some bytes_eq (λ k. k) c.args.key.now c.self.inside.places.entries _ c.in-Some.places.now _
    c.self.view_is (search rules) (search rules)

pub returns-in-None : goal.returns-in-None
returns-in-None c = under_nothing bytes_eq (λ k. k) c.args.key.now c.self.inside.places.entries _ c.self.view_is (search rules)
