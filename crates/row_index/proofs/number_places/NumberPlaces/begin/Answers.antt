use Rattle.std.proofs.Common.{rules}
use Rattle.std.specs.Ordering.{int_eq}
use Rattle.row_index.proofs.Entries.{put_first}
use Rattle.row_index.proofs.number_places.NumberPlaces.begin.Goals as goal

pub returns-clause-ok : goal.returns-clause-ok
returns-clause-ok c = put_first int_eq (λ k. k) c.args.key c.args.place c.self.inside.places.entries c.insert.new.self.entries _ _
    c.push.new.self c.self.view_is c.in_ok-insert.ensures.entries (search rules) (search rules) c.requires
