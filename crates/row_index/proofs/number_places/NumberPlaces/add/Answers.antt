use Rattle.std.proofs.Common.{rules, ◌≡◌, ◌∙◌, ap, to_z, of_z, w64}
use Rattle.std.specs.Ordering.{int_eq}
use Rattle.row_index.specs.Places.{posted}
use Rattle.row_index.proofs.Entries.{put_back, put_as_was, none_there}
use Rattle.row_index.proofs.TextLaws.{at_err}
use Rattle.row_index.proofs.number_places.NumberPlaces.add.Goals as goal

pub begin-requires : goal.begin-requires
begin-requires c = none_there int_eq (λ k. k)
    (to_z w64 (of_z w64 c.args.key)) c.self.inside.places.entries c.get_mut.follows.lender-at-none.entries (search rules) (search rules)

pub returns-in_ok-put_place-in-Some-clause-ok : goal.returns-in_ok-put_place-in-Some-clause-ok
returns-in_ok-put_place-in-Some-clause-ok c =
    let back : to_z w64 (of_z w64 c.args.key) ≡ c.args.key = search rules in
    put_back int_eq (λ k. k) (to_z w64 (of_z w64 c.args.key)) c.args.place c.self.inside.places.entries _ _
    c.in-Some.places.now c.put_place.new.places c.self.view_is (search rules) (c.get_mut.follows.holds c.put_place.new.places).0
    c.in_ok-put_place-in-Some.ensures.ok ∙ ap (λ k. posted int_eq k c.args.place c.args.self.now) back

pub returns-in_err-put_place-in-Some-clause-err : goal.returns-in_err-put_place-in-Some-clause-err
returns-in_err-put_place-in-Some-clause-err c = at_err _ _ (put_as_was int_eq (λ k. k) (to_z w64 (of_z w64 c.args.key))
    c.self.inside.places.entries _ _ c.in-Some.places.now c.put_place.new.places c.self.view_is (search rules)
    (c.get_mut.follows.holds c.put_place.new.places).0 c.in_err-put_place-in-Some.ensures.err)
