use Rattle.std.proofs.Common.{rules, ◌≡◌, ◌∙◌, ap, to_z, of_z, w64}
use Rattle.std.specs.Ordering.{int_eq}
use Rattle.row_index.specs.Places.{unposted}
use Rattle.row_index.proofs.Entries.{put_less, put_none}
use Rattle.row_index.proofs.number_places.NumberPlaces.forget.Goals as goal
use Rattle.row_index.proofs.number_places.NumberPlaces.forget.Goals.{in-Some, in_default}

pub returns : goal.returns
returns c =
    let key = to_z w64 (of_z w64 c.args.key) in
    let back : to_z w64 (of_z w64 c.args.key) ≡ c.args.key = search rules in
    elim c.match-get_mut.branch [
      | in-Some w ↦ put_less int_eq (λ k. k) key c.args.place c.self.inside.places.entries _ _
          w.in-Some.places.now w.drop_place.new.places c.self.view_is (search rules)
          (ap (λ z. z.places.entries) w.self-inside-is ∙ (c.get_mut.follows.holds w.drop_place.new.places).0) w.drop_place.ensures
      | in_default w ↦ put_none int_eq (λ k. k) key c.args.place c.self.inside.places.entries _ _ c.self.view_is (search rules)
          (ap (λ z. z.places.entries) w.self-inside-is ∙ search rules)
    ] ∙ ap (λ k. unposted int_eq k c.args.place c.args.self.now) back
