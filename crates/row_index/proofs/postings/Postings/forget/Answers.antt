use Rattle.std.proofs.Common.{rules, ap, ◌∙◌}
use Rattle.std.specs.Str.{bytes_eq}
use Rattle.row_index.proofs.Entries.{put_less, put_none}
use Rattle.row_index.proofs.postings.Postings.forget.Goals as goal
use Rattle.row_index.proofs.postings.Postings.forget.Goals.{in-Some, in_default}

pub returns : goal.returns
returns c =
    elim c.match-get_mut.branch [
      | in-Some w ↦ put_less bytes_eq (λ k. k) c.args.key.now c.args.place c.self.inside.places.entries _ _
          w.in-Some.places.now w.drop_place.new.places c.self.view_is (search rules)
          (ap (λ z. z.places.entries) w.self-inside-is ∙ (c.get_mut.follows.holds w.drop_place.new.places).0) w.drop_place.ensures
      | in_default w ↦ put_none bytes_eq (λ k. k) c.args.key.now c.args.place c.self.inside.places.entries _ _ c.self.view_is (search rules)
          (ap (λ z. z.places.entries) w.self-inside-is ∙ search rules)
    ]
