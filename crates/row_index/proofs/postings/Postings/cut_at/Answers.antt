use Rattle.std.proofs.Common.{rules, ap, ◌∙◌}
use Rattle.std.specs.Str.{bytes_eq}
use Rattle.row_index.proofs.CutLaws.{put_cut, put_none}
use Rattle.row_index.proofs.postings.Postings.cut_at.Goals as goal
use Rattle.row_index.proofs.postings.Postings.cut_at.Goals.{in-Some, in_default}

pub returns : goal.returns
returns c =
    elim c.match-get_index_mut.branch [
      | in-Some w ↦ put_cut bytes_eq (λ k. k) c.args.len c.args.at c.self.inside.places.entries _ _
          w.in-Some.places.now w.cut_places.new.places c.self.view_is (search rules)
          (ap (λ z. z.places.entries) w.self-inside-is) w.cut_places.ensures
      | in_default w ↦ put_none bytes_eq (λ k. k) c.args.len c.args.at c.self.inside.places.entries _ _ c.self.view_is (search rules)
          (ap (λ z. z.places.entries) w.self-inside-is ∙ search rules)
    ]
