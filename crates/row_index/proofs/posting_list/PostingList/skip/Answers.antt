use Rattle.std.proofs.Common.{drop, sym, subst, ap, ◌∙◌}
use Rattle.row_index.specs.Walks.{HasRows, at_places}
use Rattle.row_index.proofs.PlaceLists.{picked_behind, behind_has_rows}
use Rattle.row_index.proofs.posting_list.PostingList.skip.Goals as goal

pub invariant_of-result : goal.invariant_of-result
invariant_of-result c =
    record {
      stand = c.self.invariant.stand;
      rows = subst (HasRows c.self.inside.docs.now) (sym c.behind.ensures)
          (behind_has_rows c.self.inside.docs.now c.self.inside.places.now c.args.place c.self.invariant.rows);
    }

pub returns : goal.returns
returns c =
    let picked = picked_behind c.self.inside.docs.now c.self.inside.places.now c.args.place c.self.invariant.rows in
    ap (at_places c.self.inside.docs.now) c.behind.ensures ∙ picked ∙ ap (drop c.args.place) c.self.view_is
