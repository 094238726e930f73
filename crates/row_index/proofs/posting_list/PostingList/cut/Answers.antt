use Rattle.std.proofs.Common.{rules, ◌≡◌, filter, sym, subst, ap, ◌∙◌, refl}
use Rattle.row_index.specs.Walks.{HasRows, at_places}
use Rattle.row_index.specs.Orders.{IsRisingBy}
use Rattle.row_index.specs.Cuts.{rank, cut_rank, passes, keeps, keeps_place}
use Rattle.row_index.proofs.PlaceLists.{kept_have_rows}
use Rattle.row_index.proofs.ListWindows.{rising_placed, kept_picked}
use Rattle.row_index.proofs.posting_list.PostingList.cut.Goals as goal

pub places_cut-requires : goal.places_cut-requires
places_cut-requires c =
    rising_placed c.self.inside.docs.now (rank c.args.cut.order) (cut_rank c.args.cut.order) (λ doc. refl)
    c.self.inside.places.now c.self.invariant.rows (subst (IsRisingBy (rank c.args.cut.order)) (sym c.self.view_is) c.requires)

pub invariant_of-result : goal.invariant_of-result
invariant_of-result c =
    let docs = c.self.inside.docs.now in
    let left : c.places_cut.result.now ≡ filter (keeps_place docs c.args.cut) c.self.inside.places.now = search rules in
    record {
      stand = c.self.invariant.stand;
      rows =
          subst (HasRows docs) (sym left)
          (kept_have_rows docs (keeps_place docs c.args.cut) c.self.inside.places.now c.self.invariant.rows);
    }

pub returns : goal.returns
returns c =
    let docs = c.self.inside.docs.now in
    let left : c.places_cut.result.now ≡ filter (keeps_place docs c.args.cut) c.self.inside.places.now = search rules in
    let picked = kept_picked docs (keeps c.args.cut) (λ o. passes c.args.cut.limit c.args.cut.bound (cut_rank c.args.cut.order o))
    (λ doc. refl) c.self.inside.places.now c.self.invariant.rows in
    ap (at_places docs) left ∙ picked ∙ ap (filter (keeps c.args.cut)) c.self.view_is
