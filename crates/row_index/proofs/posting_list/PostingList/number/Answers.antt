use Rattle.std.proofs.Common.{rules, ◌≡◌, ◌<◌, ◌≤◌, length, Some, slice_get, refl, sym, ap, ◌∙◌}
use Rattle.std.proofs.lemmas.Option.{slice_get_read}
use Rattle.row_index.specs.Orders.{doc_num}
use Rattle.row_index.proofs.PlaceLists.{picked_at, none_at_place}
use Rattle.row_index.proofs.ListWindows.{number_here}
use Rattle.row_index.proofs.posting_list.PostingList.number.Goals as goal

pub overflow_add-result : goal.overflow_add-result
overflow_add-result c =
    let places = c.self.inside.places.now in
    let within : c.args.place < length places = search rules in
    let found : slice_get places c.args.place ≡ Some c.in-Some.at.now =
    slice_get_read places (length places) c.args.place c.in-Some.at.now refl within c.in-Some.ensures.lookup.1 in
    let here = number_here c.self.inside.docs.now places c.args.place c.in-Some.at.now c.self.invariant found in
    let room = here.0 in
    search (rules, room)

pub returns-in-None : goal.returns-in-None
returns-in-None c =
    let places = c.self.inside.places.now in
    let over : length places ≤ c.args.place = search rules in
    sym (ap (λ docs. doc_num (slice_get docs c.args.place)) (sym c.self.view_is)
    ∙ ap doc_num (none_at_place c.self.inside.docs.now places c.args.place c.self.invariant.rows over))

pub returns-in-Some : goal.returns-in-Some
returns-in-Some c =
    let places = c.self.inside.places.now in
    let within : c.args.place < length places = search rules in
    let found : slice_get places c.args.place ≡ Some c.in-Some.at.now =
    slice_get_read places (length places) c.args.place c.in-Some.at.now refl within c.in-Some.ensures.lookup.1 in
    let here = number_here c.self.inside.docs.now places c.args.place c.in-Some.at.now c.self.invariant found in
    let picked = picked_at c.self.inside.docs.now places c.args.place c.in-Some.at.now c.self.invariant.rows found in
    here.1 ∙ ap doc_num (sym picked) ∙ ap (λ docs. doc_num (slice_get docs c.args.place)) c.self.view_is
