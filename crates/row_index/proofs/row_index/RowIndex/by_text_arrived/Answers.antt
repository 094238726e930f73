use Rattle.std.proofs.Common.{rules, ◌≡◌, ap, ◌∙◌}
use Rattle.tap_rows.specs.declared.tables.Tables.{Tables}
use Rattle.row_index.specs.Orders.{IsRisingBy, in_window, doc_arrival, place_arrival}
use Rattle.row_index.specs.Texts.{with_text, texts_of}
use Rattle.row_index.specs.Walks.{HasRows, at_places}
use Rattle.row_index.proofs.ListWindows.{listed_rise, window_picked, window_has_rows}
use Rattle.row_index.proofs.row_index.RowIndex.by_text_arrived.Goals as goal

pub places_within-requires : goal.places_within-requires
places_within-requires c =
    let docs = c.self.inside.docs.items in
    let rise : IsRisingBy (place_arrival docs) c.under-places.result.now = listed_rise (texts_of c.args.kind) c.args.text.now docs
    c.self.invariant.docs_stand c.under-places.result.now (c.under-places.ensures docs c.self.invariant.docs_found.texts) in
    search (rules, rise)

pub at-requires : goal.at-requires
at-requires c =
    let docs = c.self.inside.docs.items in
    let cut : c.places_within.result.now ≡ in_window (place_arrival docs) c.args.low c.args.high c.under-places.result.now = search rules in
    let rows : HasRows docs c.places_within.result.now =
    window_has_rows (texts_of c.args.kind) c.args.text.now docs c.self.invariant.docs_stand c.args.low c.args.high
    c.under-places.result.now c.places_within.result.now (c.under-places.ensures docs c.self.invariant.docs_found.texts) cut in
    let stand = c.self.invariant.docs_stand in
    search (rules, rows, stand)

pub returns : goal.returns
returns c =
    let docs = c.self.inside.docs.items in
    let cut : c.places_within.result.now ≡ in_window (place_arrival docs) c.args.low c.args.high c.under-places.result.now = search rules in
    let picked = window_picked (texts_of c.args.kind) c.args.text.now docs c.self.invariant.docs_stand c.args.low c.args.high
    c.under-places.result.now c.places_within.result.now (c.under-places.ensures docs c.self.invariant.docs_found.texts) cut in
    let listed : c.at.result ≡ at_places docs c.places_within.result.now = search rules in
    listed ∙ picked
    ∙ ap (λ (t : Tables). in_window doc_arrival c.args.low c.args.high (with_text (texts_of c.args.kind) c.args.text.now t.docs))
    c.self.view_is
