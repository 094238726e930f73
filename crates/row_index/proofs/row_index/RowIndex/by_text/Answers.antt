use Rattle.std.proofs.Common.{rules, ◌≡◌, ap, ◌∙◌}
use Rattle.tap_rows.specs.declared.tables.Tables.{Tables}
use Rattle.row_index.specs.Texts.{with_text, texts_of}
use Rattle.row_index.specs.Walks.{HasRows, at_places}
use Rattle.row_index.proofs.ListWindows.{listed_picked, listed_has_rows}
use Rattle.row_index.proofs.row_index.RowIndex.by_text.Goals as goal

pub at-requires : goal.at-requires
at-requires c =
    let docs = c.self.inside.docs.items in
    let rows : HasRows docs c.under.result.now = listed_has_rows (texts_of c.args.kind) c.args.text.now docs
    c.self.invariant.docs_stand c.under.result.now (c.under.ensures docs c.self.invariant.docs_found.texts) in
    let stand = c.self.invariant.docs_stand in
    search (rules, rows, stand)

pub returns : goal.returns
returns c =
    let docs = c.self.inside.docs.items in
    let picked = listed_picked (texts_of c.args.kind) c.args.text.now docs
    c.self.invariant.docs_stand c.under.result.now (c.under.ensures docs c.self.invariant.docs_found.texts) in
    let listed : c.at.result ≡ at_places docs c.under.result.now = search rules in
    listed ∙ picked ∙ ap (λ (t : Tables). with_text (texts_of c.args.kind) c.args.text.now t.docs) c.self.view_is
