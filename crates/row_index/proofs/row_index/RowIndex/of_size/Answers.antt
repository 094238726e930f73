use Rattle.std.proofs.Common.{rules, ◌≡◌, ap, ◌∙◌, pos}
use Rattle.std.specs.Ordering.{int_eq}
use Rattle.tap_rows.specs.declared.tables.Tables.{Tables}
use Rattle.row_index.specs.Orders.{doc_number}
use Rattle.row_index.specs.Numbers.{doc_sizes, of_size}
use Rattle.row_index.specs.Posts.{places_of, with_key}
use Rattle.row_index.specs.Walks.{HasRows, at_places}
use Rattle.row_index.proofs.ListWindows.{found_picked, found_has_rows}
use Rattle.row_index.proofs.NumberLaws.{found_of_size}
use Rattle.row_index.proofs.row_index.RowIndex.of_size.Goals as goal

pub at-requires : goal.at-requires
at-requires c =
    let docs = c.self.inside.docs.items in
    let under : c.under.result.now ≡ places_of doc_number (with_key int_eq doc_sizes (pos c.args.size) docs) =
    search (rules, c.self.invariant.docs_found.numbers.sizes (pos c.args.size)) in
    let rows : HasRows docs c.under.result.now =
    found_has_rows int_eq doc_sizes (pos c.args.size) docs c.self.invariant.docs_stand c.under.result.now under in
    let stand = c.self.invariant.docs_stand in
    search (rules, rows, stand)

pub returns : goal.returns
returns c =
    let docs = c.self.inside.docs.items in
    let under : c.under.result.now ≡ places_of doc_number (with_key int_eq doc_sizes (pos c.args.size) docs) =
    search (rules, c.self.invariant.docs_found.numbers.sizes (pos c.args.size)) in
    let listed : c.at.result ≡ at_places docs c.under.result.now = search rules in
    listed ∙ found_picked int_eq doc_sizes (pos c.args.size) docs c.self.invariant.docs_stand c.under.result.now under
    ∙ found_of_size c.args.size docs ∙ ap (λ (t : Tables). of_size c.args.size t.docs) c.self.view_is
