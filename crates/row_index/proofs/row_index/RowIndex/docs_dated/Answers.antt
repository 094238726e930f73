use Rattle.std.proofs.Common.{rules, ◌≡◌, ap, ◌∙◌, map, List}
use Rattle.tap_rows.specs.declared.rows.Doc.{Doc}
use Rattle.tap_rows.specs.declared.tables.Tables.{Tables}
use Rattle.row_index.specs.Dates.{dated, dated_in, DatePosts}
use Rattle.row_index.proofs.DateLaws.{found_dated}
use Rattle.row_index.proofs.row_index.RowIndex.docs_dated.Goals as goal

pub returns : goal.returns
returns c =
    let dates : (docs : List Doc) → DatePosts docs c.self.inside.places.dates
    → c.within.result ≡ map dated (dated_in c.args.low c.args.high docs) = search rules in
    found_dated c.args.low c.args.high c.self.inside.docs.items c.within.result c.by_date.result c.self.invariant.docs_stand.numbered
    (search rules) (dates _ c.self.invariant.docs_found.numbers.dates)
    ∙ ap (λ (t : Tables). dated_in c.args.low c.args.high t.docs) c.self.view_is
