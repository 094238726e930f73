use Rattle.std.proofs.Common.{◌∙◌, ap, ap₂, List, Option}
use Rattle.tap_rows.specs.declared.rows.FilterRow.{FilterRow}
use Rattle.tap_rows.specs.declared.results.Entry.{Entry}
use Rattle.filter_rules.specs.Listings.{listing_of}
use Rattle.tap_model.specs.Filters.{last_filter, filter_rules}
use Rattle.tap_engine.proofs.engine.Engine.rated.Goals as goal

pub returns : goal.returns
returns g c =
    c.in_ok-rows.ensures.rows
    ∙ ap₂ (λ (o : Option FilterRow) (es : List Entry). listing_of (filter_rules o) c.args.self.now.index.docs es)
    (c.last_filter-filter.ensures ∙ ap (last_filter c.args.user.now) c.as_slice.ensures) (c.as_slice-2.ensures ∙ c.in_ok-entries.ensures)
