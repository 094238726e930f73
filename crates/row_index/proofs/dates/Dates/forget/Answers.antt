use Rattle.std.proofs.Common.{rules, ◌≡◌, Some, sym, ◌∙◌}
use Rattle.row_index.proofs.DateLaws.{dates_less, date_there, key_is}
use Rattle.row_index.proofs.dates.Dates.forget.Goals as goal
use Rattle.tap_rows.specs.Fields.{fields}

pub returns-in-Some : goal.returns-in-Some
returns-in-Some c = λ docs n k.
    let e : Some c.in-Some.date ≡ (fields c.args.doc.now).date = sym c.in-Some.is ∙ c.date_of.ensures in
    dates_less docs c.args.doc.now _ _ _ n.numbered n.number (date_there c.args.doc.now _ e)
    (key_is c.args.doc.now _ _ c.args.place docs e (search rules) n.number n.behind) c.remove.ensures.keys k
