use Rattle.std.proofs.Common.{rules, ◌≡◌, Some, sym, ◌∙◌}
use Rattle.row_index.proofs.DateLaws.{dates_more, date_there, key_is}
use Rattle.row_index.proofs.dates.Dates.add.Goals as goal
use Rattle.tap_rows.specs.Fields.{fields}

pub returns-in_ok-insert-clause-ok : goal.returns-in_ok-insert-clause-ok
returns-in_ok-insert-clause-ok c = λ docs n k.
    let e : Some c.in-Some.date ≡ (fields c.args.doc.now).date = sym c.in-Some.is ∙ c.date_of.ensures in
    dates_more docs c.args.doc.now _ _ _ n.numbered n.number (date_there c.args.doc.now _ e)
    (key_is c.args.doc.now _ _ c.args.place docs e (search rules) n.number n.behind) c.in_ok-insert.ensures.keys k
