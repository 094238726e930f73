use Rattle.std.proofs.Common.{rules, ◌≡◌, ◌∙◌, to_z, of_z, w64}
use Rattle.row_index.proofs.HeldLaws.{sizes_failed}
use Rattle.row_index.proofs.NumberLaws.{sizes_more, sizes_less}
use Rattle.row_index.proofs.doc_places.add_numbers.Goals as goal

pub returns-in_err-add-clause-err : goal.returns-in_err-add-clause-err
returns-in_err-add-clause-err c = sizes_failed _ c.args.doc.now c.args.place c.args.dates.now c.args.sizes.now c.add.new.self
    c.in_err-add.ensures.err

pub returns-in-Ok-clause-ok : goal.returns-in-Ok-clause-ok
returns-in-Ok-clause-ok c = λ docs n t.
    let size = to_z w64 (of_z w64 c.size_of-size.result) in
    let back : to_z w64 (of_z w64 c.size_of-size.result) ≡ c.size_of-size.result = search rules in
    record {
      dates = c.in-Ok.ensures.ok docs n t.dates;
      sizes = sizes_more docs c.args.doc.now c.args.place size c.args.sizes.now c.add.new.self n (back ∙ c.size_of-size.ensures)
          c.in_ok-add.ensures.ok t.sizes;
    }

pub returns-in-Err-clause-err : goal.returns-in-Err-clause-err
returns-in-Err-clause-err c = λ docs n t.
    let size = to_z w64 (of_z w64 c.size_of-size.result) in
    let back : to_z w64 (of_z w64 c.size_of-size.result) ≡ c.size_of-size.result = search rules in
    let is = back ∙ c.size_of-size.ensures in
    record {
      dates = c.in-Err.ensures.err docs t.dates;
      sizes = sizes_less docs c.args.doc.now c.args.place size c.add.new.self c.forget.new.self n is c.forget.ensures
          (sizes_more docs c.args.doc.now c.args.place size c.args.sizes.now c.add.new.self n is c.in_ok-add.ensures.ok t.sizes);
    }
