use Rattle.std.proofs.Common.{arith, sym}
use Rattle.std.proofs.lemmas.List.{take_all}
use Rattle.row_index.proofs.HeldLaws.{found_cut}
use Rattle.row_index.proofs.doc_places.cut_docs.Goals as goal

pub overflow_cast-len : goal.overflow_cast-len
overflow_cast-len c = let room = c.requires.stand.room in omega (arith, room)

pub returns-then-len-clause-found : goal.returns-then-len-clause-found
returns-then-len-clause-found c = found_cut c.args.docs.now.items c.cut_numbers.new.docs.items c.args.len c.args.places.now
    c.cut.new.self c.cut_numbers.new.dates c.cut_numbers.new.sizes c.requires.stand.numbered c.cut_numbers.ensures.docs c.cut.ensures
    c.requires.found c.cut_numbers.ensures.numbers

pub returns-else-len-clause-docs : goal.returns-else-len-clause-docs
returns-else-len-clause-docs c = sym (take_all c.args.len c.args.docs.now.items (omega arith))
