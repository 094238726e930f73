use Rattle.std.proofs.Common.{arith}
use Rattle.row_index.proofs.HeldLaws.{front_stays, front_left}
use Rattle.row_index.proofs.doc_places.cut_numbers.Goals as goal

pub docs-preserved : goal.docs-preserved
docs-preserved c = record {
  front = front_stays c.args.len c.args.docs.now.items c.docs.docs.items c.cut_last.new.docs.items (omega arith) c.cut_last.ensures.docs
      c.docs.invariant.front;
  stand = c.cut_last.ensures.stand;
  numbers = c.cut_last.ensures.numbers;
}

pub returns-clause-docs : goal.returns-clause-docs
returns-clause-docs c =
    front_left c.args.len c.args.docs.now.items c.docs.docs.items (omega arith) c.docs.invariant.front
