use Rattle.std.proofs.Common.{rules, ◌≡◌, not, int_lt, filter}
use Rattle.row_index.specs.Orders.{doc_arrival}
use Rattle.row_index.proofs.Halves.{rising_left, window_of}
use Rattle.row_index.proofs.arrivals.docs_within.Goals as goal

pub docs_from-requires : goal.docs_from-requires
docs_from-requires c = rising_left doc_arrival _ _ _ c.requires c.docs_before.ensures

pub returns : goal.returns
returns c =
    let before : c.docs_before.result.now ≡ filter (λ x. int_lt x.arrival c.args.high) c.args.docs.now = search rules in
    let within : c.docs_from.result.now ≡ filter (λ x. not (int_lt x.arrival c.args.low)) c.docs_before.result.now = search rules in
    window_of doc_arrival c.args.low c.args.high _ _ _ before within
