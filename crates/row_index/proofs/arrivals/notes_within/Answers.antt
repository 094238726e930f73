use Rattle.std.proofs.Common.{rules, ◌≡◌, not, int_lt, filter}
use Rattle.row_index.specs.Orders.{note_arrival}
use Rattle.row_index.proofs.Halves.{rising_left, window_of}
use Rattle.row_index.proofs.arrivals.notes_within.Goals as goal

pub notes_from-requires : goal.notes_from-requires
notes_from-requires c = rising_left note_arrival _ _ _ c.requires c.notes_before.ensures

pub returns : goal.returns
returns c =
    let before : c.notes_before.result.now ≡ filter (λ x. int_lt x.arrival c.args.high) c.args.notes.now = search rules in
    let within : c.notes_from.result.now ≡ filter (λ x. not (int_lt x.arrival c.args.low)) c.notes_before.result.now = search rules in
    window_of note_arrival c.args.low c.args.high _ _ _ before within
