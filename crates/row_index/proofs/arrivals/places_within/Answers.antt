use Rattle.std.proofs.Common.{rules, ◌≡◌, not, int_lt, filter}
use Rattle.row_index.specs.Orders.{place_arrival}
use Rattle.row_index.proofs.Halves.{rising_left, window_of}
use Rattle.row_index.proofs.arrivals.places_within.Goals as goal

pub places_from-requires : goal.places_from-requires
places_from-requires c = rising_left (place_arrival c.args.docs.now) _ _ _ c.requires c.places_before.ensures

pub returns : goal.returns
returns c =
    let before : c.places_before.result.now ≡ filter (λ x. int_lt (place_arrival c.args.docs.now x) c.args.high) c.args.places.now =
    search rules in
    let within : c.places_from.result.now
    ≡ filter (λ x. not (int_lt (place_arrival c.args.docs.now x) c.args.low)) c.places_before.result.now = search rules in
    window_of (place_arrival c.args.docs.now) c.args.low c.args.high _ _ _ before within
