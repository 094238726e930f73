use Rattle.std.proofs.Common.{◌≡◌, ◌<◌, ◌-◌, false, Some, length, arith, ◌∙◌, sym}
use Rattle.std.specs.Prelude.{slice_get}
use Rattle.query_eval.specs.Placed.{has_hit_at}
use Rattle.query_eval.proofs.PlacedLaws.{none_of, fewer_hits, kept_lower, placed_lower, kept_append, placed_append, known_at, placed_as}
use Rattle.query_eval.proofs.least_hits.LeastHits.collect_placed.Goals as goal

pub append-requires-clause-counted : goal.append-requires-clause-counted
append-requires-clause-counted c =
    let hs = c.args.self.now.hits.items in
    let ps = c.args.self.now.places.items in
    let known : slice_get ps (c.args.hit.doc.0 - 1) ≡ Some c.index.result.now =
    known_at ps c.args.hit.doc.0 c.index.result.now c.requires.above c.requires.within c.index.ensures in
    let out : has_hit_at hs c.index.result.now c.args.hit.doc.0 ≡ false = sym c.is_at.ensures ∙ c.if-is_at.false in
    let f : length hs < length ps =
    fewer_hits hs ps c.args.hit c.requires.placed (none_of hs ps c.requires.placed c.args.hit.doc.0 c.index.result.now known out)
    c.requires.above c.requires.within in
    let r = c.requires.room.counted in
    omega (arith, f, r)

pub append-requires-clause-room : goal.append-requires-clause-room
append-requires-clause-room c =
    let hs = c.args.self.now.hits.items in
    let ps = c.args.self.now.places.items in
    let known : slice_get ps (c.args.hit.doc.0 - 1) ≡ Some c.index.result.now =
    known_at ps c.args.hit.doc.0 c.index.result.now c.requires.above c.requires.within c.index.ensures in
    let out : has_hit_at hs c.index.result.now c.args.hit.doc.0 ≡ false = sym c.is_at.ensures ∙ c.if-is_at.false in
    let f : length hs < length ps =
    fewer_hits hs ps c.args.hit c.requires.placed (none_of hs ps c.requires.placed c.args.hit.doc.0 c.index.result.now known out)
    c.requires.above c.requires.within in
    let r = c.requires.room.room in
    omega (arith, f, r)

pub returns-then-is_at-clause-hits : goal.returns-then-is_at-clause-hits
returns-then-is_at-clause-hits c =
    let hs = c.args.self.now.hits.items in
    let ps = c.args.self.now.places.items in
    let known : slice_get ps (c.args.hit.doc.0 - 1) ≡ Some c.index.result.now =
    known_at ps c.args.hit.doc.0 c.index.result.now c.requires.above c.requires.within c.index.ensures in
    c.lower_at.ensures.hits
    ∙ sym (kept_lower hs ps c.args.hit c.index.result.now c.args.hit c.requires.placed known (sym c.is_at.ensures ∙ c.if-is_at.true))

pub returns-then-is_at-clause-placed : goal.returns-then-is_at-clause-placed
returns-then-is_at-clause-placed c =
    let hs = c.args.self.now.hits.items in
    let ps = c.args.self.now.places.items in
    let known : slice_get ps (c.args.hit.doc.0 - 1) ≡ Some c.index.result.now =
    known_at ps c.args.hit.doc.0 c.index.result.now c.requires.above c.requires.within c.index.ensures in
    placed_as _ _ _ _ c.lower_at.ensures.hits c.lower_at.ensures.places
    (placed_lower hs ps c.args.hit c.index.result.now c.args.hit c.requires.placed known (sym c.is_at.ensures ∙ c.if-is_at.true))

pub returns-else-is_at-clause-hits : goal.returns-else-is_at-clause-hits
returns-else-is_at-clause-hits c =
    let hs = c.args.self.now.hits.items in
    let ps = c.args.self.now.places.items in
    let known : slice_get ps (c.args.hit.doc.0 - 1) ≡ Some c.index.result.now =
    known_at ps c.args.hit.doc.0 c.index.result.now c.requires.above c.requires.within c.index.ensures in
    c.append.ensures.hits
    ∙ sym (kept_append hs ps c.args.hit c.index.result.now c.requires.placed known (sym c.is_at.ensures ∙ c.if-is_at.false))

pub returns-else-is_at-clause-placed : goal.returns-else-is_at-clause-placed
returns-else-is_at-clause-placed c =
    let hs = c.args.self.now.hits.items in
    let ps = c.args.self.now.places.items in
    let known : slice_get ps (c.args.hit.doc.0 - 1) ≡ Some c.index.result.now =
    known_at ps c.args.hit.doc.0 c.index.result.now c.requires.above c.requires.within c.index.ensures in
    let out : has_hit_at hs c.index.result.now c.args.hit.doc.0 ≡ false = sym c.is_at.ensures ∙ c.if-is_at.false in
    placed_as _ _ _ _ c.append.ensures.hits c.append.ensures.places (placed_append hs ps c.args.hit c.requires.placed
    (none_of hs ps c.requires.placed c.args.hit.doc.0 c.index.result.now known out) c.requires.above c.requires.within)
