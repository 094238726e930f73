use Rattle.std.proofs.Common.{◌≡◌, ◌-◌, subst, rules, to_z, of_z, w64, slice_index_or, OnOk}
use Rattle.tap_kept.specs.Keeping.{ChangesAt}
use Rattle.tap_kept.specs.Starting.{with_entry}
use Rattle.tap_kept.proofs.deliveries.add_pick.Goals as goal

pub returns : goal.returns
returns c =
    let pick = c.args.pick.now in
    let same : to_z w64 (of_z w64 pick.first) ≡ pick.first = search rules in
    subst
    (λ first. OnOk c.add_entry.result (ChangesAt (pick.query.0 - 1)
    (with_entry (record { doc = pick.doc; first = first; run = slice_index_or c.args.ordinals.now (pick.run - 1) 0 }))
    c.args.queries.now c.add_entry.new.self))
    same
    c.add_entry.ensures.kept
