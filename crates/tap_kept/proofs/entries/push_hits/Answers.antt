use Rattle.std.proofs.Common.{rules, ◌≡◌, ◌++◌, ◌∷◌, [], pos}
use Rattle.std.specs.Prelude.{slice_index_or}
use Rattle.tap_rows.specs.declared.results.Hit.{Hit}
use Rattle.tap_rows.specs.Results.{entry_at}
use Rattle.tap_kept.proofs.NewLaws.{one-added}
use Rattle.tap_kept.proofs.entries.push_hits.Goals as goal

pub loop-hit-preserved : goal.loop-hit-preserved
loop-hit-preserved c =
    let d : Hit = record { doc = record { 0 = 0 }; first = pos 0 } in
    let inv = c.loop-hit.invariant in
    let is : c.add_entry.new.entries
    ≡ c.loop-hit.entries ++ entry_at c.args.run (slice_index_or c.args.hits.now c.loop-hit.hit-index d) ∷ [] = search rules in
    let added = one-added c.args.entries.now c.loop-hit.entries c.add_entry.new.entries c.args.run c.loop-hit.hit-index c.args.hits.now d
    c.loop-hit-test.true is inv.all inv.back inv.more inv.new in
    record { all = added.all; back = added.back; new = added.new; more = added.more }
