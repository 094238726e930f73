use Rattle.std.proofs.Common.{rules, ◌≡◌}
use Rattle.std.specs.Str.{bytes_eq}
use Rattle.row_index.specs.Places.{posted}
use Rattle.row_index.proofs.PostLaws.{posted_step}
use Rattle.row_index.proofs.postings.Postings.add_all.Goals as goal

pub loop-key-preserved : goal.loop-key-preserved
loop-key-preserved c =
    let next : c.add.new.self ≡ posted bytes_eq c.key-item.result c.args.place c.loop-key.self = search rules in
    posted_step bytes_eq c.args.keys.now c.loop-key.key-index c.key-item.result c.key-item.result c.args.place _ _ _
    c.loop-key-test.true c.key-item.is c.loop-key.invariant next
