use Rattle.std.proofs.Common.{rules, ◌≡◌, true, length}
use Rattle.little_box.specs.Boxes.{is_in}
use Rattle.query_eval.specs.Lowest.{with_hit}
use Rattle.query_eval.proofs.StableHits.{done_by_box, done_by_hit}
use Rattle.query_eval.proofs.behind.is_done.Goals as goal

pub returns-then-has : goal.returns-then-has
returns-then-has c = λ t d q.
    let i : is_in c.args.num.0 c.args.search.now.seen.now ≡ true = search rules in
    done_by_box c.args.search.now.seen.now (length c.args.into.now.places.items) c.args.into.now.hits.items c.args.mark d c.args.num q i

pub returns : goal.returns
returns c = λ t d q.
    let by = c.has_lower.ensures.same t in
    let h : with_hit (length c.args.into.now.places.items) c.args.into.now.hits.items (record { doc = c.args.num; first = c.args.mark })
    ≡ c.args.into.now.hits.items = search (rules, by) in
    done_by_hit c.args.search.now.seen.now (length c.args.into.now.places.items) c.args.into.now.hits.items c.args.mark d c.args.num q h
