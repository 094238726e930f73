use Rattle.std.proofs.Common.{rules, ◌≡◌, length, take, drop, ◌++◌, sym, ap, subst, ◌∙◌}
use Rattle.std.proofs.Math.Seq.{take-append_seam}
use Rattle.query_eval.specs.HitLists.{HitsAreApart}
use Rattle.query_eval.proofs.Meanings.{finished}
use Rattle.query_eval.proofs.PlacedLaws.{apart_placed}
use Rattle.query_eval.proofs.least_hits.LeastHits.finish.Goals as goal

pub put_in_order-requires : goal.put_in_order-requires
put_in_order-requires c =
    let e : c.deref_mut.result.now ≡ c.args.self.now.hits.items = search rules in
    subst HitsAreApart (sym e) (apart_placed _ _ c.requires.placed)

pub returns-clause-meaning : goal.returns-clause-meaning
returns-clause-meaning c = λ seen X T w hits k a f.
    let e : c.deref_mut.result.now ≡ c.args.self.now.hits.items = search rules in
    let n : c.args.self.now.hits.len ≡ length c.put_in_order.new.hits = search rules in
    let r = finished seen X T w hits
    c.deref_mut.result.now c.put_in_order.new.hits c.put_in_order.ensures.same c.put_in_order.ensures.order (e ∙ k) a f in
    ap (λ z. take z (c.put_in_order.new.hits ++ drop (length c.put_in_order.new.hits) c.args.self.now.hits.items)) n
    ∙ take-append_seam c.put_in_order.new.hits _ ∙ r
