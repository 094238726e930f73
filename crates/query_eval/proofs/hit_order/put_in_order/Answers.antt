use Rattle.std.proofs.Common.{rules, ◌≡◌}
use Rattle.std.specs.Ordering.{is_lt}
use Rattle.std.proofs.lemmas.Fn.{always_returns_same}
use Rattle.tap_rows.specs.Results.{is_before}
use Rattle.query_eval.proofs.SortedHits.{is_order, same_hits, sorted_in_order}
use Rattle.query_eval.proofs.hit_order.put_in_order.Goals as goal

pub returns-clause-order : goal.returns-clause-order
returns-clause-order c = sorted_in_order _ _ c.sort_unstable_by.ensures.permutation c.requires (c.sort_unstable_by.ensures.sorted is_before
    is_order (always_returns_same _ (λ a r. is_lt r ≡ is_before a.0.now a.1.0.now) _ (λ a r q k. search rules)))

pub returns-clause-same : goal.returns-clause-same
returns-clause-same c = same_hits _ _ c.sort_unstable_by.ensures.permutation c.requires
