use Rattle.std.proofs.Common.{rules, ◌≡◌}
use Rattle.std.specs.Ordering.{is_lt}
use Rattle.std.proofs.lemmas.Fn.{always_returns_same}
use Rattle.tap_rows.specs.Votes.{score_is_before}
use Rattle.vote_scores.proofs.SortedScores.{is_order, sorted_is}
use Rattle.vote_scores.proofs.counts.put_in_order.Goals as goal

pub returns : goal.returns
returns c =
    let sorted = c.sort_unstable_by.ensures.sorted score_is_before is_order
    (always_returns_same _ (λ a r. is_lt r ≡ score_is_before a.0.now a.1.0.now) _ (λ a r q k. search rules)) in
    sorted_is _ _ c.sort_unstable_by.ensures.permutation c.requires sorted
