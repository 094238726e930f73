use Rattle.std.proofs.Common.{◌≡◌, ◌∙◌, sym, subst, rules}
use Rattle.std.specs.List.Sorted.{IsSortedBy, IsStableBy, ties}
use Rattle.std.proofs.lemmas.List.Sorted.{answers_always}
use Rattle.appraiser.specs.Ranks.{rank_of}
use Rattle.filter_rules.specs.Listings.{is_above}
use Rattle.appraiser.proofs.Sorting.{is_sorted, same_sorted, same_stable}
use Rattle.appraiser.proofs.RowOrder.{above_order, above_ranked}
use Rattle.appraiser.proofs.listings.sort_rows.Goals as goal

pub returns : goal.returns
returns c =
    let keys = answers_always _ _ _ (λ f a r next called. search rules) in
    is_sorted is_above above_order c.args.rows.now.items c.sort_by_key.new.self.items
    (same_sorted _ is_above above_ranked _ (c.in_ok-sort_by_key.ensures.sorted rank_of keys))
    (same_stable _ is_above above_ranked _ _ (c.sort_by_key.ensures.stable rank_of keys))
