use Rattle.std.proofs.Common.{rules, ◌≡◌}
use Rattle.std.specs.Option.{option_copied}
use Rattle.tap_engine.proofs.FilterLaws.{listing_short}
use Rattle.tap_engine.proofs.CostLaws.{list-since}
use Rattle.tap_engine.proofs.engine.Engine.rows_named.Goals as goal

pub returns-clause-short : goal.returns-clause-short
returns-clause-short g c = listing_short (option_copied c.last_filter-filter.result)
    c.args.self.now.index.docs c.as_slice-2.result.now c.in_ok-rows.rows c.in_ok-rows.ensures.rows

pub returns-in_err-rows-clause-steps : goal.returns-in_err-rows-clause-steps
returns-in_err-rows-clause-steps g c =
    let same : c.as_slice-2.result.now ≡ c.in_ok-kept.kept.now.entries = search rules in
    list-since c.args.self.now c.args.name.now c.in_ok-kept.kept.now c.as_slice-2.result.now c.rate.new.steps c.args.steps.now
    c.in_ok-kept.ensures.ok same c.rate.ensures.steps

pub returns-clause-steps : goal.returns-clause-steps
returns-clause-steps g c =
    let same : c.as_slice-2.result.now ≡ c.in_ok-kept.kept.now.entries = search rules in
    list-since c.args.self.now c.args.name.now c.in_ok-kept.kept.now c.as_slice-2.result.now c.rate.new.steps c.args.steps.now
    c.in_ok-kept.ensures.ok same c.rate.ensures.steps
