use Rattle.std.proofs.Common.{◌≡◌, ◌∙◌, ap, rules, pos, to_z, of_z, w64}
use Rattle.std.specs.Prelude.{unwrap_or}
use Rattle.std.specs.Result.{result_ok}
use Rattle.tap_base.specs.Numbers.{moment_of}
use Rattle.tql_types.proofs.Moments.{found-is}
use Rattle.tql_types.proofs.Ranges.{moment-range, kept-range}
use Rattle.tql_types.proofs.clock.second_of.Goals as goal

pub returns-clause-value : goal.returns-clause-value
returns-clause-value c =
    let plain : to_z w64 (of_z w64 c.unwrap_or.result) ≡ c.unwrap_or.result = search rules in
    plain ∙ c.unwrap_or.ensures
    ∙ ap (λ o. unwrap_or o (pos 0)) (c.ok.ensures.value ∙ ap result_ok c.read_moment.ensures ∙ found-is (moment_of c.args.text.now))

pub returns-clause-low : goal.returns-clause-low
returns-clause-low c = rw (returns-clause-value c) (kept-range (moment_of c.args.text.now) (moment-range c.args.text.now)).0

pub returns-clause-high : goal.returns-clause-high
returns-clause-high c = rw (returns-clause-value c) (kept-range (moment_of c.args.text.now) (moment-range c.args.text.now)).1
