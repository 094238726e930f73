use Rattle.std.proofs.Common.{◌∙◌, sym}
use Rattle.incremental_rewrite.proofs.Kept.{kept_there, kept_new}
use Rattle.incremental_rewrite.proofs.ranges.keep.Goals as goal

pub returns-then-has_equal : goal.returns-then-has_equal
returns-then-has_equal c = kept_there c.args.parts.now c.args.probe (sym c.has_equal.ensures ∙ c.if-has_equal.true)

pub returns : goal.returns
returns c = kept_new c.args.parts.now c.push.new.self _ (sym c.has_equal.ensures ∙ c.if-has_equal.false) c.in_ok-push.ensures.ok
