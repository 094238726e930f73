use Rattle.std.proofs.Common.{ap, ◌∙◌}
use Rattle.std.specs.Result.{result_ok}
use Rattle.tap_engine.proofs.Moments.{moment-ok}
use Rattle.tap_engine.proofs.sessions.second_of.Goals as goal

pub returns : goal.returns
returns c = c.ok.ensures.value ∙ ap result_ok c.read_moment.ensures ∙ moment-ok _
