use Rattle.std.proofs.Common.{ap, ◌++◌}
use Rattle.tap_edges.proofs.Puts.{Put-as}
use Rattle.script_lang.specs.Replies.{rest_lines}
use Rattle.script_lang.proofs.put.put_all.Goals as goal

pub returns : goal.returns
returns g c = Put-as g.K.Sink _ _ _ _ _ _ (ap (λ xs. xs ++ rest_lines c.args.reply.now) c.first_line.ensures) c.put_lines.ensures
