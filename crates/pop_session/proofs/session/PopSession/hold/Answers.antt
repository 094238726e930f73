use Rattle.std.proofs.Common.{sym, subst}
use Rattle.mail_lines.specs.Lines.{NoEnd}
use Rattle.pop_session.proofs.Pieces.{NoEnd-grown}
use Rattle.pop_session.proofs.session.PopSession.hold.Goals as goal

pub invariant_of-self : goal.invariant_of-self
invariant_of-self c = (
  subst NoEnd (sym c.grow.ensures)
      (NoEnd-grown c.self.inside.front.items c.args.bytes.now c.self.invariant.0 c.requires),
  c.self.invariant.1,
)
