use Rattle.std.proofs.Common.{◌∙◌, sym, ap}
use Rattle.restart_core.specs.Damages.{damage_of}
use Rattle.restart_core.proofs.DamageLaws.{formed}
use Rattle.restart_core.proofs.sound.Sound.into_parts.Goals as goal

pub returns-clause-formed : goal.returns-clause-formed
returns-clause-formed c = formed c.args.self (ap damage_of (sym c.self.view_is) ∙ c.self.invariant.0)
