use Rattle.std.proofs.Common.{◌∙◌, sym, ap}
use Rattle.std.specs.Prelude.{not}
use Rattle.restart_core.proofs.EarlierLaws.{pick-among, pick-added}
use Rattle.restart_core.proofs.picked.Picked.add.Goals as goal

pub returns-clause-new : goal.returns-clause-new
returns-clause-new c = λ picks is. c.in_ok-insert.ensures.added
    ∙ ap not (pick-among c.self.inside.pairs.keys c.args.pick.now picks (c.self.view_is ∙ is))

pub returns-clause-pairs : goal.returns-clause-pairs
returns-clause-pairs c = λ picks is new. c.in_ok-insert.ensures.keys
    ∙ pick-added c.self.inside.pairs.keys c.args.pick.now picks (c.self.view_is ∙ is) (sym c.in_ok-insert.ensures.added ∙ new)
