use Rattle.std.proofs.Common.{◌∙◌, sym, ap}
use Rattle.std.specs.Prelude.{not}
use Rattle.restart_core.proofs.EarlierLaws.{name-among, name-added, same-name}
use Rattle.restart_core.proofs.names.Names.add.Goals as goal

pub returns-clause-new : goal.returns-clause-new
returns-clause-new c = λ queries is.
    let made = same-name c.in_ok-owner.owner c.in_ok-name.name c.args.query.now c.in_ok-owner.ensures c.in_ok-name.ensures in
    c.in_ok-insert.ensures.added ∙ ap not (name-among c.self.inside.set.keys _ c.args.query.now queries made (c.self.view_is ∙ is))

pub returns-clause-names : goal.returns-clause-names
returns-clause-names c = λ queries is new.
    let made = same-name c.in_ok-owner.owner c.in_ok-name.name c.args.query.now c.in_ok-owner.ensures c.in_ok-name.ensures in
    c.in_ok-insert.ensures.keys
    ∙ name-added c.self.inside.set.keys _ c.args.query.now queries made (c.self.view_is ∙ is) (sym c.in_ok-insert.ensures.added ∙ new)
