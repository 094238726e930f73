use Rattle.std.proofs.Common.{◌≡◌, rules, sym, subst}
use Rattle.tql_core.specs.Condition.{condition}
use Rattle.time_marks.specs.Views.{probes_of}
use Rattle.monotone_rewrite.specs.Laws.{IsUnionOf, AreProbes}
use Rattle.delta_rewrite.specs.Delta.{delta_window}
use Rattle.delta_rewrite.proofs.Deltas.{delta_is_union, delta_keeps_scopes}
use Rattle.delta_rewrite.proofs.window.delta_from.Goals as goal

pub returns-clause-is_union : goal.returns-clause-is_union
returns-clause-is_union c =
    let w : probes_of c.in_ok-query.query ≡ delta_window (condition c.args.cond.now) c.args.start = search rules in
    subst (λ X. IsUnionOf (condition c.args.cond.now) c.args.start X) (sym w)
    (delta_is_union (condition c.args.cond.now) c.args.start c.requires.query.scoped c.requires.from_zero)

pub returns-clause-scopes : goal.returns-clause-scopes
returns-clause-scopes c =
    let w : probes_of c.in_ok-query.query ≡ delta_window (condition c.args.cond.now) c.args.start = search rules in
    subst AreProbes (sym w) (delta_keeps_scopes (condition c.args.cond.now) c.args.start c.requires.query.scoped)
