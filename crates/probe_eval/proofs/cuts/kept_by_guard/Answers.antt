use Rattle.std.proofs.Common.{rules, ◌≡◌, subst, sym}
use Rattle.tap_rows.specs.declared.rows.Doc.{Doc}
use Rattle.tql_core.specs.declared.atom.Atom.TheVariants.{Numbers, Times}
use Rattle.tql_core.specs.Row.{OfDoc}
use Rattle.probe_eval.specs.Cuts.{passes_test, passes_cut}
use Rattle.probe_eval.proofs.cuts.kept_by_guard.Goals as goal

pub returns-in-Times : goal.returns-in-Times
returns-in-Times c =
    let e : c.args.guard.now ≡ Times c.in-Times.x c.in-Times.op c.in-Times.y = search rules in
    subst (λ a. (d : Doc) → passes_test c.kept_by_times.result d ≡ passes_cut c.args.var c.args.env.now a (OfDoc d)) (sym e)
    c.kept_by_times.ensures

pub returns-in-Numbers : goal.returns-in-Numbers
returns-in-Numbers c =
    let e : c.args.guard.now ≡ Numbers c.in-Numbers.x c.in-Numbers.op c.in-Numbers.y = search rules in
    subst (λ a. (d : Doc) → passes_test c.kept_by_numbers.result d ≡ passes_cut c.args.var c.args.env.now a (OfDoc d)) (sym e)
    c.kept_by_numbers.ensures
