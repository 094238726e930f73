use Rattle.std.proofs.Common.{rules, ◌≡◌, false}
use Rattle.tql_core.specs.Row.{OfDoc}
use Rattle.probe_eval.specs.Cuts.{is_half_guard, passes_test, passes_cut}
use Rattle.probe_eval.proofs.CutLaws.{kept_as, none_by_half}
use Rattle.probe_eval.proofs.cuts.cut_by.Goals as goal

pub returns-then-is_half_guard : goal.returns-then-is_half_guard
returns-then-is_half_guard c =
    kept_as (passes_test c.kept_by_guard.result) (λ d. passes_cut c.args.var c.args.env.now c.args.guard.now (OfDoc d))
    c.args.docs c.kept.result c.kept_by_guard.ensures c.kept.ensures

pub returns-else-is_half_guard : goal.returns-else-is_half_guard
returns-else-is_half_guard c =
    let h : is_half_guard c.args.guard.now ≡ false = search rules in
    none_by_half c.args.var c.args.env.now c.args.guard.now c.args.docs h
