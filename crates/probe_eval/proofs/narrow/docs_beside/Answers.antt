use Rattle.std.proofs.Common.{rules, ◌≡◌, filter, length}
use Rattle.std.specs.Prelude.{int_le}
use Rattle.tql_core.specs.Row.{OfDoc}
use Rattle.probe_eval.specs.StepRows.{passes_step}
use Rattle.probe_eval.proofs.CutLaws.{none_of_none}
use Rattle.probe_eval.proofs.NarrowLaws.{still_in_order, come_cut, mark_cut}
use Rattle.probe_eval.proofs.narrow.docs_beside.Goals as goal

pub returns-then-none : goal.returns-then-none
returns-then-none c =
    let e : length c.args.docs ≡ 0 = search rules in
    none_of_none (λ d. passes_step c.args.var c.args.mark c.args.env.now c.args.path.now (OfDoc d)) c.args.docs e

pub cut-come-requires : goal.cut-come-requires
cut-come-requires c = c.requires.arrivals

pub cut_path-requires : goal.cut_path-requires
cut_path-requires c =
    let by : c.cut-come.result ≡ filter (λ d. int_le d.arrival c.args.mark) c.args.docs =
    come_cut _ c.args.mark c.args.docs c.cut-come.result c.cut-come.ensures (search rules) in
    still_in_order (λ d. int_le d.arrival c.args.mark) c.args.docs c.cut-come.result by c.requires

pub returns : goal.returns
returns c =
    let by : c.cut-come.result ≡ filter (λ d. int_le d.arrival c.args.mark) c.args.docs =
    come_cut _ c.args.mark c.args.docs c.cut-come.result c.cut-come.ensures (search rules) in
    mark_cut c.args.var c.args.env.now c.args.mark c.args.path.now c.args.docs c.cut-come.result c.cut_path.result by c.cut_path.ensures
