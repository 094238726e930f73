use Rattle.std.proofs.Common.{rules, ◌≡◌, drop, length}
use Rattle.probe_eval.specs.declared.cuts.CutTest.TheVariants as K
use Rattle.probe_eval.proofs.CutLaws.{sorted_by, kept_whole, kept_cut, kept_none}
use Rattle.probe_eval.proofs.cuts.kept.Goals as goal

pub returns-in-All : goal.returns-in-All
returns-in-All c =
    let e : c.args.by ≡ K.All = search rules in
    kept_whole c.args.by c.args.docs e

pub cut-requires : goal.cut-requires
cut-requires c = sorted_by c.in-By.cut.order c.args.docs c.requires

pub returns-in-By : goal.returns-in-By
returns-in-By c =
    let e : c.args.by ≡ K.By c.in-By.cut = search rules in
    kept_cut c.args.by c.in-By.cut c.args.docs _ e c.cut.ensures

pub returns-in-None : goal.returns-in-None
returns-in-None c =
    let e : c.args.by ≡ K.None = search rules in
    let d : c.skip.result ≡ drop (length c.args.docs) c.args.docs = search rules in
    kept_none c.args.by c.args.docs _ e d
