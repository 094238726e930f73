use Rattle.std.proofs.Common.{◌≡◌, ◌∙◌, ap, sym, length, arith}
use Rattle.std.proofs.lemmas.List.{length-map}
use Rattle.row_index.proofs.CutLaws.{cut_none, cut_next, cut_whole}
use Rattle.row_index.proofs.postings.Postings.cut.Goals as goal

pub loop-at-init : goal.loop-at-init
loop-at-init c = cut_none c.args.len c.args.self.now

pub loop-at-preserved : goal.loop-at-preserved
loop-at-preserved c = cut_next c.args.len c.loop-at.at c.args.self.now c.loop-at.self c.cut_at.new.self c.loop-at.invariant c.cut_at.ensures

pub returns : goal.returns
returns c =
    let all : length c.args.self.now ≡ c.len-at-end.result = ap length (sym c.self.view_is) ∙ length-map c.self.inside.places.entries _
    ∙ sym c.len-at-end.ensures.len in
    let past = c.loop-at-test.false in
    cut_whole c.args.len c.loop-at.at c.args.self.now c.loop-at.self c.loop-at.invariant (omega (arith, all, past))
