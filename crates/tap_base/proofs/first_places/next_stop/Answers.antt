use Rattle.std.proofs.Common.{◌∙◌, arith}
use Rattle.tap_base.specs.declared.first_places.Gap.{Gap}
use Rattle.tap_base.proofs.FirstLaws.{gap-fits, gap-passed, gap-stopped}
use Rattle.tap_base.proofs.first_places.next_stop.Goals as goal
use Rattle.tap_base.proofs.first_places.next_stop.Goals.{else-gap-tag-via-then-gap-tag+else-gap, else-gap-tag-via-else-gap-tag}

abbrev no_gap : Gap
no_gap = record { len = 0; tag = 0 }

pub overflow_add-at : goal.overflow_add-at
overflow_add-at c =
    let fits = gap-fits c.args.gaps.now c.loop-i.i c.loop-i.at no_gap (omega arith) c.loop-i.invariant.fits in
    omega (arith, fits)

pub returns-then-gap-clause-places : goal.returns-then-gap-clause-places
returns-then-gap-clause-places c =
    c.loop-i.invariant.places
    ∙ gap-stopped c.args.gaps.now c.loop-i.i c.loop-i.at no_gap (omega arith) c.args.tag c.if-gap-tag.true c.if-gap.true

pub returns-then-gap-clause-fits : goal.returns-then-gap-clause-fits
returns-then-gap-clause-fits c = gap-fits c.args.gaps.now c.loop-i.i c.loop-i.at no_gap (omega arith) c.loop-i.invariant.fits

pub loop-i-preserved : goal.loop-i-preserved
loop-i-preserved c =
    record {
      places = c.loop-i.invariant.places
          ∙ gap-passed c.args.gaps.now c.loop-i.i c.loop-i.at no_gap (omega arith) c.args.tag
          (elim c.else-gap-tag.branch [
            | else-gap-tag-via-then-gap-tag+else-gap w ↦ λ _. w.if-gap.false
            | else-gap-tag-via-else-gap-tag w ↦ λ e. absurd (w.if-gap-tag.false e)
          ]);
      fits = gap-fits c.args.gaps.now c.loop-i.i c.loop-i.at no_gap (omega arith) c.loop-i.invariant.fits;
    }
