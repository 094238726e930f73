use Rattle.std.proofs.Common.{◌≡◌, rules, refl, true, drop, drop-cons, sym, subst, ◌∷◌, ◌+◌}
use Rattle.std.proofs.lemmas.Bool.{and_parts}
use Rattle.tql_core.specs.Condition.{condition}
use Rattle.time_marks.specs.Marks.{rising_from}
use Rattle.time_marks.specs.Views.{probes_in}
use Rattle.monotone_rewrite.proofs.Bounded.{bounded_marks, rising_bounded}
use Rattle.monotone_rewrite.proofs.ProbeLists.{next_mark}
use Rattle.monotone_rewrite.proofs.window_query.window_query.Goals as goal

pub loop-mark-init : goal.loop-mark-init
loop-mark-init c =
    let m : c.as_slice-mark-items.result.now ≡ rising_from (condition c.args.cond.now) c.args.start = search rules in
    let bounded : bounded_marks c.as_slice-mark-items.result.now ≡ true = subst (λ ms. bounded_marks ms ≡ true) (sym m)
    (rising_bounded (condition c.args.cond.now) c.args.start c.requires.query.bounded c.requires.from_zero c.requires.to_last) in
    record { probes = rw c.new-probes.ensures refl; kept = rw c.new-probes.ensures refl; bounded = bounded }

pub loop-mark-preserved : goal.loop-mark-preserved
loop-mark-preserved c =
    let ms = c.as_slice-mark-items.result.now in
    let i = c.loop-mark.mark-index in
    let first : drop i ms ≡ c.mark-item.result ∷ drop (i + 1) ms = search (rules, drop-cons) in
    let bounded : bounded_marks (c.mark-item.result ∷ drop (i + 1) ms) ≡ true =
    subst (λ z. bounded_marks z ≡ true) first c.loop-mark.invariant.bounded in
    record {
      probes =
          next_mark (condition c.args.cond.now) ms (drop (i + 1) ms) i c.mark-item.result (probes_in c.loop-mark.pool c.loop-mark.probes)
          (probes_in c.add_probe.new.pool c.add_probe.new.probes) c.loop-mark.invariant.probes first c.in_ok-add_probe.ensures.probes;
      kept = c.in_ok-add_probe.ensures.kept;
      bounded = (and_parts _ _ bounded).1;
    }
