use borrow.Author.Rules.{of_calls}
use Rattle.std.proofs.Common.{arith, ◌≡◌, ◌+◌, ◌-◌, true, false, refl, sym}
use Rattle.std.proofs.iter.Next.{called}
use Rattle.std.proofs.slice.Orders.{answers_next}
use Rattle.std.proofs.slice.Searches.{at_read}
use Rattle.row_index.proofs.FromEnd.{fails_on, passes_to, cut_of_part, cut_of_front}
use Rattle.row_index.proofs.from_end.partition_point_from_end.Goals as goal

pub loop-width-init : goal.loop-width-init
loop-width-init g c = (omega arith, omega arith, omega arith, search of_calls, λ p h part. (h, λ k d a b. absurd (omega (arith, a, b))))

pub returns-then-pred-clause-partitioned : goal.returns-then-pred-clause-partitioned
returns-then-pred-clause-partitioned g c =
    let xs = c.args.rows.now in
    let end = c.loop-width.end in
    let start = end - c.loop-width.width in
    let made = called g.P.FnMut c.if-pred.ensures refl in
    λ p h part.
    let i = c.loop-width.invariant.4 p h part in
    let n = answers_next g.P.FnMut _ _ _ _ _ made i.0 in
    let passes = at_read xs (λ y. p y ≡ true) start c.index-rows-start.result (omega arith) c.index-rows-start.is (sym n.0) in
    cut_of_part p xs part (start + 1) (end - (start + 1)) c.partition_point.result (omega arith)
    c.partition_point.ensures.bound (passes_to p xs part start (omega arith) passes) (λ k d a b. i.1 k d (omega (arith, a)) b)
    (c.partition_point.ensures.partitioned p n.1)

pub loop-width-preserved : goal.loop-width-preserved
loop-width-preserved g c =
    let xs = c.args.rows.now in
    let start = c.loop-width.end - c.loop-width.width in
    let made = called g.P.FnMut c.if-pred.ensures refl in (
      omega arith,
      omega arith,
      omega arith,
      search of_calls,
      λ p h part.
          let i = c.loop-width.invariant.4 p h part in
          let n = answers_next g.P.FnMut _ _ _ _ _ made i.0 in
          let fails = at_read xs (λ y. p y ≡ false) start c.index-rows-start.result (omega arith) c.index-rows-start.is (sym n.0) in
          (n.1, fails_on p xs part start fails),
    )

pub returns-clause-partitioned : goal.returns-clause-partitioned
returns-clause-partitioned g c =
    let xs = c.args.rows.now in
    λ p h part.
    let i = c.loop-width.invariant.4 p h part in
    cut_of_front p xs part c.loop-width.end c.partition_point-2.result c.loop-width.invariant.0 c.partition_point-2.ensures.bound i.1
    (c.partition_point-2.ensures.partitioned p i.0)
