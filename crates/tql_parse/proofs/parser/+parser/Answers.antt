use Rattle.std.proofs.Common.{sym, ◌<◌, ◌∙◌, rules, arith, length, drop, length-drop}
use Rattle.tql_tree.specs.Syntax.{syntax, Or, And}
use Rattle.tql_parse.specs.Keys.{is_and, is_or}
use Rattle.tql_parse.specs.Reading.{unit_at, conj_with, conj_at, cond_at}
use Rattle.tql_parse.proofs.Chains.{chain_more}
use Rattle.tql_parse.proofs.Lengths.{unit_shrinks, conj_shrinks}
use Rattle.tql_parse.proofs.Units.{unit_end, unit_true, unit_false, unit_compare, unit_not, unit_group, unit_exists, not_deep, group_deep}
use Rattle.tql_parse.proofs.Units.{exists_deep, fails_itself}
use Rattle.tql_parse.proofs.parser.+parser.Goals as goal

pub cond-loop-alloc-smaller : goal.cond-loop-alloc-smaller
cond-loop-alloc-smaller t c =
    let less = conj_shrinks c.args.levels (drop 1 c.loop-alloc.rest.now) (syntax c.in_ok-right.right, c.in_ok-right.after.now)
    (rw c.behind.ensures at c.in_ok-right.ensures) in
    let short : length c.in_ok-right.after.now < length c.loop-alloc.rest.now = omega (arith, less, length-drop 1 c.loop-alloc.rest.now) in
    short

pub cond-loop-alloc-preserved : goal.cond-loop-alloc-preserved
cond-loop-alloc-preserved t c = rw (c.in_ok-new.ensures.ok, c.in_ok-new-2.ensures.ok)
    (chain_more is_or Or (conj_with (unit_at c.args.levels)) (conj_shrinks c.args.levels) (syntax c.loop-alloc.left)
    (syntax c.in_ok-right.right) c.loop-alloc.rest.now c.in_ok-right.after.now (cond_at c.args.levels c.args.tokens.now) (search rules)
    c.loop-alloc.invariant (rw c.behind.ensures at c.in_ok-right.ensures))

pub conj-loop-alloc-smaller : goal.conj-loop-alloc-smaller
conj-loop-alloc-smaller t c =
    let less = unit_shrinks c.args.levels (drop 1 c.loop-alloc.rest.now) (syntax c.in_ok-right.right, c.in_ok-right.after.now)
    (rw c.behind.ensures at c.in_ok-right.ensures) in
    let short : length c.in_ok-right.after.now < length c.loop-alloc.rest.now = omega (arith, less, length-drop 1 c.loop-alloc.rest.now) in
    short

pub conj-loop-alloc-preserved : goal.conj-loop-alloc-preserved
conj-loop-alloc-preserved t c = rw (c.in_ok-new.ensures.ok, c.in_ok-new-2.ensures.ok) (chain_more is_and And (unit_at c.args.levels)
    (unit_shrinks c.args.levels) (syntax c.loop-alloc.left) (syntax c.in_ok-right.right) c.loop-alloc.rest.now c.in_ok-right.after.now
    (conj_at c.args.levels c.args.tokens.now) (search rules) c.loop-alloc.invariant (rw c.behind.ensures at c.in_ok-right.ensures))

pub unit-returns-then-levels-eq0 : goal.unit-returns-then-levels-eq0
unit-returns-then-levels-eq0 t c =
    rw (c.deep.ensures, not_deep c.args.levels c.args.tokens.now (sym c.opening_at.ensures ∙ c.in-Negation.is) (omega arith))
    (fails_itself _)

pub unit-returns-then-levels-eq0-2 : goal.unit-returns-then-levels-eq0-2
unit-returns-then-levels-eq0-2 t c = rw (
  c.deep-then-levels-eq0-2.ensures,
  group_deep c.args.levels c.args.tokens.now (sym c.opening_at.ensures ∙ c.in-Group.is) (omega arith),
) (fails_itself _)

pub unit-returns-then-levels-eq0-3 : goal.unit-returns-then-levels-eq0-3
unit-returns-then-levels-eq0-3 t c = rw (
  c.deep-then-levels-eq0-3.ensures,
  exists_deep c.args.levels c.args.tokens.now (sym c.opening_at.ensures ∙ c.in-Quantifier.is) (omega arith),
) (fails_itself _)

pub unit-returns-in-End : goal.unit-returns-in-End
unit-returns-in-End t c = unit_end c.args.levels c.args.tokens.now (sym c.opening_at.ensures ∙ c.in-End.is)

pub unit-returns-in-Truth : goal.unit-returns-in-Truth
unit-returns-in-Truth t c = rw c.behind.ensures (unit_true c.args.levels c.args.tokens.now (sym c.opening_at.ensures ∙ c.in-Truth.is))

pub unit-returns-in-Falsity : goal.unit-returns-in-Falsity
unit-returns-in-Falsity t c =
    rw c.behind-in-Falsity.ensures (unit_false c.args.levels c.args.tokens.now (sym c.opening_at.ensures ∙ c.in-Falsity.is))

pub unit-returns-else-levels-eq0 : goal.unit-returns-else-levels-eq0
unit-returns-else-levels-eq0 t c = rw (unit_not c.args.levels c.args.tokens.now (sym c.opening_at.ensures ∙ c.in-Negation.is) (omega arith))
    (rw c.behind-in-Negation.ensures at c.negated.ensures)

pub unit-returns-else-levels-eq0-2 : goal.unit-returns-else-levels-eq0-2
unit-returns-else-levels-eq0-2 t c =
    rw (unit_group c.args.levels c.args.tokens.now (sym c.opening_at.ensures ∙ c.in-Group.is) (omega arith))
    (rw c.behind-in-Group.ensures at c.group.ensures)

pub unit-returns-else-levels-eq0-3 : goal.unit-returns-else-levels-eq0-3
unit-returns-else-levels-eq0-3 t c =
    rw (unit_exists c.args.levels c.args.tokens.now (sym c.opening_at.ensures ∙ c.in-Quantifier.is) (omega arith))
    (rw c.behind-in-Quantifier.ensures at c.exists.ensures)

pub unit-returns-in-Comparison : goal.unit-returns-in-Comparison
unit-returns-in-Comparison t c =
    rw (unit_compare c.args.levels c.args.tokens.now (sym c.opening_at.ensures ∙ c.in-Comparison.is)) c.compare.ensures
