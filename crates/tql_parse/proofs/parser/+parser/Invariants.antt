use Rattle.std.proofs.Common.{◌≡◌, ◌+◌, ◌*◌, length}
use Rattle.tql_tree.specs.Syntax.{syntax, Or, And}
use Rattle.tql_parse.specs.Keys.{is_and, is_or}
use Rattle.tql_parse.specs.Reading.{unit_at, conj_with, conj_at, cond_at, chained}
use Rattle.tql_parse.proofs.parser.+parser.Given as goal

abbrev pub decreases-unit : goal.decreases-unit
decreases-unit l = 5 * l.levels

abbrev pub decreases-negated : goal.decreases-negated
decreases-negated l = 5 * l.levels + 1

abbrev pub decreases-conj : goal.decreases-conj
decreases-conj l = 5 * l.levels + 1

abbrev pub decreases-cond : goal.decreases-cond
decreases-cond l = 5 * l.levels + 2

abbrev pub decreases-group : goal.decreases-group
decreases-group l = 5 * l.levels + 3

abbrev pub decreases-exists : goal.decreases-exists
decreases-exists l = 5 * l.levels + 4

-- what is left follows the parts so far
abbrev pub invariant-cond-loop-alloc : goal.invariant-cond-loop-alloc
invariant-cond-loop-alloc l = cond_at l.levels l.tokens ≡ chained is_or Or (conj_with (unit_at l.levels)) (syntax l.left) l.rest

abbrev pub decreases-cond-loop-alloc : goal.decreases-cond-loop-alloc
decreases-cond-loop-alloc l = length l.rest

abbrev pub invariant-conj-loop-alloc : goal.invariant-conj-loop-alloc
invariant-conj-loop-alloc l = conj_at l.levels l.tokens ≡ chained is_and And (unit_at l.levels) (syntax l.left) l.rest

abbrev pub decreases-conj-loop-alloc : goal.decreases-conj-loop-alloc
decreases-conj-loop-alloc l = length l.rest
