use Rattle.std.proofs.Common.{rules, ◌≡◌, ◌+◌, ◌≤◌, ◌∙◌, [], ◌∷◌, pos, Bool, true, false, refl, sym, ap, subst, arith}
use Rattle.std.specs.Prelude.{IfSome}
use Rattle.tql_core.specs.Bindings.{row_of}
use Rattle.tql_core.specs.Condition.{All, Exists}
use Rattle.tql_core.specs.Holds.{truth}
use Rattle.tql_core.specs.Row.{Row}
use Rattle.tql_core.specs.Values.{bind}
use Rattle.probe_eval.specs.Answers.{IsWhyFalse}
use Rattle.probe_eval.specs.Work.{work, exists_work}
use Rattle.probe_eval.specs.Conjuncts.{fixed_part, own_part}
use Rattle.probe_eval.proofs.AnswerLaws.{why_itself, why_inner, why_left, why_right, why_fixed, if_false}
use Rattle.probe_eval.proofs.ConjunctLaws.{fixed_false, own_true, own_false, later_steps, own_steps, fixed_steps}
use Rattle.probe_eval.proofs.Inner.{no_row, first_row, later_row}
use Rattle.probe_eval.proofs.RestSteps.{any_step}
use Rattle.probe_eval.proofs.Steps.{until_step, until_end}
use Rattle.probe_eval.proofs.Witnesses.{walked_work, first_steps, further_steps}
use Rattle.probe_eval.specs.Searches.{condition_at}
use Rattle.probe_eval.proofs.bodies.+bodies.Goals as goal

pub why_false-returns-in-False-clause-why : goal.why_false-returns-in-False-clause-why
why_false-returns-in-False-clause-why g t c =
    let f : truth c.args.search.now.index.now (pos 0) (condition_at c.args.search.now c.args.body.0) c.args.env.now ≡ false =
    search rules in
    why_itself c.args.search.now c.args.body.0 c.args.env.now c.requires.node f

pub why_false-returns-else-true_atom-clause-why : goal.why_false-returns-else-true_atom-clause-why
why_false-returns-else-true_atom-clause-why g t c =
    let f : truth c.args.search.now.index.now (pos 0) (condition_at c.args.search.now c.args.body.0) c.args.env.now ≡ false =
    search rules in
    why_itself c.args.search.now c.args.body.0 c.args.env.now c.requires.node f

pub why_false-returns-else-body_holds-2-clause-why : goal.why_false-returns-else-body_holds-2-clause-why
why_false-returns-else-body_holds-2-clause-why g t c =
    let f : truth c.args.search.now.index.now (pos 0) (condition_at c.args.search.now c.args.body.0) c.args.env.now ≡ false =
    search rules in
    why_itself c.args.search.now c.args.body.0 c.args.env.now c.requires.node f

pub why_false-returns-then-body_holds-3-clause-why : goal.why_false-returns-then-body_holds-3-clause-why
why_false-returns-then-body_holds-3-clause-why g t c =
    let f : truth c.args.search.now.index.now (pos 0) (condition_at c.args.search.now c.args.body.0) c.args.env.now ≡ false =
    search rules in
    why_itself c.args.search.now c.args.body.0 c.args.env.now c.requires.node f

pub why_false-returns-in-None-clause-why : goal.why_false-returns-in-None-clause-why
why_false-returns-in-None-clause-why g t c =
    let e : condition_at c.args.search.now c.args.body.0
    ≡ All (condition_at c.args.search.now c.in-All.l.0) (condition_at c.args.search.now c.in-All.r.0) = search rules in
    why_right c.args.search.now _ _ _ c.args.env.now c.why_false-in-None.result e c.why_false-in-None.ensures.why

pub why_false-returns-in-Some-clause-why : goal.why_false-returns-in-Some-clause-why
why_false-returns-in-Some-clause-why g t c =
    let e : condition_at c.args.search.now c.args.body.0
    ≡ All (condition_at c.args.search.now c.in-All.l.0) (condition_at c.args.search.now c.in-All.r.0) = search rules in
    let by = c.why_false.ensures.why in
    let h : IsWhyFalse c.args.search.now (condition_at c.args.search.now c.in-All.l.0) c.args.env.now c.in-Some.why.0 =
    search (rules, by) in
    why_left c.args.search.now _ _ _ c.args.env.now c.in-Some.why.0 e h

pub why_false-returns-in-Exists-clause-why : goal.why_false-returns-in-Exists-clause-why
why_false-returns-in-Exists-clause-why g t c =
    let e : condition_at c.args.search.now c.args.body.0
    ≡ Exists c.in-Exists.var c.in-Exists.table (condition_at c.args.search.now c.in-Exists.x.0) = search rules in
    subst (λ x. IfSome c.why_no_row.result (λ why. IsWhyFalse c.args.search.now x c.args.env.now why.0)) (sym e) c.why_no_row.ensures.why

pub why_false-returns-in-Exists-clause-steps : goal.why_false-returns-in-Exists-clause-steps
why_false-returns-in-Exists-clause-steps g t c =
    let e : condition_at c.args.search.now c.args.body.0
    ≡ Exists c.in-Exists.var c.in-Exists.table (condition_at c.args.search.now c.in-Exists.x.0) = search rules in
    subst (λ x. c.why_no_row.new.steps ≤ c.args.steps.now + work c.args.search.now.index.now x c.args.env.now) (sym e)
    c.why_no_row.ensures.steps

pub why_no_row-returns-in-None-clause-truth : goal.why_no_row-returns-in-None-clause-truth
why_no_row-returns-in-None-clause-truth g t c =
    let e : c.rows_left-rows.result ≡ [] = search rules in
    sym (no_row c.args.search.now.index.now (condition_at c.args.search.now c.args.inner.0)
    c.args.var c.args.table c.args.env.now c.rows_left-rows.result c.rows_left-rows.ensures e)

pub why_no_row-returns-in-None-clause-why : goal.why_no_row-returns-in-None-clause-why
why_no_row-returns-in-None-clause-why g t c =
    let e : c.rows_left-rows.result ≡ [] = search rules in
    let f = no_row c.args.search.now.index.now (condition_at c.args.search.now c.args.inner.0)
    c.args.var c.args.table c.args.env.now c.rows_left-rows.result c.rows_left-rows.ensures e in
    why_inner c.args.search.now c.args.var c.args.table c.args.inner.0 c.args.env.now c.requires.inner.node f

pub why_no_row-returns-then-body_holds-clause-truth : goal.why_no_row-returns-then-body_holds-clause-truth
why_no_row-returns-then-body_holds-clause-truth g t c =
    let e : c.rows_left-rows.result ≡ row_of c.in-Some.row ∷ c.next.new.self = search rules in
    let h : truth c.args.search.now.index.now (pos 0) (condition_at c.args.search.now c.args.inner.0)
    (bind c.args.var (row_of c.in-Some.row) c.args.env.now) ≡ true = search rules in
    let a = first_row c.args.search.now.index.now (condition_at c.args.search.now c.args.inner.0) c.args.var c.args.table c.args.env.now
    c.rows_left-rows.result c.rows_left-rows.ensures c.next.new.self (row_of c.in-Some.row) e h in
    search (rules, a)

pub why_no_row-returns-else-body_holds-clause-truth : goal.why_no_row-returns-else-body_holds-clause-truth
why_no_row-returns-else-body_holds-clause-truth g t c =
    let e : c.rows_left-rows.result ≡ row_of c.in-Some.row ∷ c.next.new.self = search rules in
    let h : truth c.args.search.now.index.now (pos 0) (condition_at c.args.search.now c.args.inner.0)
    (bind c.args.var (row_of c.in-Some.row) c.args.env.now) ≡ false = search rules in
    let a = later_row c.args.search.now.index.now (condition_at c.args.search.now c.args.inner.0) c.args.var c.args.table c.args.env.now
    c.rows_left-rows.result c.rows_left-rows.ensures c.next.new.self (row_of c.in-Some.row) e h in
    search (rules, a)

pub why_no_row-returns-else-body_holds-clause-why : goal.why_no_row-returns-else-body_holds-clause-why
why_no_row-returns-else-body_holds-clause-why g t c =
    let e : c.rows_left-rows.result ≡ row_of c.in-Some.row ∷ c.next.new.self = search rules in
    let h : truth c.args.search.now.index.now (pos 0) (condition_at c.args.search.now c.args.inner.0)
    (bind c.args.var (row_of c.in-Some.row) c.args.env.now) ≡ false = search rules in
    let a = later_row c.args.search.now.index.now (condition_at c.args.search.now c.args.inner.0) c.args.var c.args.table c.args.env.now
    c.rows_left-rows.result c.rows_left-rows.ensures c.next.new.self (row_of c.in-Some.row) e h in
    if_false c.args.search.now _ c.args.env.now c.why_no_second.result (a ∙ sym c.why_no_second.ensures.truth)
    (c.why_no_second.ensures.why c.args.table)

pub why_no_row-returns-then-body_holds-clause-steps : goal.why_no_row-returns-then-body_holds-clause-steps
why_no_row-returns-then-body_holds-clause-steps g t c =
    let e : c.rows_left-rows.result ≡ row_of c.in-Some.row ∷ c.next.new.self = search rules in
    let s : c.next.new.steps ≡ c.args.steps.now + 1 = search rules in
    first_steps c.args.search.now.index.now (condition_at c.args.search.now c.args.inner.0) c.args.var c.args.env.now c.args.steps.now
    c.next.new.steps c.body_holds.new.steps _ c.rows_left-rows.result c.next.new.self (row_of c.in-Some.row)
    (walked_work c.args.search.now.index.now (condition_at c.args.search.now c.args.inner.0)
    c.args.var c.args.table c.args.env.now c.rows_left-rows.result c.rows_left-rows.ensures) e s (search rules)

pub why_no_row-returns-else-body_holds-clause-steps : goal.why_no_row-returns-else-body_holds-clause-steps
why_no_row-returns-else-body_holds-clause-steps g t c =
    let e : c.rows_left-rows.result ≡ row_of c.in-Some.row ∷ c.next.new.self = search rules in
    let s : c.next.new.steps ≡ c.args.steps.now + 1 = search rules in
    let h : truth c.args.search.now.index.now (pos 0) (condition_at c.args.search.now c.args.inner.0)
    (bind c.args.var (row_of c.in-Some.row) c.args.env.now) ≡ false = search rules in
    further_steps c.args.search.now.index.now (condition_at c.args.search.now c.args.inner.0) c.args.var c.args.env.now c.args.steps.now
    c.next.new.steps c.body_holds.new.steps c.why_no_second.new.steps _ c.rows_left-rows.result c.next.new.self (row_of c.in-Some.row)
    (walked_work c.args.search.now.index.now (condition_at c.args.search.now c.args.inner.0)
    c.args.var c.args.table c.args.env.now c.rows_left-rows.result c.rows_left-rows.ensures) e h s (search rules) (search rules)

pub why_no_second-returns-in-None-clause-why : goal.why_no_second-returns-in-None-clause-why
why_no_second-returns-in-None-clause-why g t c = λ table f.
    why_inner c.args.search.now c.args.var table c.args.inner.0 c.args.env.now c.requires.node f

pub why_no_second-returns-else-body_holds-clause-truth : goal.why_no_second-returns-else-body_holds-clause-truth
why_no_second-returns-else-body_holds-clause-truth g t c =
    let e : c.args.rows ≡ row_of c.in-Some.row ∷ c.next.new.self = search rules in
    let h : truth c.args.search.now.index.now (pos 0) (condition_at c.args.search.now c.args.inner.0)
    (bind c.args.var (row_of c.in-Some.row) c.args.env.now) ≡ false = search rules in
    let f : Row → Bool = λ row. truth c.args.search.now.index.now (pos 0) (condition_at c.args.search.now c.args.inner.0)
    (bind c.args.var row c.args.env.now) in
    c.why_no_later.ensures.truth ∙ sym (any_step f _ _ _ (row_of c.in-Some.row) refl e h)

pub why_no_second-returns-then-body_holds-clause-steps : goal.why_no_second-returns-then-body_holds-clause-steps
why_no_second-returns-then-body_holds-clause-steps g t c =
    let e : c.args.rows ≡ row_of c.in-Some.row ∷ c.next.new.self = search rules in
    let s : c.next.new.steps ≡ c.args.steps.now + 1 = search rules in
    first_steps c.args.search.now.index.now (condition_at c.args.search.now c.args.inner.0) c.args.var c.args.env.now c.args.steps.now
    c.next.new.steps c.body_holds.new.steps _ c.args.rows c.next.new.self (row_of c.in-Some.row) (omega arith) e s (search rules)

pub why_no_second-returns-else-body_holds-clause-steps : goal.why_no_second-returns-else-body_holds-clause-steps
why_no_second-returns-else-body_holds-clause-steps g t c =
    let e : c.args.rows ≡ row_of c.in-Some.row ∷ c.next.new.self = search rules in
    let s : c.next.new.steps ≡ c.args.steps.now + 1 = search rules in
    let h : truth c.args.search.now.index.now (pos 0) (condition_at c.args.search.now c.args.inner.0)
    (bind c.args.var (row_of c.in-Some.row) c.args.env.now) ≡ false = search rules in
    further_steps c.args.search.now.index.now (condition_at c.args.search.now c.args.inner.0) c.args.var c.args.env.now c.args.steps.now
    c.next.new.steps c.body_holds.new.steps c.why_no_later.new.steps _ c.args.rows c.next.new.self (row_of c.in-Some.row)
    (omega arith) e h s (search rules) (search rules)

pub why_no_later-returns-in-None-clause-why : goal.why_no_later-returns-in-None-clause-why
why_no_later-returns-in-None-clause-why g t c = λ table f.
    why_inner c.args.search.now c.args.var table c.args.inner.0 c.args.env.now c.requires.node f

pub why_no_later-returns-then-own_holds-clause-truth : goal.why_no_later-returns-then-own_holds-clause-truth
why_no_later-returns-then-own_holds-clause-truth g t c =
    let e : c.args.rows ≡ row_of c.in-Some.row ∷ c.next.new.self = search rules in
    let x = condition_at c.args.search.now c.args.inner.0 in
    let f : truth c.args.search.now.index.now (pos 0) (fixed_part c.args.var x) (bind c.args.var (row_of c.in-Some.row) c.args.env.now)
    ≡ true = search rules in
    let o : truth c.args.search.now.index.now (pos 0) (own_part c.args.var x) (bind c.args.var (row_of c.in-Some.row) c.args.env.now)
    ≡ true = search rules in
    let a = own_true c.args.search.now.index.now x c.args.var c.args.env.now c.args.rows c.next.new.self (row_of c.in-Some.row) e f o in
    search (rules, a)

pub why_no_later-returns-then-own_holds-clause-steps : goal.why_no_later-returns-then-own_holds-clause-steps
why_no_later-returns-then-own_holds-clause-steps g t c =
    let e : c.args.rows ≡ row_of c.in-Some.row ∷ c.next.new.self = search rules in
    let s : c.next.new.steps ≡ c.args.steps.now + 1 = search rules in
    own_steps c.args.search.now.index.now (condition_at c.args.search.now c.args.inner.0) c.args.var c.args.env.now c.args.steps.now
    c.next.new.steps c.why_fixed_false.new.steps c.own_holds.new.steps c.args.rows c.next.new.self (row_of c.in-Some.row)
    e s (search rules) (search rules)

pub why_no_later-returns-then-any_own-clause-truth : goal.why_no_later-returns-then-any_own-clause-truth
why_no_later-returns-then-any_own-clause-truth g t c =
    let e : c.args.rows ≡ row_of c.in-Some.row ∷ c.next.new.self = search rules in
    let x = condition_at c.args.search.now c.args.inner.0 in
    let f : truth c.args.search.now.index.now (pos 0) (fixed_part c.args.var x) (bind c.args.var (row_of c.in-Some.row) c.args.env.now)
    ≡ true = search rules in
    let o : truth c.args.search.now.index.now (pos 0) (own_part c.args.var x) (bind c.args.var (row_of c.in-Some.row) c.args.env.now)
    ≡ false = search rules in
    let a = own_false c.args.search.now.index.now x c.args.var c.args.env.now c.args.rows c.next.new.self (row_of c.in-Some.row) e f o in
    search (rules, a)

pub why_no_later-returns-then-any_own-clause-steps : goal.why_no_later-returns-then-any_own-clause-steps
why_no_later-returns-then-any_own-clause-steps g t c =
    let e : c.args.rows ≡ row_of c.in-Some.row ∷ c.next.new.self = search rules in
    let s : c.next.new.steps ≡ c.args.steps.now + 1 = search rules in
    let x = condition_at c.args.search.now c.args.inner.0 in
    let f : truth c.args.search.now.index.now (pos 0) (fixed_part c.args.var x) (bind c.args.var (row_of c.in-Some.row) c.args.env.now)
    ≡ true = search rules in
    let o : truth c.args.search.now.index.now (pos 0) (own_part c.args.var x) (bind c.args.var (row_of c.in-Some.row) c.args.env.now)
    ≡ false = search rules in
    later_steps c.args.search.now.index.now x c.args.var c.args.env.now c.args.steps.now c.next.new.steps c.why_fixed_false.new.steps
    c.own_holds.new.steps c.any_own.new.steps c.args.rows c.next.new.self (row_of c.in-Some.row)
    e f o s (search rules) (search rules) (search rules)

pub why_no_later-returns-else-any_own-clause-truth : goal.why_no_later-returns-else-any_own-clause-truth
why_no_later-returns-else-any_own-clause-truth g t c =
    let e : c.args.rows ≡ row_of c.in-Some.row ∷ c.next.new.self = search rules in
    let x = condition_at c.args.search.now c.args.inner.0 in
    let f : truth c.args.search.now.index.now (pos 0) (fixed_part c.args.var x) (bind c.args.var (row_of c.in-Some.row) c.args.env.now)
    ≡ true = search rules in
    let o : truth c.args.search.now.index.now (pos 0) (own_part c.args.var x) (bind c.args.var (row_of c.in-Some.row) c.args.env.now)
    ≡ false = search rules in
    let a = own_false c.args.search.now.index.now x c.args.var c.args.env.now c.args.rows c.next.new.self (row_of c.in-Some.row) e f o in
    search (rules, a)

pub why_no_later-returns-else-any_own-clause-steps : goal.why_no_later-returns-else-any_own-clause-steps
why_no_later-returns-else-any_own-clause-steps g t c =
    let e : c.args.rows ≡ row_of c.in-Some.row ∷ c.next.new.self = search rules in
    let s : c.next.new.steps ≡ c.args.steps.now + 1 = search rules in
    let x = condition_at c.args.search.now c.args.inner.0 in
    let f : truth c.args.search.now.index.now (pos 0) (fixed_part c.args.var x) (bind c.args.var (row_of c.in-Some.row) c.args.env.now)
    ≡ true = search rules in
    let o : truth c.args.search.now.index.now (pos 0) (own_part c.args.var x) (bind c.args.var (row_of c.in-Some.row) c.args.env.now)
    ≡ false = search rules in
    later_steps c.args.search.now.index.now x c.args.var c.args.env.now c.args.steps.now c.next.new.steps c.why_fixed_false.new.steps
    c.own_holds.new.steps c.any_own.new.steps c.args.rows c.next.new.self (row_of c.in-Some.row)
    e f o s (search rules) (search rules) (search rules)

pub why_no_later-returns-else-any_own-clause-why : goal.why_no_later-returns-else-any_own-clause-why
why_no_later-returns-else-any_own-clause-why g t c =
    λ table f. why_inner c.args.search.now c.args.var table c.args.inner.0 c.args.env.now c.requires.node f

pub why_no_later-returns-in-Some-why_fixed_false-clause-truth : goal.why_no_later-returns-in-Some-why_fixed_false-clause-truth
why_no_later-returns-in-Some-why_fixed_false-clause-truth g t c =
    let x = condition_at c.args.search.now c.args.inner.0 in
    let f : truth c.args.search.now.index.now (pos 0) (fixed_part c.args.var x) (bind c.args.var (row_of c.in-Some.row) c.args.env.now)
    ≡ false = search rules in
    let a = fixed_false c.args.search.now.index.now x c.args.var c.args.env.now c.args.rows (row_of c.in-Some.row) f in
    search (rules, a)

pub why_no_later-returns-in-Some-why_fixed_false-clause-steps : goal.why_no_later-returns-in-Some-why_fixed_false-clause-steps
why_no_later-returns-in-Some-why_fixed_false-clause-steps g t c =
    let e : c.args.rows ≡ row_of c.in-Some.row ∷ c.next.new.self = search rules in
    let s : c.next.new.steps ≡ c.args.steps.now + 1 = search rules in
    fixed_steps c.args.search.now.index.now (condition_at c.args.search.now c.args.inner.0) c.args.var c.args.env.now c.args.steps.now
    c.next.new.steps c.why_fixed_false.new.steps c.args.rows c.next.new.self (row_of c.in-Some.row)
    e s (search rules)

pub why_no_later-returns-in-Some-why_fixed_false-clause-why : goal.why_no_later-returns-in-Some-why_fixed_false-clause-why
why_no_later-returns-in-Some-why_fixed_false-clause-why g t c =
    let by = c.why_fixed_false.ensures.why in
    let h : IsWhyFalse c.args.search.now (fixed_part c.args.var (condition_at c.args.search.now c.args.inner.0))
    (bind c.args.var (row_of c.in-Some.row) c.args.env.now) c.in-Some-why_fixed_false.why.0 = search (rules, by) in
    λ table f. why_fixed c.args.search.now c.args.var table (condition_at c.args.search.now c.args.inner.0) c.args.env.now
    (row_of c.in-Some.row) c.in-Some-why_fixed_false.why.0 h

pub why_fixed_false-returns-in-None-clause-why : goal.why_fixed_false-returns-in-None-clause-why
why_fixed_false-returns-in-None-clause-why g t c =
    let e : condition_at c.args.search.now c.args.body.0
    ≡ All (condition_at c.args.search.now c.in-All.l.0) (condition_at c.args.search.now c.in-All.r.0) = search rules in
    why_right c.args.search.now _ _ _ c.args.env.now c.why_fixed_false-in-None.result (ap (fixed_part c.args.var) e)
    c.why_fixed_false-in-None.ensures.why

pub why_fixed_false-returns-in-Some-clause-why : goal.why_fixed_false-returns-in-Some-clause-why
why_fixed_false-returns-in-Some-clause-why g t c =
    let e : condition_at c.args.search.now c.args.body.0
    ≡ All (condition_at c.args.search.now c.in-All.l.0) (condition_at c.args.search.now c.in-All.r.0) = search rules in
    let by = c.why_fixed_false.ensures.why in
    let h : IsWhyFalse c.args.search.now (fixed_part c.args.var (condition_at c.args.search.now c.in-All.l.0)) c.args.env.now
    c.in-Some.why.0 = search (rules, by) in
    why_left c.args.search.now _ _ _ c.args.env.now c.in-Some.why.0 (ap (fixed_part c.args.var) e) h

pub any_own-loop-row-preserved : goal.any_own-loop-row-preserved
any_own-loop-row-preserved g t c =
    let e : c.loop-row.rows ≡ row_of c.in-Some.row ∷ c.next.new.self = search rules in
    let s : c.next.new.steps ≡ c.loop-row.steps + 1 = search rules in
    let x = own_part c.args.var (condition_at c.args.search.now c.args.inner.0) in
    let f : Row → Bool = λ row. truth c.args.search.now.index.now (pos 0) x (bind c.args.var row c.args.env.now) in
    let o : truth c.args.search.now.index.now (pos 0) x (bind c.args.var (row_of c.in-Some.row) c.args.env.now) ≡ false = search rules in
    let k : c.own_holds.new.steps
    ≤ c.next.new.steps + work c.args.search.now.index.now x (bind c.args.var (row_of c.in-Some.row) c.args.env.now) = search rules in
    let i = c.loop-row.invariant.more in
    let m = c.own_holds.ensures.more in
    record {
      same = any_step f _ _ _ (row_of c.in-Some.row) c.loop-row.invariant.same e o;
      steps = until_step (λ row. work c.args.search.now.index.now x (bind c.args.var row c.args.env.now)) f _ _ _
          (c.args.steps.now + exists_work c.args.search.now.index.now c.args.var x c.args.env.now c.args.rows) _ _ (row_of c.in-Some.row)
          c.loop-row.invariant.steps e o s k;
      more = omega (arith, i, s, m);
    }

pub any_own-returns-then-own_holds-clause-steps : goal.any_own-returns-then-own_holds-clause-steps
any_own-returns-then-own_holds-clause-steps g t c =
    let e : c.loop-row.rows ≡ row_of c.in-Some.row ∷ c.next.new.self = search rules in
    let s : c.next.new.steps ≡ c.loop-row.steps + 1 = search rules in
    let x = own_part c.args.var (condition_at c.args.search.now c.args.inner.0) in
    let f : Row → Bool = λ row. truth c.args.search.now.index.now (pos 0) x (bind c.args.var row c.args.env.now) in
    let k : c.own_holds.new.steps
    ≤ c.next.new.steps + work c.args.search.now.index.now x (bind c.args.var (row_of c.in-Some.row) c.args.env.now) = search rules in
    until_end (λ row. work c.args.search.now.index.now x (bind c.args.var row c.args.env.now)) f _ _ _
    (c.args.steps.now + exists_work c.args.search.now.index.now c.args.var x c.args.env.now c.args.rows) _ _ (row_of c.in-Some.row)
    c.loop-row.invariant.steps e s k
