use Rattle.std.proofs.Common.{◌≡◌, ◌∙◌, rules, sym, ap, [], ◌∷◌}
use Rattle.std.specs.Prelude.{not}
use Rattle.tql_core.specs.Condition.{condition}
use Rattle.time_marks.specs.Marks.{step_of}
use Rattle.time_marks.specs.Views.{probes_in}
use Rattle.delta_rewrite.specs.declared.asked.Ask.TheVariants as A
use Rattle.delta_rewrite.specs.Delta.{delta}
use Rattle.delta_rewrite.specs.Asking.{asked_if, exists_inside}
use Rattle.delta_rewrite.proofs.Appended.{joined_kept, joined_probes}
use Rattle.delta_rewrite.proofs.Stepped.{under_kept, under_probes, of_all, of_either, of_exists}
use Rattle.delta_rewrite.proofs.delta.+delta.Goals as goal

pub returns-in_ok-all-in-All-clause-nodes : goal.returns-in_ok-all-in-All-clause-nodes
returns-in_ok-all-in-All-clause-nodes t c id x h = c.in_ok-right-in-All.ensures.nodes id x
    (c.in_ok-second-in-All.ensures.nodes id x (c.in_ok-left-in-All.ensures.nodes id x (c.in_ok-first-in-All.ensures.nodes id x h)))

pub returns-in_ok-all-in-All-clause-kept : goal.returns-in_ok-all-in-All-clause-kept
returns-in_ok-all-in-All-clause-kept t c =
    joined_kept c.ask_if.new.pool c.ask_if-in-All.new.pool
    (λ id x h. c.in_ok-right-in-All.ensures.nodes id x (c.in_ok-second-in-All.ensures.nodes id x h))
    c.in_ok-left-in-All.left c.in_ok-right-in-All.right c.in_ok-all-in-All.all c.in_ok-all-in-All.ensures
    c.in_ok-left-in-All.ensures.kept c.in_ok-right-in-All.ensures.kept

pub returns-in_ok-all-in-All-clause-probes : goal.returns-in_ok-all-in-All-clause-probes
returns-in_ok-all-in-All-clause-probes t c =
    let up = c.args.up in
    let l = condition c.in-All.l.value in
    let r = condition c.in-All.r.value in
    let own = probes_in c.delta.new.pool c.in_ok-first-in-All.first in
    let other = probes_in c.delta-in-All.new.pool c.in_ok-second-in-All.second in
    let first : own ≡ delta l up = search rules in
    let left : probes_in c.ask_if.new.pool c.in_ok-left-in-All.left ≡ asked_if up A.Right r own = search rules in
    let second : other ≡ delta r up = search rules in
    let right : probes_in c.ask_if-in-All.new.pool c.in_ok-right-in-All.right ≡ asked_if up A.Left l other = search rules in
    rw c.in-All.is (joined_probes c.ask_if.new.pool c.ask_if-in-All.new.pool
    (λ id x h. c.in_ok-right-in-All.ensures.nodes id x (c.in_ok-second-in-All.ensures.nodes id x h))
    c.in_ok-left-in-All.left c.in_ok-right-in-All.right c.in_ok-all-in-All.all _ _ c.in_ok-all-in-All.ensures
    c.in_ok-left-in-All.ensures.kept (left ∙ ap (asked_if up A.Right r) first) (right ∙ ap (asked_if up A.Left l) second)
    ∙ sym (of_all l r up))

pub returns-in_ok-all-in-Either-clause-nodes : goal.returns-in_ok-all-in-Either-clause-nodes
returns-in_ok-all-in-Either-clause-nodes t c id x h = c.in_ok-right-in-Either.ensures.nodes id x
    (c.in_ok-second-in-Either.ensures.nodes id x (c.in_ok-left-in-Either.ensures.nodes id x (c.in_ok-first-in-Either.ensures.nodes id x h)))

pub returns-in_ok-all-in-Either-clause-kept : goal.returns-in_ok-all-in-Either-clause-kept
returns-in_ok-all-in-Either-clause-kept t c =
    joined_kept c.ask_if-in-Either.new.pool c.ask_if-in-Either-2.new.pool
    (λ id x h. c.in_ok-right-in-Either.ensures.nodes id x (c.in_ok-second-in-Either.ensures.nodes id x h))
    c.in_ok-left-in-Either.left c.in_ok-right-in-Either.right c.in_ok-all-in-Either.all c.in_ok-all-in-Either.ensures
    c.in_ok-left-in-Either.ensures.kept c.in_ok-right-in-Either.ensures.kept

pub returns-in_ok-all-in-Either-clause-probes : goal.returns-in_ok-all-in-Either-clause-probes
returns-in_ok-all-in-Either-clause-probes t c =
    let up = c.args.up in
    let l = condition c.in-Either.l.value in
    let r = condition c.in-Either.r.value in
    let own = probes_in c.delta-in-Either.new.pool c.in_ok-first-in-Either.first in
    let other = probes_in c.delta-in-Either-2.new.pool c.in_ok-second-in-Either.second in
    let first : own ≡ delta l up = search rules in
    let left : probes_in c.ask_if-in-Either.new.pool c.in_ok-left-in-Either.left ≡ asked_if (not up) A.NotRight r own = search rules in
    let second : other ≡ delta r up = search rules in
    let right : probes_in c.ask_if-in-Either-2.new.pool c.in_ok-right-in-Either.right ≡ asked_if (not up) A.NotLeft l other =
    search rules in
    rw c.in-Either.is (joined_probes c.ask_if-in-Either.new.pool c.ask_if-in-Either-2.new.pool
    (λ id x h. c.in_ok-right-in-Either.ensures.nodes id x (c.in_ok-second-in-Either.ensures.nodes id x h))
    c.in_ok-left-in-Either.left c.in_ok-right-in-Either.right c.in_ok-all-in-Either.all _ _ c.in_ok-all-in-Either.ensures
    c.in_ok-left-in-Either.ensures.kept
    (left ∙ ap (asked_if (not up) A.NotRight r) first) (right ∙ ap (asked_if (not up) A.NotLeft l) second)
    ∙ sym (of_either l r up))

pub returns-in_ok-all-in-Exists-clause-nodes : goal.returns-in_ok-all-in-Exists-clause-nodes
returns-in_ok-all-in-Exists-clause-nodes t c id x h =
    c.in_ok-inside-in-Exists.ensures.nodes id x (c.in_ok-inner-in-Exists.ensures.nodes id x h)

pub returns-in_ok-all-in-Exists-clause-kept : goal.returns-in_ok-all-in-Exists-clause-kept
returns-in_ok-all-in-Exists-clause-kept t c =
    let step = step_of c.in-Exists.var c.in-Exists.table (condition c.in-Exists.x.value) in
    let s : c.in_ok-steps-in-Exists.steps ≡ step ∷ [] = search rules in
    under_kept c.exists_inside.new.pool step c.in_ok-steps-in-Exists.steps c.in_ok-inside-in-Exists.inside c.in_ok-all-in-Exists.all s
    c.in_ok-all-in-Exists.ensures c.in_ok-inside-in-Exists.ensures.kept

pub returns-in_ok-all-in-Exists-clause-probes : goal.returns-in_ok-all-in-Exists-clause-probes
returns-in_ok-all-in-Exists-clause-probes t c =
    let v = c.in-Exists.var in
    let table = c.in-Exists.table in
    let x = condition c.in-Exists.x.value in
    let own = probes_in c.delta-in-Exists.new.pool c.in_ok-inner-in-Exists.inner in
    let s : c.in_ok-steps-in-Exists.steps ≡ step_of v table x ∷ [] = search rules in
    let inner : own ≡ delta x c.args.up = search rules in
    let new = c.exists_inside.new.pool in
    let inside : probes_in new c.in_ok-inside-in-Exists.inside ≡ exists_inside v table x c.args.up own = search rules in
    rw c.in-Exists.is (under_probes new (step_of v table x) c.in_ok-steps-in-Exists.steps c.in_ok-inside-in-Exists.inside
    c.in_ok-all-in-Exists.all _ s c.in_ok-all-in-Exists.ensures (inside ∙ ap (exists_inside v table x c.args.up) inner)
    ∙ sym (of_exists v table x c.args.up))
