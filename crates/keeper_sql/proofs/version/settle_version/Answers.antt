use Rattle.std.proofs.Common.{rules, ◌≡◌, ◌∙◌, sym, ap, subst, arith, ℤ, pos, inl, inr, [], Option, Some, None}
use Rattle.std.proofs.lemmas.Result.{IfOk-weaker}
use Rattle.sqlite.specs.Held.{state}
use Rattle.sqlite.specs.State.{HasCleanDisk, IsUnchanged}
use Rattle.keeper_sql.specs.RowsAsValues.{version_in}
use Rattle.keeper_sql.specs.Store.{Settles}
use Rattle.keeper_sql.proofs.Settling.{meta_keyed, settle_same, settle_raised, read_at}
use Rattle.keeper_sql.specs.Schema.{replace_meta}
use Rattle.keeper_sql.specs.Failing.{FailsToSettle, FailsToWrite}
use Rattle.keeper_sql.proofs.FailingLemmas.{at_once, reaches_raised, reaches_read, step_fails}
use Rattle.keeper_sql.proofs.version.settle_version.Goals as goal

pub returns-in-Ok-None-clause-ok : goal.returns-in-Ok-None-clause-ok
returns-in-Ok-None-clause-ok g c clean inside has meta =
    let old = state g.S.Store c.args.tx.now.conn.now in
    let mid = state g.S.Store c.read_version.new.tx.conn.now in
    let new = state g.S.Store c.raise_version.new.tx.conn.now in
    let early : HasCleanDisk mid = omega (arith, c.raise_version.ensures.survives.clean) in
    let same : IsUnchanged old mid = c.in-Ok-None.ensures.same early in
    let read : None ≡ version_in (old.now.trees 0) = sym c.in-Ok-None.field-0-is
    ∙ c.in-Ok-None.ensures.read early has (meta_keyed _ meta) in
    IfOk-weaker c.raise_version.result _ _ (λ v h. subst (λ x. Settles x old new) (sym h.0)
    (settle_raised None old mid new has meta same read (λ w e. absurd (let e' = e in cc)) h.1))
    (c.raise_version.ensures.ok clean (same.0.mode ∙ inside))

pub returns-in-Ok-Some-eq1-clause-ok : goal.returns-in-Ok-Some-eq1-clause-ok
returns-in-Ok-Some-eq1-clause-ok g c clean inside has meta =
    let old = state g.S.Store c.args.tx.now.conn.now in
    let mid = state g.S.Store c.read_version.new.tx.conn.now in
    let new = state g.S.Store c.raise_version-in-Ok-Some-eq1.new.tx.conn.now in
    let early : HasCleanDisk mid = omega (arith, c.raise_version-in-Ok-Some-eq1.ensures.survives.clean) in
    let same : IsUnchanged old mid = c.in-Ok-Some-eq1.ensures.same early in
    let is_one : c.in-Ok-Some-eq1.field-0-0 ≡ pos 1 = search rules in
    let read : Some (pos 1) ≡ version_in (old.now.trees 0) = ap Some (sym is_one) ∙ sym c.in-Ok-Some-eq1.field-0-is
    ∙ c.in-Ok-Some-eq1.ensures.read early has (meta_keyed _ meta) in
    let one : (w : ℤ) → ◌≡◌ {A = Option ℤ} (Some (pos 1)) (Some w) → w ≡ pos 1 = λ w e. (let e' = e in cc) in
    IfOk-weaker c.raise_version-in-Ok-Some-eq1.result _ _
    (λ v h. subst (λ x. Settles x old new) (sym h.0) (settle_raised (Some (pos 1)) old mid new has meta same read one h.1))
    (c.raise_version-in-Ok-Some-eq1.ensures.ok clean (same.0.mode ∙ inside))

pub returns-in-Ok-Some-clause-ok : goal.returns-in-Ok-Some-clause-ok
returns-in-Ok-Some-clause-ok g c clean inside has meta =
    let old = state g.S.Store c.args.tx.now.conn.now in
    let new = state g.S.Store c.read_version.new.tx.conn.now in
    let same : IsUnchanged old new = c.in-Ok-Some.ensures.same clean in
    let read : Some c.in-Ok-Some.version ≡ version_in (old.now.trees 0) = sym c.in-Ok-Some.field-0-is
    ∙ c.in-Ok-Some.ensures.read clean has (meta_keyed _ meta) in
    let by = settle_same c.in-Ok-Some.version old new inside has meta same read in
    search (rules, by)

pub returns-in-Ok-Some-clause-at : goal.returns-in-Ok-Some-clause-at
returns-in-Ok-Some-clause-at g c clean =
    let old = state g.S.Store c.args.tx.now.conn.now in
    let new = state g.S.Store c.read_version.new.tx.conn.now in
    let by = read_at c.in-Ok-Some.version old new (c.in-Ok-Some.ensures.same clean) (λ has keyed. sym c.in-Ok-Some.field-0-is
    ∙ c.in-Ok-Some.ensures.read clean has keyed) in
    search (rules, by)

pub returns-in-Ok-None-clause-goes_on : goal.returns-in-Ok-None-clause-goes_on
returns-in-Ok-None-clause-goes_on g c clean inside =
    let old = c.args.tx.now.conn.now in
    let mid = c.read_version.new.tx.conn.now in
    let new = c.raise_version.new.tx.conn.now in
    let early : HasCleanDisk (state g.S.Store mid) = omega (arith, c.raise_version.ensures.survives.clean) in
    let reached = reaches_read g.S.Store old mid c.read_version.ensures.survives inside (c.in-Ok-None.ensures.same early) in
    reaches_raised g.S.Store old mid new c.raise_version.result (λ v. v ≡ pos 2) reached
    c.raise_version.ensures.survives (c.raise_version.ensures.ok clean reached.mode)

pub returns-in-Ok-Some-eq1-clause-goes_on : goal.returns-in-Ok-Some-eq1-clause-goes_on
returns-in-Ok-Some-eq1-clause-goes_on g c clean inside =
    let old = c.args.tx.now.conn.now in
    let mid = c.read_version.new.tx.conn.now in
    let new = c.raise_version-in-Ok-Some-eq1.new.tx.conn.now in
    let early : HasCleanDisk (state g.S.Store mid) = omega (arith, c.raise_version-in-Ok-Some-eq1.ensures.survives.clean) in
    let reached = reaches_read g.S.Store old mid c.read_version.ensures.survives inside (c.in-Ok-Some-eq1.ensures.same early) in
    reaches_raised g.S.Store old mid new c.raise_version-in-Ok-Some-eq1.result (λ v. v ≡ pos 2) reached
    c.raise_version-in-Ok-Some-eq1.ensures.survives (c.raise_version-in-Ok-Some-eq1.ensures.ok clean reached.mode)

pub returns-in-Ok-Some-clause-goes_on : goal.returns-in-Ok-Some-clause-goes_on
returns-in-Ok-Some-clause-goes_on g c clean inside =
    reaches_read g.S.Store c.args.tx.now.conn.now c.read_version.new.tx.conn.now c.read_version.ensures.survives inside
    (c.in-Ok-Some.ensures.same clean)

pub returns-in-Err-clause-fails : goal.returns-in-Err-clause-fails
returns-in-Err-clause-fails g c clean inside =
    at_once g.S.Store FailsToSettle c.args.tx.now.conn.now c.read_version.new.tx.conn.now c.in-Err.error inside
    (inl (c.in-Err.ensures.fails clean inside))

pub returns-in-Ok-None-clause-fails : goal.returns-in-Ok-None-clause-fails
returns-in-Ok-None-clause-fails g c clean inside =
    let old = c.args.tx.now.conn.now in
    let mid = c.read_version.new.tx.conn.now in
    let new = c.raise_version.new.tx.conn.now in
    let early : HasCleanDisk (state g.S.Store mid) = omega (arith, c.raise_version.ensures.survives.clean) in
    let reached = reaches_read g.S.Store old mid c.read_version.ensures.survives inside (c.in-Ok-None.ensures.same early) in
    step_fails g.S.Store (FailsToWrite replace_meta []) FailsToSettle old mid new c.raise_version.result reached (λ e h. inr h) clean
    c.raise_version.ensures.fails

pub returns-in-Ok-Some-eq1-clause-fails : goal.returns-in-Ok-Some-eq1-clause-fails
returns-in-Ok-Some-eq1-clause-fails g c clean inside =
    let old = c.args.tx.now.conn.now in
    let mid = c.read_version.new.tx.conn.now in
    let new = c.raise_version-in-Ok-Some-eq1.new.tx.conn.now in
    let early : HasCleanDisk (state g.S.Store mid) = omega (arith, c.raise_version-in-Ok-Some-eq1.ensures.survives.clean) in
    let reached = reaches_read g.S.Store old mid c.read_version.ensures.survives inside (c.in-Ok-Some-eq1.ensures.same early) in
    step_fails g.S.Store (FailsToWrite replace_meta []) FailsToSettle old mid new c.raise_version-in-Ok-Some-eq1.result reached
    (λ e h. inr h) clean c.raise_version-in-Ok-Some-eq1.ensures.fails
