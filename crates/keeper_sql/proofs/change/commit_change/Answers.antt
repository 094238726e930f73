use Rattle.std.proofs.Common.{rules, ◌≡◌, inl, inr, arith, subst, refl}
use Rattle.sqlite.specs.Held.{state}
use Rattle.sqlite.specs.State.{HasCleanDisk, Survives}
use Rattle.sqlite.proofs.StateLemmas.{survives_then}
use Rattle.sqlite.proofs.Callers.{survives_begin}
use Rattle.keeper_sql.specs.RowsAsValues.{added_rows}
use Rattle.keeper_sql.specs.Store.{IsAfter}
use Rattle.keeper_sql.specs.Failing.{begun, FailsLater, FailsToInsertRows, FailsWhole, GoesOn}
use Rattle.keeper_sql.proofs.FailingLemmas.{reaches_rows}
use Rattle.keeper_sql.proofs.change.commit_change.Goals as goal

pub returns-in-Ok-clause-survives : goal.returns-in-Ok-clause-survives
returns-in-Ok-clause-survives g c =
    let old = c.args.conn.now in
    let mid = c.insert_change.new.tx.conn.now in
    let end = c.commit.new.self.0 in
    let began = c.transaction-tx.ensures.begun in
    let P = IsAfter c.args.change.now (state g.S.Store old) in
    let added = λ (clean : HasCleanDisk (state g.S.Store end)).
    (rw began at (c.in_default.ensures.ok (omega (arith, c.commit.ensures.survives.clean)))) refl in
    let whole = survives_then (state g.S.Store old) (state g.S.Store mid) (state g.S.Store end) _ _ P (λ _ db none. absurd none)
    (λ clean db is. record { read = c.in_default.ensures.read; db = (state g.S.Store mid).now; puts = (added clean).puts; is = is })
    (survives_begin g.S.Store old (state g.S.Store mid) _ (rw began at c.insert_change.ensures.survives)) c.commit.ensures.survives in
    let same : end ≡ c.conn-2-1.given.0 = search rules in
    subst (λ h. Survives (state g.S.Store old) (state g.S.Store h) P) same whole

pub returns-in-Err-commit-clause-survives : goal.returns-in-Err-commit-clause-survives
returns-in-Err-commit-clause-survives g c =
    let old = c.args.conn.now in
    let mid = c.insert_change.new.tx.conn.now in
    let end = c.commit.new.self.0 in
    let began = c.transaction-tx.ensures.begun in
    let P = IsAfter c.args.change.now (state g.S.Store old) in
    let added = λ (clean : HasCleanDisk (state g.S.Store end)).
    (rw began at (c.in_default.ensures.ok (omega (arith, c.commit.ensures.survives.clean)))) refl in
    let whole = survives_then (state g.S.Store old) (state g.S.Store mid) (state g.S.Store end) _ _ P (λ _ db none. absurd none)
    (λ clean db is. record { read = c.in_default.ensures.read; db = (state g.S.Store mid).now; puts = (added clean).puts; is = is })
    (survives_begin g.S.Store old (state g.S.Store mid) _ (rw began at c.insert_change.ensures.survives)) c.commit.ensures.survives in
    let same : end ≡ c.conn-2-1.given.0 = search rules in
    subst (λ h. Survives (state g.S.Store old) (state g.S.Store h) P) same whole

pub returns-in-Err-clause-fails : goal.returns-in-Err-clause-fails
returns-in-Err-clause-fails g c =
    let old = c.args.conn.now in
    let mid = c.insert_change.new.tx.conn.now in
    let end = c.drop-tx.new.self.0 in
    let began = c.transaction-tx.ensures.begun in
    let How = FailsToInsertRows c.args.change.now in
    let whole : HasCleanDisk (state g.S.Store end) → FailsWhole g.S.Store old end How c.in-Err.error =
    λ clean.
    let early : HasCleanDisk (state g.S.Store mid) = omega (arith, c.drop-tx.ensures.survives.clean) in
    let failed : FailsLater g.S.Store (begun old) mid How c.in-Err.error = (rw began at (c.in-Err.ensures.fails early)) refl in
    inl (mid, failed, c.drop-tx.ensures.undone clean, c.drop-tx.ensures.survives) in
    let same : end ≡ c.conn-1.given.0 = search rules in
    subst (λ h. HasCleanDisk (state g.S.Store h) → FailsWhole g.S.Store old h How c.in-Err.error) same whole

pub returns-in-Err-commit-clause-fails : goal.returns-in-Err-commit-clause-fails
returns-in-Err-commit-clause-fails g c =
    let old = c.args.conn.now in
    let mid = c.insert_change.new.tx.conn.now in
    let end = c.commit.new.self.0 in
    let began = c.transaction-tx.ensures.begun in
    let How = FailsToInsertRows c.args.change.now in
    let whole : HasCleanDisk (state g.S.Store end) → FailsWhole g.S.Store old end How c.in-Err-commit.error =
    λ clean.
    let early : HasCleanDisk (state g.S.Store mid) = omega (arith, c.commit.ensures.survives.clean) in
    let reached : GoesOn g.S.Store (begun old) mid =
    reaches_rows g.S.Store (added_rows c.args.change.now) (begun old) mid (rw began at c.insert_change.ensures.survives)
    ((rw began at (c.in_default.ensures.ok early)) refl) in
    inr (mid, reached, c.in-Err-commit.ensures.err clean) in
    let same : end ≡ c.conn-2-1.given.0 = search rules in
    subst (λ h. HasCleanDisk (state g.S.Store h) → FailsWhole g.S.Store old h How c.in-Err-commit.error) same whole
