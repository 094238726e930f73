use Rattle.std.proofs.Common.{rules, inl, inr, ◌≡◌, ◌∙◌, sym, ap, subst, refl, arith, true, pos}
use Rattle.sqlite.specs.Held.{state}
use Rattle.sqlite.specs.Effect.{Database}
use Rattle.sqlite.specs.State.{HasCleanDisk, Survives}
use Rattle.sqlite.proofs.StateLemmas.{survives_then}
use Rattle.sqlite.proofs.Callers.{survives_begin}
use Rattle.keeper_sql.specs.RowsAsValues.{tables_in}
use Rattle.keeper_sql.specs.Store.{IsOurs, OpensTo, OpensAt, AreAllKeyed, IsAfterOpen}
use Rattle.keeper_sql.specs.Opening.{IsOpened, IsStored, IsRead, AreRead}
use Rattle.keeper_sql.specs.declared.opened.Opened.TheVariants.{Held}
use Rattle.keeper_sql.specs.Failing.{begun, FailsLater, FailsToOpenStore, FailsWhole, GoesOn}
use Rattle.keeper_sql.proofs.opened.open_store.Goals as goal

pub returns-in-Ok-clause-ok : goal.returns-in-Ok-clause-ok
returns-in-Ok-clause-ok g c =
    let old = c.args.conn.now in
    let mid = c.open_within.new.tx.conn.now in
    let end = c.commit.new.self.0 in
    let began = c.transaction-tx.ensures.begun in
    let opened : HasCleanDisk (state g.S.Store end) → IsOurs (state g.S.Store old).now
    → OpensAt (pos 2) (state g.S.Store (record old { in_transaction = true })) (state g.S.Store mid)
    × (AreAllKeyed (state g.S.Store mid).now → c.in-Ok-Held.tables ≡ tables_in (state g.S.Store mid).now.trees) =
    λ clean ours.
    rw began at (subst (IsOpened (state g.S.Store c.transaction-tx.result.conn.now) (state g.S.Store mid)) c.in-Ok-Held.field-0-is
    (c.in-Ok-Held.ensures.ok (omega (arith, c.commit.ensures.survives.clean)) (rw began refl) (rw began ours))) in
    let shows = λ (clean : HasCleanDisk (state g.S.Store end)). (c.in-Ok.ensures.ok clean).1 in
    let whole : HasCleanDisk (state g.S.Store end) → IsOurs (state g.S.Store old).now
    → IsStored (state g.S.Store old) (state g.S.Store end) (Held c.in-Ok-Held.tables) =
    λ clean ours.
    let all = opened clean ours in
    let s = shows clean in (
      all.0.was_open s.was_open,
      s.is_open,
      s.committed_is ∙ sym s.now_is,
      subst (OpensTo (pos 2) (state g.S.Store old).now) (sym s.now_is) all.0.to,
      λ keyed. all.1 (subst AreAllKeyed s.now_is keyed) ∙ ap (λ (d : Database). tables_in d.trees) (sym s.now_is),
    ) in
    let same : end ≡ c.conn-in-Ok-Held-1.given.0 = search rules in
    subst (λ h. HasCleanDisk (state g.S.Store h) → IsOurs (state g.S.Store old).now
    → IsStored (state g.S.Store old) (state g.S.Store h) (Held c.in-Ok-Held.tables)) same whole

pub returns-in-Ok-clause-survives : goal.returns-in-Ok-clause-survives
returns-in-Ok-clause-survives g c =
    let old = c.args.conn.now in
    let mid = c.open_within.new.tx.conn.now in
    let end = c.commit.new.self.0 in
    let began = c.transaction-tx.ensures.begun in
    let opened : HasCleanDisk (state g.S.Store end) → IsOurs (state g.S.Store old).now
    → OpensAt (pos 2) (state g.S.Store (record old { in_transaction = true })) (state g.S.Store mid)
    × (AreAllKeyed (state g.S.Store mid).now → c.in-Ok-Held.tables ≡ tables_in (state g.S.Store mid).now.trees) =
    λ clean ours.
    rw began at (subst (IsOpened (state g.S.Store c.transaction-tx.result.conn.now) (state g.S.Store mid)) c.in-Ok-Held.field-0-is
    (c.in-Ok-Held.ensures.ok (omega (arith, c.commit.ensures.survives.clean)) (rw began refl) (rw began ours))) in
    let P = IsAfterOpen (state g.S.Store old) in
    let whole = survives_then (state g.S.Store old) (state g.S.Store mid) (state g.S.Store end) _ _ P (λ _ db none. absurd none)
    (λ clean db is. record { db = (state g.S.Store mid).now; to = λ ours. (opened clean ours).0.to; is = is })
    (survives_begin g.S.Store old (state g.S.Store mid) _ (rw began at c.open_within.ensures.survives)) c.commit.ensures.survives in
    let same : end ≡ c.conn-in-Ok-Held-1.given.0 = search rules in
    subst (λ h. Survives (state g.S.Store old) (state g.S.Store h) P) same whole

pub returns-in-Err-commit-clause-survives : goal.returns-in-Err-commit-clause-survives
returns-in-Err-commit-clause-survives g c =
    let old = c.args.conn.now in
    let mid = c.open_within.new.tx.conn.now in
    let end = c.commit.new.self.0 in
    let began = c.transaction-tx.ensures.begun in
    let opened : HasCleanDisk (state g.S.Store end) → IsOurs (state g.S.Store old).now
    → OpensAt (pos 2) (state g.S.Store (record old { in_transaction = true })) (state g.S.Store mid)
    × (AreAllKeyed (state g.S.Store mid).now → c.in-Ok-Held.tables ≡ tables_in (state g.S.Store mid).now.trees) =
    λ clean ours.
    rw began at (subst (IsOpened (state g.S.Store c.transaction-tx.result.conn.now) (state g.S.Store mid)) c.in-Ok-Held.field-0-is
    (c.in-Ok-Held.ensures.ok (omega (arith, c.commit.ensures.survives.clean)) (rw began refl) (rw began ours))) in
    let P = IsAfterOpen (state g.S.Store old) in
    let whole = survives_then (state g.S.Store old) (state g.S.Store mid) (state g.S.Store end) _ _ P (λ _ db none. absurd none)
    (λ clean db is. record { db = (state g.S.Store mid).now; to = λ ours. (opened clean ours).0.to; is = is })
    (survives_begin g.S.Store old (state g.S.Store mid) _ (rw began at c.open_within.ensures.survives)) c.commit.ensures.survives in
    let same : end ≡ c.conn-in-Ok-Held-1.given.0 = search rules in
    subst (λ h. Survives (state g.S.Store old) (state g.S.Store h) P) same whole

pub returns-in-Ok-Alien-clause-ok : goal.returns-in-Ok-Alien-clause-ok
returns-in-Ok-Alien-clause-ok g c clean ours =
    let old = c.args.conn.now in
    let mid = c.open_within.new.tx.conn.now in
    let began = c.transaction-tx.ensures.begun in
    let early : HasCleanDisk (state g.S.Store mid) = search rules in
    let opened = rw began at (subst (IsOpened (state g.S.Store c.transaction-tx.result.conn.now) (state g.S.Store mid))
    c.in-Ok-Alien.field-0-is (c.in-Ok-Alien.ensures.ok early (rw began refl) (rw began ours))) in
    let by = opened.to in
    ((state g.S.Store mid).now, search (rules, by))

pub returns-in-Ok-clause-read : goal.returns-in-Ok-clause-read
returns-in-Ok-clause-read g c =
    let mid = c.open_within.new.tx.conn.now in
    let end = c.commit.new.self.0 in
    let whole : HasCleanDisk (state g.S.Store end) → AreRead (state g.S.Store end).now c.in-Ok-Held.tables =
    λ clean.
    let read = subst (IsRead (state g.S.Store mid).now)
    c.in-Ok-Held.field-0-is (c.in-Ok-Held.ensures.read (omega (arith, c.commit.ensures.survives.clean))) in
    subst (λ (d : Database). AreRead d c.in-Ok-Held.tables) (sym (c.in-Ok.ensures.ok clean).1.now_is) read in
    let same : end ≡ c.conn-in-Ok-Held-1.given.0 = search rules in
    subst (λ h. HasCleanDisk (state g.S.Store h) → AreRead (state g.S.Store h).now c.in-Ok-Held.tables) same whole

pub returns-in-Err-clause-fails : goal.returns-in-Err-clause-fails
returns-in-Err-clause-fails g c =
    let old = c.args.conn.now in
    let mid = c.open_within.new.tx.conn.now in
    let end = c.drop-tx.new.self.0 in
    let began = c.transaction-tx.ensures.begun in
    let whole : HasCleanDisk (state g.S.Store end) → FailsWhole g.S.Store old end FailsToOpenStore c.in-Err.error =
    λ clean.
    let early : HasCleanDisk (state g.S.Store mid) = omega (arith, c.drop-tx.ensures.survives.clean) in
    let failed : FailsLater g.S.Store (begun old) mid FailsToOpenStore c.in-Err.error = (rw began at (c.in-Err.ensures.fails early)) refl in
    inl (mid, failed, c.drop-tx.ensures.undone clean, c.drop-tx.ensures.survives) in
    let same : end ≡ c.conn-1.given.0 = search rules in
    subst (λ h. HasCleanDisk (state g.S.Store h) → FailsWhole g.S.Store old h FailsToOpenStore c.in-Err.error) same whole

pub returns-in-Err-commit-clause-fails : goal.returns-in-Err-commit-clause-fails
returns-in-Err-commit-clause-fails g c =
    let old = c.args.conn.now in
    let mid = c.open_within.new.tx.conn.now in
    let end = c.commit.new.self.0 in
    let began = c.transaction-tx.ensures.begun in
    let whole : HasCleanDisk (state g.S.Store end) → FailsWhole g.S.Store old end FailsToOpenStore c.in-Err-commit.error =
    λ clean.
    let early : HasCleanDisk (state g.S.Store mid) = omega (arith, c.commit.ensures.survives.clean) in
    let reached : GoesOn g.S.Store (begun old) mid = (rw began at (c.in-Ok-Held.ensures.goes_on early)) refl in
    inr (mid, reached, c.in-Err-commit.ensures.err clean) in
    let same : end ≡ c.conn-in-Ok-Held-1.given.0 = search rules in
    subst (λ h. HasCleanDisk (state g.S.Store h) → FailsWhole g.S.Store old h FailsToOpenStore c.in-Err-commit.error) same whole
