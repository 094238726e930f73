use Rattle.std.proofs.Common.{◌∙◌, arith, inl, inr, refl, subst, sym}
use Rattle.sqlite.specs.Held.{state}
use Rattle.sqlite.specs.State.{HasCleanDisk, IsUnchanged}
use Rattle.keeper_sql.specs.Store.{IsAfterOpen}
use Rattle.keeper_sql.specs.Opening.{IsRefusedAt, IsStored, IsRead}
use Rattle.keeper_sql.specs.Failing.{FailsToOpenStore, FailsWhole}
use Rattle.keeper_sql.proofs.KeepLemmas.{left_old_or}
use Rattle.keeper_sql.proofs.opened.open_kept.Goals as goal

pub returns-in-Ok-Held-clause-ok : goal.returns-in-Ok-Held-clause-ok
returns-in-Ok-Held-clause-ok g c clean ours =
    subst (IsStored (state g.S.Store c.args.conn.now) (state g.S.Store c.open_store.new.conn))
    c.in-Ok-Held.field-0-is (c.in-Ok-Held.ensures.ok clean ours)

pub returns-in-Ok-Held-clause-read : goal.returns-in-Ok-Held-clause-read
returns-in-Ok-Held-clause-read g c clean =
    subst (IsRead (state g.S.Store c.open_store.new.conn).now) c.in-Ok-Held.field-0-is (c.in-Ok-Held.ensures.read clean)

pub returns-else-is_still_open-clause-fails : goal.returns-else-is_still_open-clause-fails
returns-else-is_still_open-clause-fails g c clean =
    let end = c.open_store.new.conn in
    let early : HasCleanDisk (state g.S.Store end) = omega (arith, c.is_still_open.ensures.survives.clean) in
    let never = subst IsRefusedAt c.in-Ok-Alien.field-0-is c.in-Ok-Alien.ensures.never in
    let found = subst (IsStored (state g.S.Store c.args.conn.now) (state g.S.Store end)) c.in-Ok-Alien.field-0-is in
    inr (
      end,
      c.in-Ok-Alien.version,
      (never.0, never.1, λ ours. found (c.in-Ok-Alien.ensures.ok early ours)),
      c.open_store.ensures.survives,
      c.is_still_open.ensures.fails clean c.if-is_still_open.false,
    )

pub returns-then-is_only_memory-clause-fails : goal.returns-then-is_only_memory-clause-fails
returns-then-is_only_memory-clause-fails g c clean =
    let end = c.open_store.new.conn in
    let early : HasCleanDisk (state g.S.Store end) = omega (arith, c.is_only_memory.ensures.survives.clean) in (
      end,
      subst (FailsWhole g.S.Store c.args.conn.now end FailsToOpenStore) (c.if-is_only_memory.ensures.memory refl)
          (c.in-Err.ensures.fails early),
      c.if-is_only_memory.ensures.same clean refl,
    )

pub returns-else-is_only_memory-clause-fails : goal.returns-else-is_only_memory-clause-fails
returns-else-is_only_memory-clause-fails g c clean =
    let end = c.open_store.new.conn in
    let early : HasCleanDisk (state g.S.Store end) = omega (arith, c.is_only_memory.ensures.survives.clean) in
    inl (
      end,
      c.in-Err.error,
      c.in-Err.ensures.fails early,
      c.is_only_memory.ensures.fails clean c.if-is_only_memory.false,
      c.is_only_memory.ensures.survives,
    )

pub returns-then-is_only_memory-clause-crash : goal.returns-then-is_only_memory-clause-crash
returns-then-is_only_memory-clause-crash g c clean was =
    let old = state g.S.Store c.args.conn.now in
    left_old_or (IsAfterOpen old) old (state g.S.Store c.open_store.new.conn) (state g.S.Store c.is_only_memory.new.conn)
    (c.is_settled-settled.ensures.exact was) c.open_store.ensures.survives c.is_only_memory.ensures.survives clean

pub returns-else-is_only_memory-clause-crash : goal.returns-else-is_only_memory-clause-crash
returns-else-is_only_memory-clause-crash g c clean was =
    let old = state g.S.Store c.args.conn.now in
    left_old_or (IsAfterOpen old) old (state g.S.Store c.open_store.new.conn) (state g.S.Store c.is_only_memory.new.conn)
    (c.is_settled-settled.ensures.exact was) c.open_store.ensures.survives c.is_only_memory.ensures.survives clean

pub returns-then-is_only_memory-clause-still : goal.returns-then-is_only_memory-clause-still
returns-then-is_only_memory-clause-still g c clean ours =
    let end = state g.S.Store c.open_store.new.conn in
    let early : HasCleanDisk end = omega (arith, c.is_only_memory.ensures.survives.clean) in
    let same : IsUnchanged end (state g.S.Store c.is_only_memory.new.conn) = c.if-is_only_memory.ensures.same clean refl in
    let was = c.in-Err.ensures.was_open early ours same.0.was_open in (
      same.0.is_open,
      was,
      same.0.now_is ∙ c.in-Err.ensures.undone early ours same.0.was_open
          ∙ sym (c.is_settled-settled.ensures.committed was),
    )
