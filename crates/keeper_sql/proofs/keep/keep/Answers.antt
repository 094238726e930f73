use Rattle.std.proofs.Common.{arith, refl, subst}
use Rattle.sqlite.specs.Held.{state}
use Rattle.sqlite.specs.State.{HasCleanDisk}
use Rattle.keeper_sql.specs.Store.{IsAfter}
use Rattle.keeper_sql.specs.Failing.{FailsToInsertRows, FailsWhole}
use Rattle.keeper_sql.proofs.KeepLemmas.{left_old_or}
use Rattle.keeper_sql.proofs.keep.keep.Goals as goal

pub returns-then-is_only_memory-clause-fails : goal.returns-then-is_only_memory-clause-fails
returns-then-is_only_memory-clause-fails g c clean =
    let end = c.commit_change.new.conn in
    let early : HasCleanDisk (state g.S.Store end) = omega (arith, c.is_only_memory.ensures.survives.clean) in (
      end,
      subst (FailsWhole g.S.Store c.args.conn.now end (FailsToInsertRows c.args.change.now)) (c.if-is_only_memory.ensures.memory refl)
          (c.in-Err.ensures.fails early),
      c.if-is_only_memory.ensures.same clean refl,
    )

pub returns-else-is_only_memory-clause-fails : goal.returns-else-is_only_memory-clause-fails
returns-else-is_only_memory-clause-fails g c clean =
    let end = c.commit_change.new.conn in
    let early : HasCleanDisk (state g.S.Store end) = omega (arith, c.is_only_memory.ensures.survives.clean) in (
      end,
      c.in-Err.error,
      c.in-Err.ensures.fails early,
      c.is_only_memory.ensures.fails clean c.if-is_only_memory.false,
      c.is_only_memory.ensures.survives,
    )

pub returns-else-is_only_memory-clause-crash : goal.returns-else-is_only_memory-clause-crash
returns-else-is_only_memory-clause-crash g c clean was =
    let old = state g.S.Store c.args.conn.now in
    left_old_or (IsAfter c.args.change.now old) old (state g.S.Store c.commit_change.new.conn) (state g.S.Store c.is_only_memory.new.conn)
    (c.is_settled-settled.ensures.exact was) c.commit_change.ensures.survives c.is_only_memory.ensures.survives clean
