use Rattle.std.proofs.Common.{rules, inl, inr, ◌≡◌, ◌∙◌, sym, ap, subst, arith, pos}
use Rattle.sqlite.specs.Held.{state}
use Rattle.sqlite.specs.Effect.{Database}
use Rattle.sqlite.specs.State.{HasCleanDisk, IsUnchanged}
use Rattle.keeper_sql.specs.RowsAsValues.{tables_in}
use Rattle.keeper_sql.specs.Store.{OpensAt, AreAllKeyed, IsAtVersion}
use Rattle.keeper_sql.specs.Opening.{AreRead}
use Rattle.keeper_sql.specs.Failing.{FailsToOpenStore, FailsToPrepare, FailsToReadTables}
use Rattle.keeper_sql.proofs.FailingLemmas.{later, reaches_read, reaches_then, wider}
use Rattle.keeper_sql.proofs.OpeningLemmas.{opens_still}
use Rattle.keeper_sql.proofs.opened.open_within.Goals as goal

pub returns-in-Ok-read_tables-clause-ok : goal.returns-in-Ok-read_tables-clause-ok
returns-in-Ok-read_tables-clause-ok g c clean inside ours =
    let old = state g.S.Store c.args.tx.now.conn.now in
    let mid = state g.S.Store c.prepare.new.tx.conn.now in
    let new = state g.S.Store c.read_tables.new.tx.conn.now in
    let early : HasCleanDisk mid = omega (arith, c.read_tables.ensures.survives.clean) in
    let is_two : c.in-Ok-eq2.field-0 ≡ pos 2 = search rules in
    let at : OpensAt (pos 2) old mid = subst (λ v. OpensAt v old mid) is_two (c.in-Ok-eq2.ensures.ok early inside ours) in
    let same : IsUnchanged mid new = c.in-Ok-read_tables.ensures.same clean in
    let now = same.0.now_is in (
      opens_still (pos 2) old mid new at same,
      λ keyed. c.in-Ok-read_tables.ensures.read clean at.to.schema (subst AreAllKeyed now keyed)
          ∙ ap (λ (d : Database). tables_in d.trees) (sym now),
    )

pub returns-in-Ok-clause-ok : goal.returns-in-Ok-clause-ok
returns-in-Ok-clause-ok g c clean inside ours = let by = c.in-Ok.ensures.ok clean inside ours in search (rules, by)

pub returns-in-Ok-read_tables-clause-read : goal.returns-in-Ok-read_tables-clause-read
returns-in-Ok-read_tables-clause-read g c clean =
    let mid = state g.S.Store c.prepare.new.tx.conn.now in
    let new = state g.S.Store c.read_tables.new.tx.conn.now in
    let same : IsUnchanged mid new = c.in-Ok-read_tables.ensures.same clean in
    let early : HasCleanDisk mid = omega (arith, c.read_tables.ensures.survives.clean) in
    let is_two : c.in-Ok-eq2.field-0 ≡ pos 2 = search rules in
    subst (λ (d : Database). AreRead d c.in-Ok-read_tables.tables) (sym same.0.now_is)
    (record { rows = c.in-Ok-read_tables.ensures.read clean; version = subst (IsAtVersion mid.now) is_two (c.in-Ok-eq2.ensures.at early) })

pub returns-in-Ok-read_tables-clause-goes_on : goal.returns-in-Ok-read_tables-clause-goes_on
returns-in-Ok-read_tables-clause-goes_on g c clean inside =
    let old = c.args.tx.now.conn.now in
    let mid = c.prepare.new.tx.conn.now in
    let new = c.read_tables.new.tx.conn.now in
    let early : HasCleanDisk (state g.S.Store mid) = omega (arith, c.read_tables.ensures.survives.clean) in
    let reached = c.in-Ok-eq2.ensures.goes_on early inside in
    reaches_then g.S.Store old mid new reached
    (reaches_read g.S.Store mid new c.read_tables.ensures.survives reached.mode (c.in-Ok-read_tables.ensures.same clean))

pub returns-in-Ok-clause-goes_on : goal.returns-in-Ok-clause-goes_on
returns-in-Ok-clause-goes_on g c clean inside = c.in-Ok.ensures.goes_on clean inside

pub returns-in-Err-clause-fails : goal.returns-in-Err-clause-fails
returns-in-Err-clause-fails g c clean inside =
    wider g.S.Store FailsToPrepare FailsToOpenStore c.args.tx.now.conn.now c.prepare.new.tx.conn.now c.in-Err.error (λ a b h. inl h)
    (c.in-Err.ensures.fails clean inside)

pub returns-in-Err-read_tables-clause-fails : goal.returns-in-Err-read_tables-clause-fails
returns-in-Err-read_tables-clause-fails g c clean inside =
    let old = c.args.tx.now.conn.now in
    let mid = c.prepare.new.tx.conn.now in
    let new = c.read_tables.new.tx.conn.now in
    let e = c.in-Err-read_tables.error in
    let early : HasCleanDisk (state g.S.Store mid) = omega (arith, c.read_tables.ensures.survives.clean) in
    let reached = c.in-Ok-eq2.ensures.goes_on early inside in
    later g.S.Store FailsToOpenStore old mid new e reached (wider g.S.Store FailsToReadTables FailsToOpenStore mid new e (λ a b h. inr h)
    (c.in-Err-read_tables.ensures.fails clean reached.mode))
