use Rattle.std.proofs.Common.{inl, inr}
use Rattle.std.proofs.lemmas.Bool.{cases_Bool}
use Rattle.sqlite.specs.Held.{state}
use Rattle.keeper_sql.proofs.MetaLemmas.{writes_version, at_version}
use Rattle.keeper_sql.proofs.version.write_version.Goals as goal

pub returns-in-Ok-clause-ok : goal.returns-in-Ok-clause-ok
returns-in-Ok-clause-ok g c clean inside =
    let old = state g.S.Store c.args.tx.now.conn.now in
    let new = state g.S.Store c.execute.new.self.conn.now in
    let h = c.in-Ok.ensures.runs clean inside in
    record {
      was_open = λ _. h.1.was_open;
      is_open = λ _. h.1.is_open;
      mode = h.1.mode;
      committed = h.1.committed_is;
      writes = λ has meta. writes_version old new c.in-Ok.field-0 has meta h.0;
    }

pub returns-in-Ok-clause-at : goal.returns-in-Ok-clause-at
returns-in-Ok-clause-at g c clean =
    let old = state g.S.Store c.args.tx.now.conn.now in
    let new = state g.S.Store c.execute.new.self.conn.now in
    elim (cases_Bool old.in_transaction) [
      | inl inside ↦ at_version old new c.in-Ok.field-0 (c.in-Ok.ensures.runs clean inside).0
      | inr ended ↦ absurd (let e = (c.in-Ok.ensures.ended ended).0 in cc)
    ]
